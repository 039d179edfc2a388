-- The text of a report is a document.
use Rattle.osrl_grammar.proofs.Names.{ℕ, Bool, true, false, Option, None, Some, List, refl, lit≤, codes, Each, Nodes, none, Element, Printable, list_printable, IsDocument, printable_text, none_flat, Claim, JobStatus, Report, status_text, leaf, group, leaf_of, claim_nodes, optimization, general_type, general_nodes, status_nodes, NameLists, AreXmlNames, no_names, named_element, named_text, report_text, length, document_limit, ◌≤◌, IsBareOrNone, ComesBack}
use Rattle.document_tags.specs.Writing.{bare_root}
use Rattle.document_tags.proofs.XmlNodes.{still_flat, root_is_document}
use Rattle.osrl_writing.specs.declared.report.JobStatus.TheVariants as statuses
use Rattle.osrl_grammar.proofs.BackNodes.{Flat, leaf_flat, group_flat, typed_flat, claim_flat}

type_printable : (error : Bool) → Each Printable (general_type error)
type_printable true = list_printable (codes "error") refl
type_printable false = list_printable (codes "normal") refl

status_printable : (s : JobStatus) → Each Printable (status_text s)
status_printable statuses.Unknown = list_printable (codes "unknown") refl
status_printable s = list_printable (status_text s) refl

said_flat : (name : List ℕ) (o : Option (List ℕ)) (more : Nodes) → ((text : List ℕ) → IsBareOrNone (Some text) → Flat 4 (leaf name text more)) → Flat 4 more → IsBareOrNone o → Flat 4 (leaf_of name o more)
said_flat name None more one rest h = rest
said_flat name (Some text) more one rest h = one text h

general_flat : (r : Report) → ComesBack r → Flat 4 (general_nodes r)
general_flat r back =
    let message = said_flat (codes "message") r.message none (λ text h. leaf_flat 3 (codes "message") text none refl refl h.characters (none_flat 4)) (none_flat 4) back.message in
    let job = said_flat (codes "jobID") r.job (leaf_of (codes "message") r.message none) (λ text h. leaf_flat 3 (codes "jobID") text (leaf_of (codes "message") r.message none) refl refl h.characters message) message back.job in
    typed_flat 3 (codes "generalStatus") (general_type r.error) (leaf_of (codes "jobID") r.job (leaf_of (codes "message") r.message none)) refl refl (type_printable r.error) job

optimization_flat : (ns : NameLists) → AreXmlNames ns → (o : Option Claim) → Flat 5 (optimization ns o)
optimization_flat ns xml None = none_flat 5
optimization_flat ns xml (Some c) = group_flat 4 (codes "optimization") (group (codes "solution") (claim_nodes ns c) none) none refl refl (group_flat 3 (codes "solution") (claim_nodes ns c) none refl refl (claim_flat ns xml c) (none_flat 4)) (none_flat 5)

children_flat : (ns : NameLists) → AreXmlNames ns → (r : Report) → ComesBack r → Flat 5 (named_element ns r).children
children_flat ns xml r back =
    let status = leaf_flat 3 (codes "status") (status_text r.status) none refl refl (printable_text (status_text r.status) (status_printable r.status)) (none_flat 4) in
    let job = group_flat 4 (codes "job") (leaf (codes "status") (status_text r.status) none) (optimization ns r.claim) refl refl status (optimization_flat ns xml r.claim) in
    group_flat 4 (codes "general") (general_nodes r) (status_nodes r.status (optimization ns r.claim)) refl refl (general_flat r back) job

-- the root that is read, which has no attribute
abbrev pub root_of : NameLists → Report → Element
root_of ns r = bare_root (codes "osrl") (named_element ns r).children

pub named_document : (ns : NameLists) → AreXmlNames ns → (r : Report) → ComesBack r → length (named_text ns r) ≤ document_limit → IsDocument (named_text ns r) (root_of ns r)
named_document ns xml r back short =
    root_is_document (codes "osrl") (named_element ns r).children refl refl (still_flat 5 31 (named_element ns r).children (named_element ns r).children (lit≤ tt) (children_flat ns xml r back)) short

-- no name is one that isn't of characters of XML
pub no_names_xml : AreXmlNames no_names
no_names_xml = record { variables = λ j. tt; rows = λ j. tt }

pub text_document : (r : Report) → ComesBack r → IsDocument (report_text r) (root_of no_names r)
text_document r back = named_document no_names no_names_xml r back back.short
