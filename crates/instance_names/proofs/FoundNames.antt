-- What is found behind the marks of a document are its names.
use Rattle.std.proofs.Common.{◌≡◌, ◌∙◌, ℕ, ◌&&◌, Bool, true, false, cond, bytes_eq, List, [], ◌∷◌, ◌++◌, map, append_assoc, append-nil, refl, ap, ap₂, sym}
use Rattle.std.specs.Prelude.{codes}
use Rattle.std.specs.List.{list_all}
use Rattle.std.proofs.lemmas.Slice.Eq.{bytes_eq-Decides}
use Rattle.tree_grammar.specs.Document.{Doc}
use Rattle.tree_grammar.specs.Elements.{Nodes, none, element, chars, Element, events}
use Rattle.doc_tree.specs.Marks.{spread}
use Rattle.document_tags.specs.Documents.{OfDocument}
use Rattle.document_tags.specs.Elements.{named, children_named}
use Rattle.document_tags.specs.OneChild.{only_one}
use Rattle.document_tags.specs.Rests.{child_elements}
use Rattle.osrl_writing.specs.declared.told_names.NameLists.{NameLists}
use Rattle.osrl_writing.specs.Labels.{Labels}
use Rattle.instance_names.specs.declared.parse_state.PartNames.{PartNames}
use Rattle.instance_names.specs.declared.parse_state.PartNames.TheVariants.{Nothing, Plainly, Badly}
use Rattle.instance_names.specs.declared.parse_state.ParseState.{ParseState}
use Rattle.mark_folds.specs.Folds.{IsFolded}
use Rattle.instance_names.specs.Marked.{begun, with_item, item_begun, labels, again, start, left_by, left, found}
use Rattle.instance_names.specs.Reading.{is_single, name_of, names_in, part_names, document_names, MayGiveNames}
use Rattle.instance_names.proofs.Walks.{items_told, part_told, data_variables, data_rows, child_told, root_told, variables_told, rows_told}

-- ---- the items of a part

abbrev all_items : PartNames → List Element → PartNames
all_items p [] = p
all_items p (e ∷ es) = all_items (with_item e.attributes p) es

one_item : (is : Bool) (e : Element) (p : PartNames) (more : List Element) → all_items (cond is (with_item e.attributes p) p) more ≡ all_items p (cond is (e ∷ more) more)
one_item true e p more = refl
one_item false e p more = refl

items_are : (item : List ℕ) (ns : Nodes) (p : PartNames) → items_told item p ns ≡ all_items p (named item (child_elements ns))
items_are item none p = refl
items_are item (chars text more) p = items_are item more p
items_are item (element name as' inside more) p =
    items_are item more (item_begun item name as' p) ∙ one_item (bytes_eq name item) (record { name = name; attributes = as'; children = inside }) p (named item (child_elements more))

badly_items : (es : List Element) → all_items Badly es ≡ Badly
badly_items [] = refl
badly_items (e ∷ es) = badly_items es

badly_nodes : (item : List ℕ) (ns : Nodes) → items_told item Badly ns ≡ Badly
badly_nodes item ns = items_are item ns Badly ∙ badly_items (named item (child_elements ns))

next_item : (b : Bool) (e : Element) (es : List Element) (before : Labels)
    → labels (all_items (Plainly (before ++ name_of e ∷ [])) es) ≡ cond (list_all is_single es) ((before ++ name_of e ∷ []) ++ map name_of es) []
    → labels (all_items (cond b (Plainly (before ++ name_of e ∷ [])) Badly) es) ≡ cond (b && list_all is_single es) (before ++ name_of e ∷ map name_of es) []
next_item true e es before more = more ∙ ap (λ (ls : Labels). cond (list_all is_single es) ls []) (append_assoc before (name_of e ∷ []) (map name_of es))
next_item false e es before more = ap labels (badly_items es)

plain_items : (es : List Element) (before : Labels) → labels (all_items (Plainly before) es) ≡ cond (list_all is_single es) (before ++ map name_of es) []
plain_items [] before = sym (append-nil before)
plain_items (e ∷ es) before = next_item (is_single e) e es before (plain_items es (before ++ name_of e ∷ []))

-- behind a part the same once more is none
again_item : (b : Bool) (names : Labels) (es : List Element) → begun (all_items (Plainly names) es) ≡ Badly → begun (all_items (cond b (Plainly names) Badly) es) ≡ Badly
again_item true names es more = more
again_item false names es more = ap begun (badly_items es)

again_items : (es : List Element) (before : Labels) → begun (all_items (Plainly before) es) ≡ Badly
again_items [] before = refl
again_items (e ∷ es) before = again_item (is_single e) (before ++ name_of e ∷ []) es (again_items es (before ++ name_of e ∷ []))

-- ---- the parts of data

abbrev all_parts : (item : List ℕ) → PartNames → List Element → PartNames
all_parts item p [] = p
all_parts item p (e ∷ es) = all_parts item (items_told item (begun p) e.children) es

one_part : (is : Bool) (item : List ℕ) (e : Element) (p : PartNames) (more : List Element) → all_parts item (part_told is item p e.children) more ≡ all_parts item p (cond is (e ∷ more) more)
one_part true item e p more = refl
one_part false item e p more = refl

-- what nodes in data say of a part goes by the elements of its name
abbrev GoesBy : (part item : List ℕ) → (PartNames → Nodes → PartNames) → Type 0
GoesBy part item told = (ns : Nodes) (p : PartNames) → told p ns ≡ all_parts item p (named part (child_elements ns))

variables_are : GoesBy (codes "variables") (codes "var") data_variables
variables_are none p = refl
variables_are (chars text more) p = variables_are more p
variables_are (element name as' inside more) p =
    let is = bytes_eq name (codes "variables") in
    variables_are more (part_told is (codes "var") p inside) ∙ one_part is (codes "var") (record { name = name; attributes = as'; children = inside }) p (named (codes "variables") (child_elements more))

other_part : (name : List ℕ) → bytes_eq name (codes "variables") ≡ true → bytes_eq name (codes "constraints") ≡ false
other_part name is = ap (λ (n : List ℕ). bytes_eq n (codes "constraints")) ((bytes_eq-Decides name (codes "variables")).0 is)

unless_first : (a b : Bool) (p q : PartNames) → (a ≡ true → b ≡ false) → cond a p (cond b q p) ≡ cond b q p
unless_first true b p q other = ap (λ (x : Bool). cond x q p) (sym (other refl))
unless_first false b p q other = refl

rows_are : GoesBy (codes "constraints") (codes "con") data_rows
rows_are none p = refl
rows_are (chars text more) p = rows_are more p
rows_are (element name as' inside more) p =
    let is = bytes_eq name (codes "constraints") in
    let told : PartNames = part_told is (codes "con") p inside in
    ap (λ (q : PartNames). data_rows q more) (unless_first (bytes_eq name (codes "variables")) is p (items_told (codes "con") (begun p) inside) (other_part name))
    ∙ rows_are more told ∙ one_part is (codes "con") (record { name = name; attributes = as'; children = inside }) p (named (codes "constraints") (child_elements more))

badly_parts : (item : List ℕ) (es : List Element) → all_parts item Badly es ≡ Badly
badly_parts item [] = refl
badly_parts item (e ∷ es) = ap (λ (p : PartNames). all_parts item p es) (badly_nodes item e.children) ∙ badly_parts item es

again_part : (item : List ℕ) (ns : Nodes) → begun (items_told item (Plainly []) ns) ≡ Badly
again_part item ns = ap begun (items_are item ns (Plainly [])) ∙ again_items (named item (child_elements ns)) []

parts_names : (item : List ℕ) (es : List Element) → labels (all_parts item Nothing es) ≡ names_in item (only_one es)
parts_names item [] = refl
parts_names item (e ∷ []) = ap labels (items_are item e.children (Plainly [])) ∙ plain_items (children_named item e) []
parts_names item (e ∷ f ∷ es) = ap (λ (p : PartNames). labels (all_parts item (items_told item p f.children) es)) (again_part item e.children) ∙ ap labels (badly_parts item (f ∷ es))

-- ---- the data of a document

abbrev all_data : (PartNames → Nodes → PartNames) → Bool → PartNames → List Element → PartNames
all_data told had p [] = p
all_data told had p (e ∷ es) = all_data told true (told (again had p) e.children) es

one_data : (is : Bool) (told : PartNames → Nodes → PartNames) (had : Bool) (e : Element) (p : PartNames) (more : List Element)
    → all_data told (cond is true had) (child_told told is had p e.children) more ≡ all_data told had p (cond is (e ∷ more) more)
one_data true told had e p more = refl
one_data false told had e p more = refl

data_are : (told : PartNames → Nodes → PartNames) (ns : Nodes) (had : Bool) (p : PartNames) → root_told told had p ns ≡ all_data told had p (named (codes "instanceData") (child_elements ns))
data_are told none had p = refl
data_are told (chars text more) had p = data_are told more had p
data_are told (element name as' inside more) had p =
    let is = bytes_eq name (codes "instanceData") in
    data_are told more (cond is true had) (child_told told is had p inside)
    ∙ one_data is told had (record { name = name; attributes = as'; children = inside }) p (named (codes "instanceData") (child_elements more))

badly_data : (told : PartNames → Nodes → PartNames) → ((ns : Nodes) → told Badly ns ≡ Badly) → (ds : List Element) → all_data told true Badly ds ≡ Badly
badly_data told stays [] = refl
badly_data told stays (d ∷ ds) = ap (λ (p : PartNames). all_data told true p ds) (stays d.children) ∙ badly_data told stays ds

data_names : (told : PartNames → Nodes → PartNames) (part item : List ℕ) → GoesBy part item told → (ds : List Element) → labels (all_data told false Nothing ds) ≡ part_names part item (only_one ds)
data_names told part item goes [] = refl
data_names told part item goes (d ∷ []) = ap labels (goes d.children Nothing) ∙ parts_names item (children_named part d)
data_names told part item goes (d ∷ e ∷ ds) = ap labels (badly_data told (λ ns. goes ns Badly ∙ badly_parts item (named part (child_elements ns))) (e ∷ ds))

root_names : (told : PartNames → Nodes → PartNames) (part item : List ℕ) (root : Element) → GoesBy part item told → labels (root_told told false Nothing root.children) ≡ part_names part item (only_one (children_named (codes "instanceData") root))
root_names told part item root goes = ap labels (data_are told root.children false Nothing) ∙ data_names told part item goes (children_named (codes "instanceData") root)

names_found : (root : Element) → found (left start (spread (events root))) ≡ document_names root
names_found root =
    ap₂ (λ (vs rs : Labels). let ns : NameLists = record { variables = vs; rows = rs } in ns)
    (ap labels (variables_told root) ∙ root_names data_variables (codes "variables") (codes "var") root variables_are)
    (ap labels (rows_told root) ∙ root_names data_rows (codes "constraints") (codes "con") root rows_are)

-- behind the marks of a document its names are found, whatever it is read as
pub may_be_found : (bytes : List ℕ) (first s : ParseState) (ns : NameLists) → first ≡ start → ((a b : Element) → Doc bytes a → Doc bytes b → a ≡ b) → ns ≡ found s → OfDocument (IsFolded left_by first) bytes s → MayGiveNames bytes ns
may_be_found bytes first s ns begins one is read = λ root doc.
    let own = read.document in
    is ∙ ap found (read.is ∙ ap (λ (z : ParseState). left z (spread (events read.root))) begins) ∙ names_found read.root ∙ ap document_names (one read.root root own.document doc.document)
