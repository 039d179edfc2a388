-- The text of a process is a document.
use Rattle.std.proofs.Common.{ℕ, Bool, true, false, List, [], ◌∷◌, refl, lit≤}
use Rattle.std.specs.Prelude.{codes, decimal}
use Rattle.std.specs.List.{All}
use Rattle.std.proofs.lemmas.List.Elements.{All-head, All-tail}
use Rattle.tree_grammar.specs.Characters.{IsXmlText}
use Rattle.tree_grammar.specs.Elements as tree
use Rattle.tree_grammar.specs.Elements.{none, element}
use Rattle.document_tags.specs.Texts.{IsDocument}
use Rattle.document_tags.specs.Writing.{only, text_nodes, leaf, group, bare_root}
use Rattle.document_tags.proofs.PrintableTexts.{fixed_text, number_text}
use Rattle.document_tags.proofs.XmlNodes.{AreFlat, none_flat, text_flat, element_flat, still_flat, root_is_document}
use Rattle.ospl_grammar.specs.declared.process.JobState.{JobState}
use Rattle.ospl_grammar.specs.declared.process.JobState.TheVariants.{Issued, Waiting, Running, Finished, Killed}
use Rattle.ospl_grammar.specs.declared.process.StatedJob.{StatedJob}
use Rattle.ospl_grammar.specs.declared.process.Process.{Process}
use Rattle.ospl_grammar.specs.declared.process.Process.TheVariants.{Ask, Statistics}
use Rattle.ospl_grammar.specs.Words.{busy_text, state_text}
use Rattle.ospl_grammar.specs.Writing.{number_leaf, jobs_nodes, statistics_nodes, process_nodes, process_text}
use Rattle.ospl_grammar.specs.Back.{IsReadableProcess, ComesBack}

abbrev Flat : ℕ → tree.Nodes → Type 0
Flat n nodes = AreFlat n nodes nodes

busy_xml : (busy : Bool) → IsXmlText (busy_text busy)
busy_xml true = fixed_text (codes "busy") refl
busy_xml false = fixed_text (codes "idle") refl

state_xml : (s : JobState) → IsXmlText (state_text s)
state_xml Issued = fixed_text (codes "issued") refl
state_xml Waiting = fixed_text (codes "waiting") refl
state_xml Running = fixed_text (codes "running") refl
state_xml Finished = fixed_text (codes "finished") refl
state_xml Killed = fixed_text (codes "killed") refl

jobs_flat : (jobs : List StatedJob) → All (λ j. IsXmlText j.id) jobs → Flat 2 (jobs_nodes jobs)
jobs_flat [] xml = none_flat 2
jobs_flat (j ∷ more) xml =
    let state : Flat 1 (leaf (codes "state") (state_text j.state) none) = element_flat 0 (codes "state") [] (text_nodes (state_text j.state)) none (text_nodes (state_text j.state)) none refl tt (text_flat 0 (state_text j.state) (state_xml j.state)) (none_flat 1) in
    element_flat 1 (codes "job") (only (codes "jobID") j.id) (leaf (codes "state") (state_text j.state) none) (jobs_nodes more) (leaf (codes "state") (state_text j.state) none) (jobs_nodes more) refl (All-head (λ i. IsXmlText i.id) j more xml, tt) state
    (jobs_flat more (All-tail (λ i. IsXmlText i.id) j more xml))

statistics_flat : (busy : Bool) (current total : ℕ) (jobs : List StatedJob) → All (λ j. IsXmlText j.id) jobs → Flat 3 (statistics_nodes busy current total jobs)
statistics_flat busy current total jobs xml =
    let listed : Flat 3 (group (codes "jobs") (jobs_nodes jobs) none) = element_flat 2 (codes "jobs") [] (jobs_nodes jobs) none (jobs_nodes jobs) none refl tt (jobs_flat jobs xml) (none_flat 3) in
    let so_far : Flat 3 (number_leaf (codes "totalJobsSoFar") total (group (codes "jobs") (jobs_nodes jobs) none)) = element_flat 2 (codes "totalJobsSoFar") [] (text_nodes (decimal total)) _ (text_nodes (decimal total)) _ refl tt (text_flat 2 (decimal total) (number_text total)) listed in
    let now : Flat 3 (number_leaf (codes "currentJobCount") current (number_leaf (codes "totalJobsSoFar") total (group (codes "jobs") (jobs_nodes jobs) none))) = element_flat 2 (codes "currentJobCount") [] (text_nodes (decimal current)) _ (text_nodes (decimal current)) _ refl tt (text_flat 2 (decimal current) (number_text current)) so_far in
    element_flat 2 (codes "currentState") [] (text_nodes (busy_text busy)) _ (text_nodes (busy_text busy)) _ refl tt (text_flat 2 (busy_text busy) (busy_xml busy)) now

process_flat : (p : Process) → IsReadableProcess p → Flat 5 (process_nodes p)
process_flat (Ask text) is =
    let request : Flat 4 (element (codes "request") (only (codes "action") text) none none) = element_flat 3 (codes "request") (only (codes "action") text) none none none none refl (is, tt) (none_flat 3) (none_flat 4) in
    element_flat 4 (codes "processHeader") [] _ none _ none refl tt request (none_flat 5)
process_flat (Statistics busy current total jobs) is =
    let inner : Flat 4 (group (codes "statistics") (statistics_nodes busy current total jobs) none) = element_flat 3 (codes "statistics") [] (statistics_nodes busy current total jobs) none (statistics_nodes busy current total jobs) none refl tt (statistics_flat busy current total jobs is.2) (none_flat 4) in
    element_flat 4 (codes "processData") [] _ none _ none refl tt inner (none_flat 5)

pub text_document : (p : Process) → ComesBack p → IsDocument (process_text p) (bare_root (codes "ospl") (process_nodes p))
text_document p back = root_is_document (codes "ospl") (process_nodes p) refl refl (still_flat 5 31 (process_nodes p) (process_nodes p) (lit≤ tt) (process_flat p back.readable)) back.short
