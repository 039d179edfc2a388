-- The document that a process is written as (Optimization Services process language), and its text.
use Rattle.std.specs.Prelude.{ℕ, Bool, List, [], ◌∷◌, codes, decimal}
use Rattle.tree_grammar.specs.Elements as tree
use Rattle.tree_grammar.specs.Elements.{none, element, Element}
use Rattle.tree_grammar.specs.WrittenText.{written}
use Rattle.document_tags.specs.Writing.{only, leaf, group, rooted}
use Rattle.ospl_grammar.specs.declared.process.StatedJob.{StatedJob}
use Rattle.ospl_grammar.specs.declared.process.Process.{Process}
use Rattle.ospl_grammar.specs.declared.process.Process.TheVariants.{Ask, Statistics}
use Rattle.ospl_grammar.specs.Words.{busy_text, state_text}

-- a number in an element of this name, and then more
abbrev pub number_leaf : List ℕ → ℕ → tree.Nodes → tree.Nodes
number_leaf name n more = leaf name (decimal n) more

-- jobs, each with its name and its state
abbrev pub jobs_nodes : List StatedJob → tree.Nodes
jobs_nodes [] = none
jobs_nodes (j ∷ more) = element (codes "job") (only (codes "jobID") j.id) (leaf (codes "state") (state_text j.state) none) (jobs_nodes more)

-- the four parts of statistics
abbrev pub statistics_nodes : Bool → ℕ → ℕ → List StatedJob → tree.Nodes
statistics_nodes busy current total jobs = leaf (codes "currentState") (busy_text busy) (number_leaf (codes "currentJobCount") current (number_leaf (codes "totalJobsSoFar") total (group (codes "jobs") (jobs_nodes jobs) none)))

-- what stands in the root
abbrev pub process_nodes : Process → tree.Nodes
process_nodes (Ask text) = group (codes "processHeader") (element (codes "request") (only (codes "action") text) none none) none
process_nodes (Statistics busy current total jobs) = group (codes "processData") (group (codes "statistics") (statistics_nodes busy current total jobs) none) none

-- the root that a process is written as
abbrev pub process_element : Process → Element
process_element p = rooted (codes "ospl") (process_nodes p)

-- the text of a process
abbrev pub process_text : Process → List ℕ
process_text p = written (process_element p)
