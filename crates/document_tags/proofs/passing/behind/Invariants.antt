use Rattle.std.proofs.Common.{◌≡◌, ℕ, ◌-◌, ◌≤◌, List, ◌∷◌, length, drop}
use Rattle.tree_grammar.specs.Elements.{Nodes, Event, Close, nodes_events}
use Rattle.document_tags.specs.Passages.{Pending}
use Rattle.document_tags.proofs.passing.behind.Given as goal

abbrev pub invariant-loop-depth : goal.invariant-loop-depth
invariant-loop-depth l = record {
  later : l.start ≤ l.at;
  within : l.at ≤ length l.tree;
  near : l.depth ≤ l.at;
  pending : (name : List ℕ) (content : Nodes) (rest : List Event) → drop l.start l.tree ≡ nodes_events content (Close name ∷ rest) → Pending l.depth (drop l.at l.tree) rest;
}

abbrev pub decreases-loop-depth : goal.decreases-loop-depth
decreases-loop-depth l = length l.tree - l.at
