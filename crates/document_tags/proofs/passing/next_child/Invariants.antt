use Rattle.std.proofs.Common.{◌≡◌, ℕ, ◌-◌, ◌≤◌, List, ◌∷◌, length, drop}
use Rattle.tree_grammar.specs.Elements.{Nodes, Event, Close, nodes_events}
use Rattle.document_tags.specs.Passages.{Remains}
use Rattle.document_tags.proofs.passing.next_child.Given as goal

abbrev pub invariant-loop-at : goal.invariant-loop-at
invariant-loop-at l = record {
  later : l.start ≤ l.at;
  within : l.at ≤ length l.tree;
  remains : (name : List ℕ) (content : Nodes) (rest : List Event) → drop l.start l.tree ≡ nodes_events content (Close name ∷ rest) → Remains content name rest (drop l.at l.tree);
}

abbrev pub decreases-loop-at : goal.decreases-loop-at
decreases-loop-at l = length l.tree - l.at
