use Rattle.std.proofs.Common.{◌-◌, ◌≤◌, List, length, drop}
use Rattle.tree_grammar.specs.Elements.{Element}
use Rattle.document_tags.specs.Spots.{StandsAt, AreSpots}
use Rattle.document_tags.proofs.Spots.{Finds}
use Rattle.document_tags.proofs.spot.Spot.push_children.Given as goal

abbrev pub invariant-loop-at : goal.invariant-loop-at
invariant-loop-at l = record {
  within : l.start ≤ length l.self.tree.now;
  finds : (e : Element) (es : List Element) → StandsAt l.self e → AreSpots l.fn.out.items es → Finds e l.name es (drop l.start l.self.tree.now) l.out.items;
}

abbrev pub decreases-loop-at : goal.decreases-loop-at
decreases-loop-at l = length l.self.tree.now - l.start
