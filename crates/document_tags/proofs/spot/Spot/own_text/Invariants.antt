use Rattle.std.proofs.Common.{◌-◌, ◌≤◌, length, drop}
use Rattle.tree_grammar.specs.Elements.{Element}
use Rattle.document_tags.specs.Spots.{StandsAt}
use Rattle.document_tags.proofs.Spots.{Collects}
use Rattle.document_tags.proofs.spot.Spot.own_text.Given as goal

abbrev pub invariant-loop-at : goal.invariant-loop-at
invariant-loop-at l = record {
  within : l.at ≤ length l.self.tree.now;
  collects : (e : Element) → StandsAt l.self e → Collects e (drop l.at l.self.tree.now) l.out;
}

abbrev pub decreases-loop-at : goal.decreases-loop-at
decreases-loop-at l = length l.self.tree.now - l.at
