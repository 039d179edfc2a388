use Rattle.std.proofs.Common.{◌-◌, ◌≤◌, length, drop}
use Rattle.tree_grammar.specs.Elements.{Element}
use Rattle.document_tags.specs.Spots.{StandsAt}
use Rattle.document_tags.specs.ChildElements.{GathersChildren}
use Rattle.document_tags.proofs.content.child_elements.Given as goal

abbrev pub invariant-loop-at : goal.invariant-loop-at
invariant-loop-at l = record {
  within : l.at ≤ length l.tree;
  near : l.depth ≤ l.at;
  gathers : (e : Element) → StandsAt l.spot e → GathersChildren e l.depth (drop l.at l.tree) l.out.items;
}

abbrev pub decreases-loop-at : goal.decreases-loop-at
decreases-loop-at l = length l.tree - l.at
