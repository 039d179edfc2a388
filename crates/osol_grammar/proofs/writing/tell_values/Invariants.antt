use Rattle.std.proofs.Common.{◌≡◌, List, [], ◌++◌, drop}
use Rattle.tree_grammar.specs.Elements.{Event, nodes_events}
use Rattle.element_tree.specs.Building.{said}
use Rattle.osol_grammar.specs.Writing.{values_nodes}
use Rattle.osol_grammar.proofs.writing.tell_values.Given as goal

abbrev pub invariant-loop-index : goal.invariant-loop-index
invariant-loop-index l = record {
  waiting : l.b.attributes ≡ [];
  told : (behind : List Event) → said l.b ++ nodes_events (values_nodes l.index (drop l.index l.values)) behind ≡ said l.fn.b ++ nodes_events (values_nodes 0 l.values) behind;
}
