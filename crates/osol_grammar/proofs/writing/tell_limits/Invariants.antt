use Rattle.std.proofs.Common.{◌≡◌, List, [], ◌++◌, drop}
use Rattle.std.specs.Prelude.{filter}
use Rattle.tree_grammar.specs.Elements.{Event, none, nodes_events}
use Rattle.element_tree.specs.Building.{said}
use Rattle.osol_grammar.specs.Limits.{all}
use Rattle.osol_grammar.specs.Writing.{is_told, option_nodes}
use Rattle.osol_grammar.proofs.writing.tell_limits.Given as goal

abbrev pub invariant-loop-limit : goal.invariant-loop-limit
invariant-loop-limit l = record {
  waiting : l.b.attributes ≡ [];
  told : (behind : List Event) → said l.b ++ nodes_events (option_nodes l.options (filter (is_told l.options) (drop l.limit-index all)) none) behind ≡ said l.fn.b ++ nodes_events (option_nodes l.options (filter (is_told l.options) all) none) behind;
}
