use Rattle.osrl_writing.proofs.Names.{◌≡◌, ◌+◌, List, [], ◌++◌, drop, Event, nodes_events, said, item_nodes, level_texts}
use Rattle.osrl_writing.proofs.certificates.tell_levels.Given as goal

abbrev pub invariant-loop-i : goal.invariant-loop-i
invariant-loop-i l = record {
  waiting : l.b.attributes ≡ [];
  told : (behind : List Event) → said l.b ++ nodes_events (item_nodes (level_texts (l.i + 2) (drop l.i l.later))) behind ≡ said l.fn.b ++ nodes_events (item_nodes (level_texts 2 l.later)) behind;
}
