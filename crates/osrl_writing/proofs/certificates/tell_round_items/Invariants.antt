use Rattle.osrl_writing.proofs.Names.{◌≡◌, List, [], ◌++◌, map, drop, Event, nodes_events, said, item_nodes, round_text}
use Rattle.osrl_writing.proofs.certificates.tell_round_items.Given as goal

abbrev pub invariant-loop-round : goal.invariant-loop-round
invariant-loop-round l = record {
  waiting : l.b.attributes ≡ [];
  told : (behind : List Event) → said l.b ++ nodes_events (item_nodes (map round_text (drop l.round-index l.rounds))) behind ≡ said l.fn.b ++ nodes_events (item_nodes (map round_text l.rounds)) behind;
}
