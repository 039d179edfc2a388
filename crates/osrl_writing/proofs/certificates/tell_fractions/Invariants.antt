use Rattle.osrl_writing.proofs.Names.{◌≡◌, List, [], ◌++◌, drop, Event, nodes_events, said, item_nodes, fraction_texts}
use Rattle.osrl_writing.proofs.certificates.tell_fractions.Given as goal

abbrev pub invariant-loop-value : goal.invariant-loop-value
invariant-loop-value l = record {
  waiting : l.b.attributes ≡ [];
  told : (behind : List Event) → said l.b ++ nodes_events (item_nodes (fraction_texts (drop l.value-index l.values))) behind ≡ said l.fn.b ++ nodes_events (item_nodes (fraction_texts l.values)) behind;
}
