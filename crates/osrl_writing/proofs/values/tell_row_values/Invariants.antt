use Rattle.osrl_writing.proofs.Names.{◌≡◌, List, [], ◌++◌, drop, Event, nodes_events, said, row_values}
use Rattle.osrl_writing.proofs.values.tell_row_values.Given as goal

abbrev pub invariant-loop-mult : goal.invariant-loop-mult
invariant-loop-mult l = record {
  waiting : l.b.attributes ≡ [];
  told : (behind : List Event) → said l.b ++ nodes_events (row_values l.names l.width (drop l.mult-index l.mults)) behind ≡ said l.fn.b ++ nodes_events (row_values l.names l.width l.mults) behind;
}
