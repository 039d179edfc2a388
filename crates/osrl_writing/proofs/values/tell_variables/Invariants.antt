use Rattle.osrl_writing.proofs.Names.{◌≡◌, List, [], ◌++◌, drop, Event, nodes_events, said, variable_values}
use Rattle.osrl_writing.proofs.values.tell_variables.Given as goal

abbrev pub invariant-loop-j : goal.invariant-loop-j
invariant-loop-j l = record {
  waiting : l.b.attributes ≡ [];
  told : (behind : List Event) → said l.b ++ nodes_events (variable_values l.names l.j (drop l.j l.point)) behind ≡ said l.fn.b ++ nodes_events (variable_values l.names 0 l.point) behind;
}
