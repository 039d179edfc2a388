use Rattle.osrl_writing.proofs.Names.{◌≡◌, ◌+◌, List, [], ◌++◌, drop, Event, nodes_events, said, goal_values}
use Rattle.osrl_writing.proofs.values.tell_goals.Given as goal

abbrev pub invariant-loop-k : goal.invariant-loop-k
invariant-loop-k l = record {
  waiting : l.b.attributes ≡ [];
  told : (behind : List Event) → said l.b ++ nodes_events (goal_values (l.k + 1) (drop l.k l.values)) behind ≡ said l.fn.b ++ nodes_events (goal_values 1 l.values) behind;
}
