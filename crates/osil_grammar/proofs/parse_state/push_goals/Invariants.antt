use Rattle.osil_grammar.proofs.Words.{◌≡◌, ◌++◌, replicate, Goal}
use Rattle.osil_grammar.proofs.parse_state.push_goals.Given as goal

abbrev pub invariant-loop : goal.invariant-loop
invariant-loop l = let one : Goal = record { sense = l.sense; constant = l.constant; costs = l.costs } in l.goals.items ≡ l.fn.goals.items ++ replicate l.counter one
