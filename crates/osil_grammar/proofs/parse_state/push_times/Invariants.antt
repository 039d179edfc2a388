use Rattle.osil_grammar.proofs.Words.{◌≡◌, ◌++◌, replicate}
use Rattle.osil_grammar.proofs.parse_state.push_times.Given as goal

abbrev pub invariant-loop : goal.invariant-loop
invariant-loop g l = l.items.items ≡ l.fn.items.items ++ replicate l.counter l.item
