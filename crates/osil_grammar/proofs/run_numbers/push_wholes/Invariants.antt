use Rattle.osil_grammar.proofs.Words.{◌≡◌, ◌-◌, ◌++◌, whole_run, wholes}
use Rattle.osil_grammar.proofs.RunSteps.{at_step}
use Rattle.osil_grammar.proofs.run_numbers.push_wholes.Given as goal

abbrev pub invariant-loop-place : goal.invariant-loop-place
invariant-loop-place l = wholes l.list.items ++ whole_run (at_step l.first l.step l.place) l.step (l.times - l.place) ≡ wholes l.fn.list.items ++ whole_run l.first l.step l.times
