use Rattle.osil_grammar.proofs.Words.{◌-◌}
use Rattle.osil_grammar.proofs.RatioRuns.{HasRun}
use Rattle.osil_grammar.proofs.run_numbers.push_decimals.Given as goal

abbrev pub invariant-loop-place : goal.invariant-loop-place
invariant-loop-place l = HasRun l.fn.list.items l.list.items l.fn.first l.fn.step l.next (l._place - 1)
