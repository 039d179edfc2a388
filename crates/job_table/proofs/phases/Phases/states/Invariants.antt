use Rattle.std.proofs.Common.{◌≡◌, ◌++◌}
use Rattle.job_table.specs.Jobs.{states}
use Rattle.job_table.specs.Places.{held_in}
use Rattle.job_table.proofs.phases.Phases.states.Given as goal

abbrev pub invariant-loop-number : goal.invariant-loop-number
invariant-loop-number l = l.all ++ states (held_in l.number-iterator) ≡ states l.self
