use Rattle.std.proofs.Common.{◌≡◌}
use Rattle.job_table.specs.Jobs.{running_jobs}
use Rattle.job_table.specs.Remade.{settled}
use Rattle.job_table.proofs.jobs.Jobs.settle.Given as goal

abbrev pub invariant-loop : goal.invariant-loop
invariant-loop l = settled l.self ≡ settled l.fn.self

abbrev pub decreases-loop : goal.decreases-loop
decreases-loop l = running_jobs l.self.jobs
