use Rattle.std.proofs.Common.{subst}
use Rattle.job_table.specs.Jobs.{Rises}
use Rattle.job_table.proofs.jobs.Jobs.rise.Goals as goal

pub returns : goal.returns
returns c = subst Rises c.self.view_is c.self.invariant.rise
