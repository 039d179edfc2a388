use Rattle.job_table.proofs.MoveEffects.{plans_so}
use Rattle.job_table.proofs.plans.plans_are_so.Goals as goal

pub returns : goal.returns
returns c = plans_so
