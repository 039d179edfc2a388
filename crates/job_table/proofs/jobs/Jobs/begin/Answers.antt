use Rattle.std.proofs.Common.{◌∙◌, ap}
use Rattle.job_table.specs.Jobs.{Register}
use Rattle.job_table.proofs.WaitingJobs.{kept_begin}
use Rattle.job_table.proofs.jobs.Jobs.begin.Goals as goal

pub invariant_of-self : goal.invariant_of-self
invariant_of-self c =
    kept_begin _ _ _ _ _ _ c.self.invariant (ap (λ (r : Register). r.issued) c.self.view_is ∙ c.requires.none) c.args.first c.requires.some c.requires.within
