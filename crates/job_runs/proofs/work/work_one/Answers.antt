use Rattle.job_runs.proofs.Runs.{claimed_run}
use Rattle.job_runs.proofs.work.work_one.Goals as goal

pub returns-in-Some : goal.returns-in-Some
returns-in-Some g c =
    claimed_run g.R.Runner.ran _ _ _ (λ a b. g.met.C.Mover.joins _ _ _ a b) c.args.worker c.in-Some.job _ c.in-Some.ensures c.run_given-stored.ensures
