use Rattle.job_runs.proofs.Runs.{shown_run, unshown_run, unstored_run}
use Rattle.job_runs.proofs.solving.run_and_show.Goals as goal

pub returns-in-Ok-retrieve-clause-ok : goal.returns-in-Ok-retrieve-clause-ok
returns-in-Ok-retrieve-clause-ok g c =
    shown_run g.R.Runner.ran _ _ _ (λ a b. g.met.C.Mover.joins _ _ _ a b) c.args.job c.in-Ok-retrieve.shown c.in-Ok.ensures c.in-Ok-retrieve.ensures.did

pub returns-in-Err-retrieve-clause-err : goal.returns-in-Err-retrieve-clause-err
returns-in-Err-retrieve-clause-err g c =
    unshown_run g.R.Runner.ran _ _ _ (λ a b. g.met.C.Mover.joins _ _ _ a b) c.args.job c.in-Ok.ensures c.in-Err-retrieve.ensures.did

pub returns-in-Err-clause-ok : goal.returns-in-Err-clause-ok
returns-in-Err-clause-ok g c = unstored_run g.R.Runner.ran _ c.args.job c.in-Err.fault c.in-Err.ensures
