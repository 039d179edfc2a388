use Rattle.std.proofs.Common.{Some, None}
use Rattle.job_table.specs.declared.entries.Finishing.TheVariants as ends
use Rattle.job_runs.proofs.Runs.{run_of}
use Rattle.job_runs.proofs.work.run_given.Goals as goal

pub returns-in-Ok : goal.returns-in-Ok
returns-in-Ok g c =
    run_of g.R.Runner.ran _ _ _ (λ a b. g.met.C.Mover.joins _ _ _ a b) c.args.job _ _ None _ c.run_watched-document.ensures.ran c.in-Ok.ensures

pub returns-in-Err : goal.returns-in-Err
returns-in-Err g c =
    run_of g.R.Runner.ran _ _ _ (λ a b. g.met.C.Mover.joins _ _ _ a b) c.args.job _ _ (Some c.in-Err.fault) ends.Kept c.run_watched-document.ensures.ran c.in-Err.ensures
