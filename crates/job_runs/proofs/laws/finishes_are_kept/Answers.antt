use Rattle.job_runs.proofs.Histories.{run_kept}
use Rattle.job_runs.proofs.laws.finishes_are_kept.Goals as goal

pub returns : goal.returns
returns g c = run_kept g.R.Runner.ran g.V.Verdicts.right c.first_finish_is_kept.ensures
