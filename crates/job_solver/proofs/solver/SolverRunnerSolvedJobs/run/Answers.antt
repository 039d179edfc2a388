use Rattle.std.proofs.Common.{List, ℕ, Some, None, sym, subst}
use Rattle.solve_run.specs.Runs.{TellsText}
use Rattle.solve_run.specs.JobAnswers.{Right}
use Rattle.job_solver.proofs.Runs.{makes}
use Rattle.job_solver.proofs.solver.SolverRunnerSolvedJobs.run.Goals as goal

pub returns-in-Ok-new-clause-ran : goal.returns-in-Ok-new-clause-ran
returns-in-Ok-new-clause-ran g c =
    makes (g.W.Watch.came c.args.watch.now c.run_job.new.watch) c.args.osil.now c.args.osol.now (Some c.in-Ok-new.document) _ c.in-Ok.ensures.ran
    (λ n killed tells. subst (λ (t : List ℕ). TellsText c.args.osil.now c.args.osol.now n killed t) (sym c.in-Ok-new.ensures) tells)

pub returns-in-Ok-new-clause-right : goal.returns-in-Ok-new-clause-right
returns-in-Ok-new-clause-right g c = λ asked none.
    subst (λ (t : List ℕ). Right c.args.osil.now c.args.osol.now asked (Some t)) (sym c.in-Ok-new.ensures) (c.in-Ok.ensures.right asked none)

pub returns-in-Err-new-clause-ran : goal.returns-in-Err-new-clause-ran
returns-in-Err-new-clause-ran g c =
    makes (g.W.Watch.came c.args.watch.now c.run_job.new.watch) c.args.osil.now c.args.osol.now None _ c.in-Ok.ensures.ran (λ n killed tells. tt)

pub returns-in-Err-clause-ran : goal.returns-in-Err-clause-ran
returns-in-Err-clause-ran g c =
    makes (g.W.Watch.came c.args.watch.now c.run_job.new.watch) c.args.osil.now c.args.osol.now None _ c.in-Err.ensures.ran (λ n killed tells. tt)
