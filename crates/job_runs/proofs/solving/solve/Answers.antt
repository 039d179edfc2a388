use Rattle.job_table.specs.declared.entries.Reply.TheVariants as reply
use Rattle.job_table.specs.Kept.{said_in}
use Rattle.job_table.specs.Steps.{added_reply}
use Rattle.job_runs.proofs.Runs.{solved_if, unsolved_if}
use Rattle.job_runs.proofs.solving.solve.Goals as goal

pub returns-in-Ok-Ok-clause-ok : goal.returns-in-Ok-Ok-clause-ok
returns-in-Ok-Ok-clause-ok g c =
    solved_if g.R.Runner.ran _ _ _ (λ a b. g.met.C.Mover.joins _ _ _ a b) c.args.osil c.args.osol c.in-Ok-Ok.job (said_in (added_reply reply.Retrieved) c.run_and_show.result)
    (rw c.in-Ok-Ok.field-0-is at c.in-Ok-Ok.ensures.did) c.run_and_show.ensures.ok

pub returns-in-Ok-Ok-clause-err : goal.returns-in-Ok-Ok-clause-err
returns-in-Ok-Ok-clause-err g c =
    unsolved_if g.R.Runner.ran _ _ _ (λ a b. g.met.C.Mover.joins _ _ _ a b) c.args.osil c.args.osol c.in-Ok-Ok.job (said_in (added_reply reply.Retrieved) c.run_and_show.result)
    (rw c.in-Ok-Ok.field-0-is at c.in-Ok-Ok.ensures.did) c.run_and_show.ensures.err
