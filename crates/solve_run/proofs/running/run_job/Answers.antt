use Rattle.solve_run.proofs.Runs.{right_text, text_of}
use Rattle.solve_run.proofs.running.run_job.Goals as goal

pub returns-in-Ok-clause-ran : goal.returns-in-Ok-clause-ran
returns-in-Ok-clause-ran g c = text_of (g.W.Watch.came c.args.watch.now c.answer_job.new.watch) c.args.osil.now c.args.osol.now c.in-Ok.document c.in-Ok.ensures.ran

pub returns-in-Ok-clause-right : goal.returns-in-Ok-clause-right
returns-in-Ok-clause-right g c = λ asked stayed. right_text c.args.osil.now c.args.osol.now asked c.in-Ok.document (c.in-Ok.ensures.right asked stayed)
