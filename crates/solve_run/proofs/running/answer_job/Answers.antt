use Rattle.solve_run.specs.Runs.{beside_text}
use Rattle.solve_run.proofs.Runs.{right_documents}
use Rattle.solve_run.proofs.running.answer_job.Goals as goal

pub returns-clause-right : goal.returns-clause-right
returns-clause-right g c =
    right_documents (g.W.Watch.came c.args.watch.now c.run_texts.new.watch) (beside_text c.args.beside) c.args.osil.now c.args.osol.now c.run_texts.result (g.W.Watch.stops c.args.watch.now) (g.W.Watch.stops c.run_texts.new.watch)
    (λ answers came. g.met.W.Watch.counts c.args.watch.now c.run_texts.new.watch answers came) c.run_texts.ensures
