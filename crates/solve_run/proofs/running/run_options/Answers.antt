use Rattle.std.proofs.Common.{inr, refl}
use Rattle.solve_run.specs.Runs.{beside_text}
use Rattle.solve_run.proofs.Runs.{quiet_memory, quiet_instance}
use Rattle.solve_run.proofs.running.run_options.Goals as goal

pub returns-in-Ok : goal.returns-in-Ok
returns-in-Ok g c = λ text. c.run_read.ensures text c.in-Ok.ensures.ok

pub returns-in-Err-Memory : goal.returns-in-Err-Memory
returns-in-Err-Memory g c = λ text.
    quiet_memory (g.W.Watch.came c.args.watch.now c.args.watch.now) (beside_text c.args.beside) c.args.osil.now c.args.osol.now c.args.options.job c.memory_document.result
    (g.met.W.Watch.stays c.args.watch.now) (inr (c.args.options, text, refl)) c.memory_document.ensures

pub returns : goal.returns
returns g c = λ text.
    quiet_instance (g.W.Watch.came c.args.watch.now c.args.watch.now) (beside_text c.args.beside) c.args.osil.now c.args.osol.now c.args.options c.in-Err.fault c.refusal_text-message.result c.refusal.result
    (g.met.W.Watch.stays c.args.watch.now) text c.in-Err.ensures.err c.refusal_text-message.ensures c.refusal.ensures
