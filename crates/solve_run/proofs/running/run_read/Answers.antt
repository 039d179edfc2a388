use Rattle.std.proofs.Common.{inr, refl}
use Rattle.solve_run.specs.Runs.{beside_text}
use Rattle.solve_run.proofs.Runs.{quiet_memory}
use Rattle.solve_run.proofs.running.run_read.Goals as goal

pub returns-in-Ok : goal.returns-in-Ok
returns-in-Ok g c = λ text instance. c.run_named.ensures c.args.osil.now text instance c.in-Ok.ensures

pub returns-in-Err : goal.returns-in-Err
returns-in-Err g c = λ text instance.
    quiet_memory (g.W.Watch.came c.args.watch.now c.args.watch.now) (beside_text c.args.beside) c.args.osil.now c.args.osol.now c.args.options.job c.memory_document.result
    (g.met.W.Watch.stays c.args.watch.now) (inr (c.args.options, text, refl)) c.memory_document.ensures
