use Rattle.std.proofs.Common.{None, inl, refl}
use Rattle.solve_run.proofs.RoundLimits.{few_rounds}
use Rattle.solve_run.specs.Runs.{beside_text}
use Rattle.solve_run.proofs.Runs.{quiet_memory, quiet_options}
use Rattle.solve_run.proofs.running.run_texts.Goals as goal

pub run_options-requires-clause-rounds : goal.run_options-requires-clause-rounds
run_options-requires-clause-rounds g c = few_rounds c.in-Ok.options (c.read_options_come_back.ensures c.args.osol.now c.in-Ok.options c.in-Ok.ensures.ok)

pub returns-in-Ok : goal.returns-in-Ok
returns-in-Ok g c = c.run_options.ensures c.in-Ok.ensures.ok

pub returns-in-Err-Memory : goal.returns-in-Err-Memory
returns-in-Err-Memory g c =
    quiet_memory (g.W.Watch.came c.args.watch.now c.args.watch.now) (beside_text c.args.beside) c.args.osil.now c.args.osol.now None c.memory_document.result
    (g.met.W.Watch.stays c.args.watch.now) (inl refl) c.memory_document.ensures

pub returns-in-Err : goal.returns-in-Err
returns-in-Err g c =
    quiet_options (g.W.Watch.came c.args.watch.now c.args.watch.now) (beside_text c.args.beside) c.args.osil.now c.args.osol.now c.in-Err.fault c.refusal_text-message.result c.refusal.result
    (g.met.W.Watch.stays c.args.watch.now) c.in-Err.ensures.err c.refusal_text-message.ensures c.refusal.ensures
