use Rattle.std.proofs.Common.{inr, refl, subst}
use Rattle.solve_run.specs.Runs.{IsHandingOf, beside_text}
use Rattle.solve_run.proofs.Runs.{quiet_handed, quiet_memory}
use Rattle.solve_run.proofs.running.run_named.Goals as goal

pub returns-in-Ok-Taken : goal.returns-in-Ok-Taken
returns-in-Ok-Taken g c = λ osil options_text instance_text due.
    quiet_handed (g.W.Watch.came c.args.watch.now c.args.watch.now) (beside_text c.args.beside) osil c.args.osol.now c.args.options c.args.instance.now c.args.names.now c.in-Ok-Taken.claim c.fitted.result
    (g.met.W.Watch.stays c.args.watch.now) c.requires.valid options_text instance_text due (subst (IsHandingOf (beside_text c.args.beside) c.args.osol.now c.args.instance.now) c.in-Ok-Taken.field-0-is c.in-Ok-Taken.ensures) c.fitted.ensures

pub returns-in-Ok-Passed : goal.returns-in-Ok-Passed
returns-in-Ok-Passed g c = λ osil options_text instance_text due. c.run_instance.ensures (beside_text c.args.beside) osil c.args.osol.now options_text instance_text due (subst (IsHandingOf (beside_text c.args.beside) c.args.osol.now c.args.instance.now) c.in-Ok-Passed.field-0-is c.in-Ok-Passed.ensures)

pub returns-in-Err : goal.returns-in-Err
returns-in-Err g c = λ osil options_text instance_text due.
    quiet_memory (g.W.Watch.came c.args.watch.now c.args.watch.now) (beside_text c.args.beside) osil c.args.osol.now c.args.options.job c.memory_document.result
    (g.met.W.Watch.stays c.args.watch.now) (inr (c.args.options, options_text, refl)) c.memory_document.ensures
