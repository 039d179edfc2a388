use Rattle.std.proofs.Common.{inr, refl}
use Rattle.solve_run.proofs.Runs.{quiet_memory}
use Rattle.solve_run.proofs.running.run_instance.Goals as goal

pub returns-in_default : goal.returns-in_default
returns-in_default g c = λ beside osil osol options_text instance_text due none_handed.
    quiet_memory (g.W.Watch.came c.args.watch.now c.args.watch.now) beside osil osol c.args.options.job c.memory_document.result
    (g.met.W.Watch.stays c.args.watch.now) (inr (c.args.options, options_text, refl)) c.memory_document.ensures

pub returns-in_default-whole_note : goal.returns-in_default-whole_note
returns-in_default-whole_note g c = λ beside osil osol options_text instance_text due none_handed.
    quiet_memory (g.W.Watch.came c.args.watch.now c.args.watch.now) beside osil osol c.args.options.job c.memory_document-in_default-whole_note.result
    (g.met.W.Watch.stays c.args.watch.now) (inr (c.args.options, options_text, refl)) c.memory_document-in_default-whole_note.ensures

pub returns : goal.returns
returns g c = λ beside osil osol options_text instance_text due none_handed.
    c.run_from.ensures beside osil osol options_text instance_text due (record { handed = c.args.handed; none_handed = none_handed; is = c.in-Ok-whole_note.ensures })
