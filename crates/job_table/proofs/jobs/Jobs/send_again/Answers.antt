use Rattle.std.proofs.Common.{◌∙◌, ap, sym}
use Rattle.effects.specs.Records as deeds
use Rattle.job_table.specs.declared.job.Phase.TheVariants.{Waiting}
use Rattle.job_table.specs.Jobs.{phase_of}
use Rattle.job_table.specs.Plans.{takes_texts}
use Rattle.job_table.proofs.RemadeEffects.{no_texts, texts_after, moves_again}
use Rattle.job_table.proofs.jobs.Jobs.send_again.Goals as goal

pub returns-then-not-takes_texts : goal.returns-then-not-takes_texts
returns-then-not-takes_texts c =
    no_texts c.args.number c.args.self.now c.args.osil.now c.args.osol.now (sym (c.takes_texts.ensures ∙ ap takes_texts c.phase.ensures) ∙ c.if-not-takes_texts.true)

pub returns-in-Ok : goal.returns-in-Ok
returns-in-Ok c =
    let n = c.args.number in
    let r = c.args.self.now in
    let a = c.args.osil.now in
    let b = c.args.osol.now in
    moves_again (deeds.Send n a b) n (Waiting a b) c.in-Ok.phase r c.put.new.self (takes_texts (phase_of n r.jobs)) c.put.ensures.moved c.in-Ok.ensures tt (texts_after n r a b)
    (sym (c.takes_texts.ensures ∙ ap takes_texts c.phase.ensures) ∙ c.if-not-takes_texts.false)
