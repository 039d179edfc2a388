use Rattle.std.proofs.Common.{◌∙◌, ap, sym}
use Rattle.effects.specs.Records as deeds
use Rattle.effects.specs.Records.{paper_of}
use Rattle.job_table.specs.declared.job.Phase.TheVariants.{Finished}
use Rattle.job_table.specs.Jobs.{phase_of}
use Rattle.job_table.specs.Remade.{takes_document}
use Rattle.job_table.proofs.RemadeEffects.{no_document, document_after, moves_again}
use Rattle.job_table.proofs.jobs.Jobs.finish_again.Goals as goal

pub returns-then-not-takes_document : goal.returns-then-not-takes_document
returns-then-not-takes_document c =
    no_document c.args.number c.args.self.now (paper_of c.args.document.now) (sym (c.takes_document.ensures ∙ ap takes_document c.phase.ensures) ∙ c.if-not-takes_document.true)

pub returns-in-Ok : goal.returns-in-Ok
returns-in-Ok c =
    let n = c.args.number in
    let r = c.args.self.now in
    let d = paper_of c.args.document.now in
    moves_again (deeds.Finish n d) n (Finished d) c.in-Ok.phase r c.put.new.self (takes_document (phase_of n r.jobs)) c.put.ensures.moved c.in-Ok.ensures tt (document_after n r d)
    (sym (c.takes_document.ensures ∙ ap takes_document c.phase.ensures) ∙ c.if-not-takes_document.false)
