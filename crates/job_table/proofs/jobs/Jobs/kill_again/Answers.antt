use Rattle.std.proofs.Common.{◌∙◌, ap, sym, refl}
use Rattle.effects.specs.Records as deeds
use Rattle.job_table.specs.declared.job.Phase.TheVariants.{Killed}
use Rattle.job_table.specs.Jobs.{phase_of}
use Rattle.job_table.specs.Remade.{takes_kill}
use Rattle.job_table.proofs.RemadeEffects.{no_kill, kill_after, moves_again}
use Rattle.job_table.proofs.jobs.Jobs.kill_again.Goals as goal

pub returns-then-not-takes_kill : goal.returns-then-not-takes_kill
returns-then-not-takes_kill c =
    no_kill c.args.number c.args.self.now (sym (c.takes_kill.ensures ∙ ap takes_kill c.phase.ensures) ∙ c.if-not-takes_kill.true)

pub returns : goal.returns
returns c =
    let n = c.args.number in
    let r = c.args.self.now in
    moves_again (deeds.Killed n) n Killed Killed r c.put.new.self (takes_kill (phase_of n r.jobs)) c.put.ensures.moved refl tt (kill_after n r)
    (sym (c.takes_kill.ensures ∙ ap takes_kill c.phase.ensures) ∙ c.if-not-takes_kill.false)
