use Rattle.std.proofs.Common.{◌≡◌, ◌∙◌, ap, sym, subst, refl, false, Option}
use Rattle.std.specs.Option.{IsSomeAnd}
use Rattle.job_table.specs.declared.job.Phase.{Phase}
use Rattle.job_table.specs.declared.job.Phase.TheVariants.{Killed}
use Rattle.job_table.specs.Jobs.{Register, phase_of, is_waiting, is_running}
use Rattle.job_table.specs.Remade.{takes_farewell}
use Rattle.job_table.proofs.JobLists.{put_there, held_is}
use Rattle.job_table.proofs.RemadeEffects.{no_farewell, goes_again}
use Rattle.job_table.proofs.jobs.Jobs.give_up_again.Goals as goal

pub returns-then-not-takes_farewell : goal.returns-then-not-takes_farewell
returns-then-not-takes_farewell c =
    no_farewell c.args.number c.args.self.now (sym (c.takes_farewell.ensures ∙ ap takes_farewell c.phase.ensures) ∙ c.if-not-takes_farewell.true)

pub forget-requires : goal.forget-requires
forget-requires c =
    let n = c.args.number in
    let there = ap (λ (r : Register). phase_of n r.jobs) c.put.ensures.moved ∙ put_there n Killed c.args.self.now.jobs (held_is _ _ c.put.ensures.before) in
    subst (λ (q : Option Phase). IsSomeAnd q (λ p. (is_waiting p ≡ false) × (is_running p ≡ false))) (sym there) (refl, refl)

pub returns : goal.returns
returns c =
    goes_again c.args.number c.args.self.now Killed c.put.new.self c.forget.new.self c.put.ensures.moved c.forget.ensures
    (sym (c.takes_farewell.ensures ∙ ap takes_farewell c.phase.ensures) ∙ c.if-not-takes_farewell.false)
