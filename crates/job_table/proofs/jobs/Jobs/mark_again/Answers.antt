use Rattle.std.proofs.Common.{◌∙◌, ap, sym, refl}
use Rattle.job_table.specs.Remade.{takes_mark}
use Rattle.job_table.proofs.RemadeEffects.{no_mark, marks_again}
use Rattle.job_table.proofs.jobs.Jobs.mark_again.Goals as goal

pub returns-then-not-takes_mark : goal.returns-then-not-takes_mark
returns-then-not-takes_mark c =
    no_mark c.args.number c.args.self.now (sym (c.takes_mark.ensures ∙ ap takes_mark c.phase.ensures) ∙ c.if-not-takes_mark.true)

pub returns : goal.returns
returns c =
    marks_again c.args.number c.args.self.now _ c.mark.new.self refl
    (sym (c.takes_mark.ensures ∙ ap takes_mark c.phase.ensures) ∙ c.if-not-takes_mark.false) c.mark.ensures
