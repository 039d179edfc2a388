use Rattle.std.proofs.Common.{◌≡◌, ◌<◌, IfOk, OnErr, List, length, get_or, sym, ◌∙◌, ap, subst}
use Rattle.rational.specs.Ratio.{Ratio, IsSame}
use Rattle.fraction.specs.Frac.{ratio}
use Rattle.evidence.specs.Instance as Of
use Rattle.evidence.specs.Cases.{low_sum}
use Rattle.evidence.specs.Width.{LowFits}
use Rattle.instance.specs.declared.parts.Goal.{Goal}
use Rattle.instance.specs.Parts.{Parts}
use Rattle.instance.specs.Program.{program}
use Rattle.certificate.specs.Meanings.{multipliers}
use Rattle.case_tree.specs.Cuts.{cut}
use Rattle.cert_checker.specs.declared.at_hand.Added.{Added}
use Rattle.cert_checker.specs.Programs.{with_rows, at_hand}
use Rattle.cert_checker.proofs.HandRows.{hand_level, level_zero, hand_width, hand-instance}
use Rattle.cert_checker.proofs.shown.shown_number.Goals as goal

-- the program at hand is the instance's with these rows
same : (p : Parts) (rs : List Added) (g : Goal) (J : Of.Instance) → J ≡ at_hand p rs g → (gs : List Goal) → gs ≡ p.goals → 0 < length p.goals → g ≡ get_or gs 0 g → J ≡ with_rows (program p) rs
same p rs g J e gs is some at = e ∙ hand_level p rs g 0 some (at ∙ ap (λ l. get_or l 0 g) is) ∙ level_zero p rs

pub low_sum-requires-clause-count : goal.low_sum-requires-clause-count
low_sum-requires-clause-count c = c.requires.count ∙ sym (ap Of.width c.of-program.ensures ∙ hand_width c.args.instance.now c.args.added.now c.index-goals-0.result)

pub low_sum-requires-clause-numbers : goal.low_sum-requires-clause-numbers
low_sum-requires-clause-numbers c = subst Of.IsInstance (sym c.of-program.ensures) (hand-instance c.args.instance.now c.args.added.now c.index-goals-0.result)

pub returns-clause-ok : goal.returns-clause-ok
returns-clause-ok c =
    let cs = c.args.cuts.now in
    let ms = multipliers c.args.mults.now in
    subst (λ (I : Of.Instance). IfOk c.low_sum.result (λ r. IsSame (ratio r) (low_sum (cut I cs) (Of.minimising (cut I cs) I.goal.constant) ms))) (same c.args.instance.now c.args.added.now c.index-goals-0.result c.of-program.result c.of-program.ensures c.goals-goals.result.now c.goals-goals.ensures.value c.goals-goals.ensures.valid.some_goal c.index-goals-0.is)
    (subst (λ (s : Ratio). IfOk c.low_sum.result (λ r. IsSame (ratio r) (low_sum (cut c.of-program.result cs) s ms))) c.constant.ensures c.low_sum.ensures.ok)

pub returns-clause-fits : goal.returns-clause-fits
returns-clause-fits c =
    let cs = c.args.cuts.now in
    let ms = multipliers c.args.mults.now in
    subst (λ (I : Of.Instance). IfOk c.low_sum.result (λ r. LowFits (cut I cs) (Of.minimising (cut I cs) I.goal.constant) ms)) (same c.args.instance.now c.args.added.now c.index-goals-0.result c.of-program.result c.of-program.ensures c.goals-goals.result.now c.goals-goals.ensures.value c.goals-goals.ensures.valid.some_goal c.index-goals-0.is)
    (subst (λ (s : Ratio). IfOk c.low_sum.result (λ r. LowFits (cut c.of-program.result cs) s ms)) c.constant.ensures c.low_sum.ensures.fits)

pub returns-clause-wide : goal.returns-clause-wide
returns-clause-wide c =
    let cs = c.args.cuts.now in
    let ms = multipliers c.args.mults.now in
    subst (λ (I : Of.Instance). OnErr c.low_sum.result (LowFits (cut I cs) (Of.minimising (cut I cs) I.goal.constant) ms → ⊥)) (same c.args.instance.now c.args.added.now c.index-goals-0.result c.of-program.result c.of-program.ensures c.goals-goals.result.now c.goals-goals.ensures.value c.goals-goals.ensures.valid.some_goal c.index-goals-0.is)
    (subst (λ (s : Ratio). OnErr c.low_sum.result (LowFits (cut c.of-program.result cs) s ms → ⊥)) c.constant.ensures c.low_sum.ensures.wide)
