use Rattle.std.proofs.Common.{Some, inl, inr, refl, sym, subst}
use Rattle.std.proofs.lemmas.Result.{err_from_is_err_and, on_ok_weaker, IfErr-weaker}
use Rattle.rational.specs.Ratio.{Ratio}
use Rattle.fraction.specs.Frac.{ratio}
use Rattle.evidence.specs.Width.{LowFits}
use Rattle.certificate.specs.Meanings.{multipliers}
use Rattle.case_tree.specs.Cuts.{cut}
use Rattle.cert_checker.specs.Leaves.{wanted}
use Rattle.cert_checker.specs.RowLeaves.{all_of, GridRowsHold, GridRowsRefuse}
use Rattle.cert_checker.specs.Grids.{StepsBelow, GridFits, ReachesInSteps}
use Rattle.cert_checker.specs.Slots.{HoldsLow}
use Rattle.cert_checker.proofs.Widths.{width_is, cut-instance}
use Rattle.cert_checker.proofs.GridSteps.{above_from, both_ok}
use Rattle.cert_checker.proofs.RowLeaves.{wanted-number}
use Rattle.cert_checker.proofs.Lefts.{numbers_of, low_of}
use Rattle.cert_checker.proofs.row_leaves.check_grid_rows.Goals as goal

pub returns-in_err-low-clause-err : goal.returns-in_err-low-clause-err
returns-in_err-low-clause-err c =
    let p = err_from_is_err_and c.from_residual.result c.from_residual.ensures.1 in
    rw (p.1, p.2) (inl c.in_err-low.ensures.err)

pub returns-in_err-check_step-clause-err : goal.returns-in_err-check_step-clause-err
returns-in_err-check_step-clause-err c =
    let p = err_from_is_err_and c.from_residual-in_err-check_step.result c.from_residual-in_err-check_step.ensures.1 in
    rw (p.1, p.2) (inr (inl (c.in_ok-low.ensures.stand, c.in_err-check_step.ensures.err)))

pub returns-in-None-clause-err : goal.returns-in-None-clause-err
returns-in-None-clause-err c =
    let J = cut c.args.program.now c.args.cuts.now in
    let ms = multipliers c.args.mults.now in
    let z = Some (ratio c.args.aim) in
    let w = width_is c.args.program.now c.args.cuts.now in
    let costs = subst (StepsBelow J (ratio c.args.step)) (sym w) c.in_ok-check_step.ensures.costs in
    let unfit = subst (λ o. HoldsLow J (ratio c.zero.result) (all_of J ms z) o) c.in-None.is c.in_ok-low.ensures.low in
    let lacks = subst (λ (s : Ratio). LowFits J s (all_of J ms z) → ⊥) c.zero.ensures unfit in
    inr (inr (c.in_ok-low.ensures.stand, c.in_ok-check_step.ensures.above, costs, inl ((λ f. lacks f.low), refl)))

pub check_value-requires : goal.check_value-requires
check_value-requires c = record { above = above_from (ratio c.args.step) c.in_ok-check_step.ensures.above }

pub returns-in-Some-clause-ok : goal.returns-in-Some-clause-ok
returns-in-Some-clause-ok c =
    let J = cut c.args.program.now c.args.cuts.now in
    let good = cut-instance c.args.program.now c.requires.numbers c.args.cuts.now in
    let ms = multipliers c.args.mults.now in
    let z = Some (ratio c.args.aim) in
    let w = width_is c.args.program.now c.args.cuts.now in
    let costs = subst (StepsBelow J (ratio c.args.step)) (sym w) c.in_ok-check_step.ensures.costs in
    let held = subst (λ o. HoldsLow J (ratio c.zero.result) (all_of J ms z) o) c.in-Some.is c.in_ok-low.ensures.low in
    let low = low_of J good ms (numbers_of c.args.mults.now) (wanted J z) (wanted-number J good z) (ratio c.zero.result) c.zero.ensures c.in-Some.sum held in
    both_ok c.check_value.result (GridFits J (ratio c.args.step) (all_of J ms z)) (ReachesInSteps J (ratio c.args.step) (all_of J ms z) (ratio c.args.aim)) (GridRowsHold J (ratio c.args.step) ms (ratio c.args.aim))
    (λ f r. record { stand = c.in_ok-low.ensures.stand; above = c.in_ok-check_step.ensures.above; costs = costs; fits = f; reaches = r })
    (on_ok_weaker c.check_value.result (λ f. f c.args.cuts.now (all_of J ms z) low) c.check_value.ensures.fits)
    (on_ok_weaker c.check_value.result (λ f. f c.args.cuts.now (all_of J ms z) low) c.check_value.ensures.ok)

pub returns-in-Some-clause-err : goal.returns-in-Some-clause-err
returns-in-Some-clause-err c =
    let J = cut c.args.program.now c.args.cuts.now in
    let good = cut-instance c.args.program.now c.requires.numbers c.args.cuts.now in
    let ms = multipliers c.args.mults.now in
    let z = Some (ratio c.args.aim) in
    let w = width_is c.args.program.now c.args.cuts.now in
    let costs = subst (StepsBelow J (ratio c.args.step)) (sym w) c.in_ok-check_step.ensures.costs in
    let held = subst (λ o. HoldsLow J (ratio c.zero.result) (all_of J ms z) o) c.in-Some.is c.in_ok-low.ensures.low in
    let low = low_of J good ms (numbers_of c.args.mults.now) (wanted J z) (wanted-number J good z) (ratio c.zero.result) c.zero.ensures c.in-Some.sum held in
    IfErr-weaker c.check_value.result _ (GridRowsRefuse J (ratio c.args.step) ms (ratio c.args.aim) c.args.node)
    (λ r f. inr (inr (c.in_ok-low.ensures.stand, c.in_ok-check_step.ensures.above, costs, f c.args.cuts.now (all_of J ms z) low))) c.check_value.ensures.err
