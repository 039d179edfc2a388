use Rattle.std.proofs.Common.{Some, inl, inr, sym, subst}
use Rattle.std.proofs.lemmas.Result.{IfErr-weaker, err_from_is_err_and}
use Rattle.fraction.specs.Frac.{ratio}
use Rattle.certificate.specs.Meanings.{multipliers}
use Rattle.case_tree.specs.Cuts as Tree
use Rattle.cert_checker.specs.Leaves.{FormsBelow}
use Rattle.cert_checker.specs.Grids.{StepsBelow, StepsRefuse, GridFits, ReachesInSteps, GridHolds, GridRefuses}
use Rattle.cert_checker.proofs.Widths.{width_is}
use Rattle.cert_checker.proofs.GridSteps.{above_from, both_ok}
use Rattle.cert_checker.proofs.grids.check_grid.Goals as goal

pub returns-in_err-check_forms-clause-err : goal.returns-in_err-check_forms-clause-err
returns-in_err-check_forms-clause-err c =
    let p = err_from_is_err_and c.from_residual.result c.from_residual.ensures.1 in
    rw (p.1, p.2) (inr (inl (c.in_default.ensures, c.in_err-check_forms.ensures.err)))

pub returns-in_err-check_step-clause-err : goal.returns-in_err-check_step-clause-err
returns-in_err-check_step-clause-err c =
    let p = err_from_is_err_and c.from_residual-in_err-check_step.result c.from_residual-in_err-check_step.ensures.1 in
    let w = width_is c.args.program.now c.args.cuts.now in
    let forms = subst (FormsBelow (Tree.cut c.args.program.now c.args.cuts.now) (multipliers c.args.mults.now) (Some (ratio c.args.aim))) (sym w) c.in_ok-check_forms.ensures.ok in
    rw (p.1, p.2) (inr (inr (inl (c.in_default.ensures, forms, c.in_err-check_step.ensures.err))))

pub check_steps-requires-clause-above : goal.check_steps-requires-clause-above
check_steps-requires-clause-above c = above_from (ratio c.args.step) c.in_ok-check_step.ensures.above

pub returns-clause-ok : goal.returns-clause-ok
returns-clause-ok c =
    let J = Tree.cut c.args.program.now c.args.cuts.now in
    let ms = multipliers c.args.mults.now in
    let w = width_is c.args.program.now c.args.cuts.now in
    let forms = subst (FormsBelow J ms (Some (ratio c.args.aim))) (sym w) c.in_ok-check_forms.ensures.ok in
    let costs = subst (StepsBelow J (ratio c.args.step)) (sym w) c.in_ok-check_step.ensures.costs in
    both_ok c.check_steps.result (GridFits J (ratio c.args.step) ms) (ReachesInSteps J (ratio c.args.step) ms (ratio c.args.aim)) (GridHolds J (ratio c.args.step) ms (ratio c.args.aim))
    (λ f r. record { legal = c.in_default.ensures; forms = forms; above = c.in_ok-check_step.ensures.above; costs = costs; fits = f; reaches = r })
    c.check_steps.ensures.fits c.check_steps.ensures.ok

pub returns-clause-err : goal.returns-clause-err
returns-clause-err c =
    let J = Tree.cut c.args.program.now c.args.cuts.now in
    let ms = multipliers c.args.mults.now in
    let w = width_is c.args.program.now c.args.cuts.now in
    let forms = subst (FormsBelow J ms (Some (ratio c.args.aim))) (sym w) c.in_ok-check_forms.ensures.ok in
    let costs = subst (StepsBelow J (ratio c.args.step)) (sym w) c.in_ok-check_step.ensures.costs in
    IfErr-weaker c.check_steps.result (StepsRefuse J (ratio c.args.step) ms (ratio c.args.aim) c.args.node) (GridRefuses J (ratio c.args.step) ms (ratio c.args.aim) c.args.node)
    (λ e p. inr (inr (inr (c.in_default.ensures, forms, c.in_ok-check_step.ensures.above, costs, p)))) c.check_steps.ensures.err
