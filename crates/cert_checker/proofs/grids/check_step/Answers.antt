use Rattle.std.proofs.Common.{◌≡◌, pos, ◌<ℤ◌, inl, inr, length, arith, refl, ap}
use Rattle.std.proofs.lemmas.Int.{ints}
use Rattle.std.proofs.lemmas.List.{length-map}
use Rattle.fraction.specs.Frac.{ratio}
use Rattle.instance.specs.Program.{variable}
use Rattle.case_tree.specs.Cuts as Tree
use Rattle.evidence.specs.Instance.{width}
use Rattle.cert_checker.specs.declared.refused.Unshown.TheVariants.{Step}
use Rattle.cert_checker.proofs.Widths.{width_is}
use Rattle.cert_checker.proofs.GridSteps.{above_to, above_from}
use Rattle.cert_checker.proofs.grids.check_step.Goals as goal

pub returns-then-step-le0-clause-err : goal.returns-then-step-le0-clause-err
returns-then-step-le0-clause-err c =
    let w = width_is c.args.program.now c.args.cuts.now in
    let v = ap length c.vars.ensures.value in
    let n = length-map c.vars.result.now variable in
    let e : length c.vars.result.now ≡ width (Tree.cut c.args.program.now c.args.cuts.now) = (let a = c.requires in omega arith) in
    inl (λ b. let h = above_from (ratio c.args.step) b in let t = c.if-step-le0.true in omega (arith, ints), ap (Step c.args.node) e)

pub returns-in-Some-clause-err : goal.returns-in-Some-clause-err
returns-in-Some-clause-err c =
    let up : pos 0 <ℤ c.args.step.numer = (let t = c.if-step-le0.false in omega (arith, ints)) in
    inr (above_to (ratio c.args.step) up, (c.in-Some.col, c.in-Some.ensures, refl))

pub returns-in-None-clause-above : goal.returns-in-None-clause-above
returns-in-None-clause-above c = above_to (ratio c.args.step) (let t = c.if-step-le0.false in omega (arith, ints))
