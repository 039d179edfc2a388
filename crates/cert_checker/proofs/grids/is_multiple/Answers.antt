use mir.Val.{SFits, of_z, to_z}
use mir.Syntax.{w128}
use Rattle.std.specs.Prelude.{unsigned_abs}
use Rattle.std.proofs.Math.Facts.{to_z-of_z}
use Rattle.std.proofs.lemmas.Bool.{eq-eqb, ne_eqb}
use Rattle.std.proofs.Common.{rules, ◌≡◌, ◌∙◌, ap}
use Rattle.cert_checker.proofs.GridSteps.{both_tests, first_test}
use Rattle.cert_checker.proofs.grids.is_multiple.Goals as goal

pub returns-then-unsigned_abs-size-eq0 : goal.returns-then-unsigned_abs-size-eq0
returns-then-unsigned_abs-size-eq0 c =
    let f : SFits w128 c.args.cost.numer = search rules in
    let g : SFits w128 c.args.step.numer = search rules in
    let e : to_z w128 (of_z w128 c.args.cost.numer) ≡ c.args.cost.numer = to_z-of_z f in
    let h : to_z w128 (of_z w128 c.args.step.numer) ≡ c.args.step.numer = to_z-of_z g in
    both_tests c.args.cost c.args.step c.requires c.unsigned_abs.result c.unsigned_abs-size.result (c.unsigned_abs.ensures.value ∙ ap unsigned_abs e) (c.unsigned_abs-size.ensures.value ∙ ap unsigned_abs h) (eq-eqb _ _ c.if-unsigned_abs-size-eq0.true)

pub returns-else-unsigned_abs-size-eq0 : goal.returns-else-unsigned_abs-size-eq0
returns-else-unsigned_abs-size-eq0 c =
    let f : SFits w128 c.args.cost.numer = search rules in
    let g : SFits w128 c.args.step.numer = search rules in
    let e : to_z w128 (of_z w128 c.args.cost.numer) ≡ c.args.cost.numer = to_z-of_z f in
    let h : to_z w128 (of_z w128 c.args.step.numer) ≡ c.args.step.numer = to_z-of_z g in
    first_test c.args.cost c.args.step c.requires c.unsigned_abs.result c.unsigned_abs-size.result (c.unsigned_abs.ensures.value ∙ ap unsigned_abs e) (c.unsigned_abs-size.ensures.value ∙ ap unsigned_abs h) (ne_eqb _ _ c.if-unsigned_abs-size-eq0.false)
