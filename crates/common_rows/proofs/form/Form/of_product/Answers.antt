use Rattle.std.proofs.Common.{FitsSigned, ◌<◌, ◌^◌, w64, rules, refl, sym, ◌∙◌, subst}
use mir.Syntax.{w128}
use Rattle.std.proofs.Math.Nat.{mul-pos}
use Rattle.std.proofs.lemmas.Int.{to_z-of_z}
use Rattle.rational.specs.Ratio.{Ratio, IsSame}
use Rattle.rational.specs.Width.{ReducedFits}
use Rattle.fraction.specs.Frac.{ratio}
use Rattle.common_rows.specs.Row.{over}
use Rattle.common_rows.specs.Accumulators.{form_of}
use Rattle.common_rows.proofs.Accumulators.{product_form, form_reduced}
use Rattle.common_rows.proofs.form.Form.of_product.Goals as goal

pub returns-clause-same : goal.returns-clause-same
returns-clause-same c =
    let l = c.in_ok-left.left in
    let r = c.in_ok-right.right in
    let fits_n : FitsSigned w64 c.in_ok-numer.numer = search rules in
    let fits_p : FitsSigned w128 c.product.result = search rules in
    let fits_l : FitsSigned w64 l.numer = search rules in
    let fits_r : FitsSigned w64 r.numer = search rules in
    let numer = simp to_z-of_z at c.in_ok-numer.ensures in
    let value = simp to_z-of_z at c.product.ensures.value in
    let e = c.in_ok-denom.ensures in
    let is = product_form (form_of l) (form_of r) (ratio c.args.a.now) (ratio c.args.x.now) c.in_ok-numer.numer c.in_ok-denom.denom c.in_ok-left.ensures c.in_ok-right.ensures (numer ∙ value) e.1 in
    simp to_z-of_z (subst (λ (z : Ratio). IsSame (over c.in_ok-numer.numer c.in_ok-denom.denom) z) is refl)

pub returns-clause-fits : goal.returns-clause-fits
returns-clause-fits c =
    let l = c.in_ok-left.left in
    let r = c.in_ok-right.right in
    let fits_n : FitsSigned w64 c.in_ok-numer.numer = search rules in
    let fits_p : FitsSigned w128 c.product.result = search rules in
    let fits_l : FitsSigned w64 l.numer = search rules in
    let fits_r : FitsSigned w64 r.numer = search rules in
    let numer = simp to_z-of_z at c.in_ok-numer.ensures in
    let value = simp to_z-of_z at c.product.ensures.value in
    let e = c.in_ok-denom.ensures in
    let is = product_form (form_of l) (form_of r) (ratio c.args.a.now) (ratio c.args.x.now) c.in_ok-numer.numer c.in_ok-denom.denom c.in_ok-left.ensures c.in_ok-right.ensures (numer ∙ value) e.1 in
    let above = subst (λ k. 0 < k) (sym e.1) (mul-pos l.above r.above) in
    subst (λ (z : Ratio). ReducedFits z) is (form_reduced c.in_ok-numer.numer c.in_ok-denom.denom above fits_n (subst (λ k. k < 2 ^ 64) (sym e.1) e.0))
