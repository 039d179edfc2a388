use Rattle.std.proofs.Common.{◌<◌, ◌^◌, ℤ, Fits, FitsSigned, w64, rules, arith, sym, ◌∙◌, subst}
use mir.Syntax.{w128}
use Rattle.std.specs.Prelude.{unsigned_abs}
use Rattle.std.specs.Int.{◌∣◌}
use Rattle.std.proofs.lemmas.Int.{to_z-of_z, to_z_pos}
use Rattle.std.proofs.lemmas.Nat.Gcd.{mod-eq-zero_of_dvd}
use Rattle.common_rows.proofs.Accumulators.{multiple_same}
use Rattle.common_rows.proofs.form.Form.over_both.Goals as goal

pub returns-clause-same : goal.returns-clause-same
returns-clause-same c =
    let denom = c.args.self.denom in
    let fits_d : Fits w64 denom = search rules in
    let small : denom < 2 ^ 127 = omega (arith, fits_d.fits) in
    let fits_l : FitsSigned w128 c.in-Ok.least = search rules in
    let fits_n : FitsSigned w64 c.in_ok-numer.numer = search rules in
    let fits_s : FitsSigned w64 c.args.self.numer = search rules in
    let fits_t : FitsSigned w64 c.in_ok-times.times = search rules in
    let fits_p : FitsSigned w128 c.product.result = search rules in
    let size = simp to_z-of_z at c.unsigned_abs.ensures.value in
    let numer = simp to_z-of_z at c.in_ok-numer.ensures in
    let value = simp to_z-of_z at c.product.ensures.value in
    let divides : denom ∣ c.in_ok-denom.denom = subst (λ k. denom ∣ k) (sym (c.in_ok-denom.ensures ∙ size)) (subst (λ (z : ℤ). unsigned_abs z ∣ unsigned_abs c.in-Ok.least) (to_z_pos w128 denom small) c.in-Ok.ensures.ok.0) in
    simp to_z-of_z (multiple_same c.args.self.numer c.in_ok-numer.numer c.in_ok-times.times denom c.in_ok-denom.denom divides c.in_ok-times.ensures (numer ∙ value))

pub returns-clause-divides : goal.returns-clause-divides
returns-clause-divides c =
    let by = c.args.by in
    let fits_b : Fits w64 by = search rules in
    let small : by < 2 ^ 127 = omega (arith, fits_b.fits) in
    let fits_l : FitsSigned w128 c.in-Ok.least = search rules in
    let size = simp to_z-of_z at c.unsigned_abs.ensures.value in
    mod-eq-zero_of_dvd by (subst (λ k. by ∣ k) (sym (c.in_ok-denom.ensures ∙ size)) (subst (λ (z : ℤ). unsigned_abs z ∣ unsigned_abs c.in-Ok.least) (to_z_pos w128 by small) c.in-Ok.ensures.ok.1))
