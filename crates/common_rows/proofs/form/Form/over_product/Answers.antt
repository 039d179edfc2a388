use Rattle.std.proofs.Common.{FitsSigned, w64, rules, sym, ◌∙◌, subst}
use mir.Syntax.{w128}
use Rattle.std.specs.Int.{◌∣◌}
use Rattle.std.proofs.Math.Nat.{dvd-mul_left, dvd-mul_right}
use Rattle.std.proofs.lemmas.Int.{to_z-of_z}
use Rattle.std.proofs.lemmas.Nat.Gcd.{mod-eq-zero_of_dvd}
use Rattle.common_rows.proofs.Accumulators.{multiple_same}
use Rattle.common_rows.proofs.form.Form.over_product.Goals as goal

pub returns-clause-same : goal.returns-clause-same
returns-clause-same c =
    let denom = c.args.self.denom in
    let fits_n : FitsSigned w64 c.in_ok-numer.numer = search rules in
    let fits_s : FitsSigned w64 c.args.self.numer = search rules in
    let fits_t : FitsSigned w64 c.in_ok-times.times = search rules in
    let fits_p : FitsSigned w128 c.product.result = search rules in
    let numer = simp to_z-of_z at c.in_ok-numer.ensures in
    let value = simp to_z-of_z at c.product.ensures.value in
    let divides : denom ∣ c.in_ok-denom.denom = subst (λ k. denom ∣ k) (let e = c.in_ok-denom.ensures in sym e.1) (dvd-mul_right denom c.args.by) in
    simp to_z-of_z (multiple_same c.args.self.numer c.in_ok-numer.numer c.in_ok-times.times denom c.in_ok-denom.denom divides c.in_ok-times.ensures (numer ∙ value))

pub returns-clause-divides : goal.returns-clause-divides
returns-clause-divides c = mod-eq-zero_of_dvd c.args.by (subst (λ k. c.args.by ∣ k) (let e = c.in_ok-denom.ensures in sym e.1) (dvd-mul_left c.args.by c.args.self.denom))
