use Rattle.std.proofs.Common.{◌*ℤ◌, ℤ, Fits, FitsSigned, w64, rules, refl, sym, ◌∙◌, subst}
use mir.Syntax.{w128}
use Rattle.std.proofs.lemmas.Int.{to_z-of_z}
use Rattle.std.proofs.lemmas.Nat.Gcd.{dvd_of_mod-eq-zero}
use Rattle.rational.specs.Ratio.{sum, IsSame}
use Rattle.common_rows.specs.Row.{over}
use Rattle.common_rows.specs.Accumulators.{form_of}
use Rattle.common_rows.proofs.Accumulators.{multiple_same, sum_over, form_fits}
use Rattle.common_rows.proofs.form.Form.plus.Goals as goal

pub returns-clause-same : goal.returns-clause-same
returns-clause-same c =
    let common = c.in_ok-common.common in
    let term = c.args.term in
    let times = c.in_ok-times.times in
    let fits_c : FitsSigned w64 common.numer = search rules in
    let fits_n : FitsSigned w64 c.in_ok-numer.numer = search rules in
    let fits_s : FitsSigned w64 term.numer = search rules in
    let fits_t : FitsSigned w64 times = search rules in
    let fits : FitsSigned w128 c.total.result = search rules in
    let numer = simp to_z-of_z at c.in_ok-numer.ensures in
    let value = simp to_z-of_z at c.total.ensures.value in
    let right = multiple_same term.numer (term.numer *ℤ times) times term.denom common.denom (dvd_of_mod-eq-zero term.denom c.in_ok-common.ensures.divides) c.in_ok-times.ensures refl in
    simp to_z-of_z
    (subst (λ (z : ℤ). IsSame (over z common.denom) (sum (form_of c.args.self) (form_of term))) (sym (numer ∙ value))
    (sum_over (form_of c.args.self) (form_of term) common.numer (term.numer *ℤ times) common.denom c.args.self.above term.above common.above c.in_ok-common.ensures.same right))

pub returns-clause-fits : goal.returns-clause-fits
returns-clause-fits c =
    let common = c.in_ok-common.common in
    let term = c.args.term in
    let times = c.in_ok-times.times in
    let fits_c : FitsSigned w64 common.numer = search rules in
    let fits_s : FitsSigned w64 term.numer = search rules in
    let fits_t : FitsSigned w64 times = search rules in
    let fits_d : Fits w64 common.denom = search rules in
    let value = simp to_z-of_z at c.total.ensures.value in
    let right = multiple_same term.numer (term.numer *ℤ times) times term.denom common.denom (dvd_of_mod-eq-zero term.denom c.in_ok-common.ensures.divides) c.in_ok-times.ensures refl in
    form_fits (form_of c.args.self) (form_of term) common.numer term.numer times c.total.result common.denom c.args.self.above term.above common.above c.in_ok-common.ensures.same right fits_c fits_s fits_t value c.total.ensures.size fits_d.fits
