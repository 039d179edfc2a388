use Rattle.std.proofs.Common.{◌≡◌, ℕ, ◌≤◌, ℤ, ◌+ℤ◌, ◌*ℤ◌, FitsSigned, w64, rules, arith, sym, ◌∙◌, ap, subst}
use mir.Syntax.{w128}
use Rattle.std.specs.Prelude.{unsigned_abs}
use Rattle.std.proofs.lemmas.Int.{to_z-of_z}
use Rattle.rational.specs.Ratio.{sum, product, IsSame}
use Rattle.rational.specs.Width.{most}
use Rattle.fraction.specs.Frac.{ratio}
use Rattle.evidence.specs.Width.{TermFits}
use Rattle.common_rows.specs.Row.{over}
use Rattle.common_rows.specs.Accumulators.{sum_of}
use Rattle.common_rows.proofs.Accumulators.{number_sum, number_fits}
use Rattle.common_rows.proofs.accumulator.Accumulator.plus_whole.Goals as goal

pub returns-clause-same : goal.returns-clause-same
returns-clause-same c =
    let s = c.args.self in
    let x = c.args.x.now in
    let n = c.args.n in
    let by = c.in_ok-by.by in
    let fits_s : FitsSigned w128 s.numer = search rules in
    let fits_x : FitsSigned w128 x.numer = search rules in
    let fits_r : FitsSigned w128 c.product.result = search rules in
    let fits_m : FitsSigned w128 c.in_ok-numer.numer = search rules in
    let fits_n : FitsSigned w64 n = c.ranges.n in
    let fits_b : FitsSigned w64 by = search rules in
    let is = simp to_z-of_z at c.in_ok-by.ensures in
    let value = simp to_z-of_z at c.product.ensures.value in
    let total = simp to_z-of_z at c.in_ok-numer.ensures.value in
    let e : c.in_ok-numer.numer ≡ s.numer +ℤ n *ℤ by = total ∙ ap (λ z. s.numer +ℤ z) value in
    let d : s.denom ≡ c.args.denom = c.if-self-denom.false in
    let own = number_sum s.numer n by s.denom (ratio x) s.above c.if-x-ne1.false is in
    simp to_z-of_z
    (subst (λ (z : ℤ). IsSame (over z s.denom) (sum (sum_of s) (product (over n c.args.denom) (ratio x)))) (sym e)
    (subst (λ (k : ℕ). IsSame (over (s.numer +ℤ n *ℤ by) s.denom) (sum (sum_of s) (product (over n k) (ratio x)))) d own))

pub returns-clause-fits : goal.returns-clause-fits
returns-clause-fits c =
    let s = c.args.self in
    let x = c.args.x.now in
    let n = c.args.n in
    let by = c.in_ok-by.by in
    let fits_s : FitsSigned w128 s.numer = search rules in
    let fits_x : FitsSigned w128 x.numer = search rules in
    let fits_r : FitsSigned w128 c.product.result = search rules in
    let fits_n : FitsSigned w64 n = c.ranges.n in
    let fits_b : FitsSigned w64 by = search rules in
    let is = simp to_z-of_z at c.in_ok-by.ensures in
    let value = simp to_z-of_z at c.product.ensures.value in
    let total = simp to_z-of_z at c.in_ok-numer.ensures.value in
    let e : c.in_ok-numer.numer ≡ s.numer +ℤ n *ℤ by = total ∙ ap (λ z. s.numer +ℤ z) value in
    let d : s.denom ≡ c.args.denom = c.if-self-denom.false in
    let k : unsigned_abs c.product.result ≤ most = omega (arith, c.product.ensures.size) in
    let small : unsigned_abs (n *ℤ by) ≤ most = subst (λ (z : ℤ). unsigned_abs z ≤ most) value k in
    let all : unsigned_abs (s.numer +ℤ n *ℤ by) ≤ most = subst (λ (z : ℤ). unsigned_abs z ≤ most) e c.in_ok-numer.ensures.size in
    let own = number_fits s.numer n by s.denom (ratio x) s.above c.if-x-ne1.false is s.numer_within small all s.denom_within in
    subst (λ (k : ℕ). TermFits (sum_of s) (over n k) (ratio x)) d own
