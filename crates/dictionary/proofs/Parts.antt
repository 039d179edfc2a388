-- The parts of a change, and a divisor of two numbers.
use Rattle.std.proofs.Common.{◌≡◌, ℕ, zero, suc, ◌+◌, ◌-◌, ◌*◌, ◌/◌, ◌<◌, ◌≤◌, ◌^◌, ℤ, pos, negsuc, ◌+ℤ◌, ◌*ℤ◌, ◌<ℤ◌, arith, refl, sym, ◌∙◌, ap, subst, mul_comm}
use Rattle.std.specs.Prelude.{unsigned_abs}
use mir.Syntax.{w64}
use mir.Val.{of_z}
use Rattle.std.proofs.Math.Nat.{div-eq_of_eq-mul_right, mul-le-mul}
use Rattle.std.proofs.lemmas.Int.{unsigned_abs-mul, ints}
use Rattle.rational.specs.Ratio.{Ratio, whole, quotient, IsSame}
use Rattle.rational.specs.Width.{most}
use Rattle.rational.proofs.Scaling.{times-times, IsSame-trans}
use Rattle.fraction.specs.Frac.{ratio}
use Rattle.fraction.specs.declared.frac.Frac.{Frac}
use Rattle.common_rows.specs.Row.{over}
use Rattle.common_rows.proofs.Fitting.{sum_size}
use Rattle.dictionary.specs.Lowest.{lowest}
use Rattle.dictionary.specs.Numbers.{ArePartsOf}
use Rattle.dictionary.proofs.Lowest.{IsRowDivided, lowest_parts, lowest-same}
use Rattle.dictionary.proofs.RowForms.{lowest_by, sized_above}

-- a factor is at most the product
at_most : (m g w : ℕ) → 0 < g → m * g ≡ w → m ≤ w
at_most m zero w up e = absurd (omega arith)
at_most m (suc g) w up e = let f : m * suc g ≡ m * g + m = omega arith in omega (arith, e, f)

module _ (x : Frac) (n d : ℤ) (up : pos 0 <ℤ d) (same : IsSame (ratio x) (quotient (whole n) (whole d))) where
  parts : IsRowDivided n (unsigned_abs d) (ratio x)
  parts = subst (λ (y : Ratio). IsRowDivided n (unsigned_abs d) y) (sym (lowest_by x n d up same)) (lowest_parts n (unsigned_abs d) (sized_above d up))

  pub part_denom : x.denom ≤ unsigned_abs d
  part_denom = let p = parts in at_most x.denom p.divisor (unsigned_abs d) p.above p.den

  pub part_numer : unsigned_abs x.numer ≤ unsigned_abs n
  part_numer = let p = parts in at_most (unsigned_abs x.numer) p.divisor (unsigned_abs n) p.above (sym (unsigned_abs-mul x.numer (pos p.divisor)) ∙ ap unsigned_abs p.num)

  pub are_parts : ArePartsOf n (unsigned_abs d) (pos x.denom) x.numer
  are_parts = let p = parts in record { divisor = p.divisor; whole = p.den; number = p.num }

  -- the denominator goes into the divisor as often as its part says
  pub often_above : 0 < unsigned_abs d / x.denom
  often_above = let p = parts in subst (λ k. 0 < k) (sym (div-eq_of_eq-mul_right x.above (sym p.den))) p.above

-- a number above 0 is its word
pub sized_word : (z : ℤ) → pos 0 <ℤ z → of_z w64 z ≡ unsigned_abs z
sized_word (pos n) h = refl
sized_word (negsuc n) h = absurd (omega (arith, ints))

-- what a sum of two products is at most
pub product_most : (x s : ℤ) → unsigned_abs x < 2 ^ 63 → unsigned_abs s ≤ 2 ^ 63 → unsigned_abs (x *ℤ s) ≤ (2 ^ 63 - 1) * 2 ^ 63
product_most x s lx ls =
    let below : unsigned_abs x ≤ 2 ^ 63 - 1 = omega arith in
    subst (λ k. k ≤ (2 ^ 63 - 1) * 2 ^ 63) (sym (unsigned_abs-mul x s)) (mul-le-mul below ls)

pub sum_most : (x y s k : ℤ) → unsigned_abs x < 2 ^ 63 → unsigned_abs y < 2 ^ 63 → unsigned_abs s ≤ 2 ^ 63 → unsigned_abs k ≤ 2 ^ 63 → unsigned_abs (x *ℤ s +ℤ y *ℤ k) ≤ most
sum_most x y s k lx ly ls lk =
    let a = product_most x s lx ls in
    let b = product_most y k ly lk in
    let c = sum_size (x *ℤ s) (y *ℤ k) ((2 ^ 63 - 1) * 2 ^ 63) ((2 ^ 63 - 1) * 2 ^ 63) a b in
    omega (arith, c)

-- a number and its denominator that were divided by one number
pub divided_same : (n s : ℤ) (d e g : ℕ) → 0 < d → n *ℤ pos g ≡ s → d * g ≡ e → IsSame (lowest n d) (over s e)
divided_same n s d e g up en ed =
    let turned : d * g ≡ g * d = mul_comm d g in
    let cross : n *ℤ pos e ≡ s *ℤ pos d = ap (λ k. n *ℤ pos k) (sym ed ∙ turned) ∙ sym (times-times n g d) ∙ ap (λ z. z *ℤ pos d) en in
    IsSame-trans (lowest n d) (over n d) (over s e) up (lowest-same n d up) cross
