-- The lowest terms of a number over a denominator.
use Rattle.std.proofs.Common.{◌≡◌, ℕ, zero, suc, ◌*◌, ◌/◌, ◌%◌, ◌<◌, ℤ, pos, negsuc, ◌+ℤ◌, ◌*ℤ◌, neg_ℤ, Bool, true, false, arith, refl, sym, ◌∙◌, ap}
use Rattle.std.specs.Prelude.{unsigned_abs}
use Rattle.std.specs.Int.{IsGcd}
use Rattle.std.proofs.Math.Nat.{div-mul_cancel, pos_of_dvd_of_pos}
use Rattle.std.proofs.lemmas.Nat.Gcd.{IsGcd-from_zero, IsGcd-from_mod}
use Rattle.rational.specs.Ratio.{Ratio, sum, product, IsSame, IsNumber}
use Rattle.rational.specs.Width.{IsReduced}
use Rattle.rational.specs.Whole.{signed}
use Rattle.rational.proofs.CommonDivisors.{IsGcd_from_coprime, coprime_quotients}
use Rattle.rational.proofs.Integers.{neg-times}
use Rattle.rational.proofs.ReducedForms.{parts_cross, quotient_above, same_reduced}
use Rattle.rational.proofs.Scaling.{IsSame-trans}
use Rattle.rational.proofs.Signs.{same_form, unsigned_abs-signed}
use Rattle.evidence.proofs.Numbers.{◌≈◌, ◌⊙◌, ≈-sym, sum-≈, product-≈, sum-number, product-number}
use Rattle.common_rows.specs.Row.{over}
use Rattle.dictionary.specs.Lowest.{divisor_by, divisor_of, lowest}
use Rattle.common_rows.proofs.NumberChanges.{changed}

-- as many steps as the second number and one more are enough
steps_enough : (k a b : ℕ) → b < k → IsGcd a b (divisor_by k a b)
steps_enough zero a b h = absurd (omega arith)
steps_enough (suc k) a zero h = IsGcd-from_zero a 0 refl
steps_enough (suc k) a (suc b) h =
    let less : a % suc b < k = omega arith in
    IsGcd-from_mod a (suc b) (divisor_by k (suc b) (a % suc b)) (steps_enough k (suc b) (a % suc b) less)

pub is_divisor : (a b : ℕ) → IsGcd a b (divisor_of a b)
unfolding divisor_of
is_divisor a b = steps_enough (suc b) a b (omega arith)

-- a number of this sign and size over d, both divided by g
module _ (s : Bool) (m d : ℕ) (up : 0 < d) (g : ℕ) (is : IsGcd m d g) where
  divided : Ratio
  divided = record { num = signed s (m / g); den = d / g }

  divided-reduced : IsReduced (record { num = signed s (m / g); den = d / g })
  divided-reduced =
      let high : 0 < g = pos_of_dvd_of_pos is.1 up in
      let apart = coprime_quotients m d g high is in
      let size : unsigned_abs (signed s (m / g)) ≡ m / g = unsigned_abs-signed s (m / g) in
      (quotient_above g d is.1 up, rw size (IsGcd_from_coprime (m / g) (d / g) apart))

  divided-same : IsSame (record { num = signed s (m / g); den = d / g }) (over (signed s m) d)
  divided-same = same_form s (m / g) (d / g) m d (parts_cross m d g is.0 is.1)

pub lowest-reduced : (n : ℤ) (d : ℕ) → 0 < d → IsReduced (lowest n d)
unfolding lowest
lowest-reduced (pos n) d up = divided-reduced false n d up (divisor_of n d) (is_divisor n d)
lowest-reduced (negsuc n) d up = divided-reduced true (suc n) d up (divisor_of (suc n) d) (is_divisor (suc n) d)

pub lowest-same : (n : ℤ) (d : ℕ) → 0 < d → IsSame (lowest n d) (over n d)
unfolding lowest
lowest-same (pos n) d up = divided-same false n d up (divisor_of n d) (is_divisor n d)
lowest-same (negsuc n) d up = divided-same true (suc n) d up (divisor_of (suc n) d) (is_divisor (suc n) d)

-- a reduced form of the number is its lowest terms
pub lowest-of : (x : Ratio) (n : ℤ) (d : ℕ) → 0 < d → IsReduced x → IsSame x (over n d) → x ≡ lowest n d
lowest-of x n d up red same = same_reduced x (lowest n d) red (lowest-reduced n d up) (IsSame-trans x (over n d) (lowest n d) up same (sym (lowest-same n d up)))

pub lowest-≈ : (n : ℤ) (d : ℕ) → 0 < d → lowest n d ≈ over n d
lowest-≈ n d up = record { left = (lowest-reduced n d up).0; right = up; is = lowest-same n d up }

-- what a number and its denominator are of its lowest terms
pub record IsRowDivided (n : ℤ) (d : ℕ) (x : Ratio) : Type 0 where
  pub divisor : ℕ
  pub above : 0 < divisor
  pub num : x.num *ℤ pos divisor ≡ n
  pub den : x.den * divisor ≡ d

pub lowest_parts : (n : ℤ) (d : ℕ) → 0 < d → IsRowDivided n d (lowest n d)
unfolding lowest
lowest_parts (pos n) d up =
    let is = is_divisor n d in
    record { divisor = divisor_of n d; above = pos_of_dvd_of_pos is.1 up; num = ap pos (div-mul_cancel (divisor_of n d) is.0); den = div-mul_cancel (divisor_of n d) is.1 }
lowest_parts (negsuc n) d up =
    let g : ℕ = divisor_of (suc n) d in
    let is = is_divisor (suc n) d in
    record { divisor = g; above = pos_of_dvd_of_pos is.1 up; num = neg-times (pos (suc n / g)) (pos g) ∙ ap (λ k. neg_ℤ (pos k)) (div-mul_cancel g is.0); den = div-mul_cancel g is.1 }

-- what a change gives of numbers in lowest terms: those of the row and of the entry at the column that goes, and the other row's
pub replaced : (n f m z k : ℤ) (d p s h g e : ℕ) → 0 < d → 0 < p → 0 < e → 0 < g → s * h ≡ p → k *ℤ pos h ≡ f → e * g ≡ d * s → z *ℤ pos g ≡ n *ℤ pos s +ℤ m *ℤ k → IsSame (lowest z e) (sum (lowest n d) (product (lowest f d) (lowest m p)))
replaced n f m z k d p s h g e ud up ue ug eh ek ee ez =
    let number : IsNumber (sum (over n d) (product (over f d) (over m p))) = sum-number (over n d) (product (over f d) (over m p)) ud (product-number (over f d) (over m p) ud up) in
    let stated : over z e ≈ sum (over n d) (product (over f d) (over m p)) = record { left = ue; right = number; is = changed n f m z k d p s h g e ug eh ek ee ez } in
    let forms : sum (lowest n d) (product (lowest f d) (lowest m p)) ≈ sum (over n d) (product (over f d) (over m p)) = sum-≈ (lowest-≈ n d ud) (product-≈ (lowest-≈ f d ud) (lowest-≈ m p up)) in
    let all = lowest-≈ z e ue ⊙ stated ⊙ ≈-sym forms in
    all.is
