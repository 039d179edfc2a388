-- The one reduced form of a number.
use Rattle.std.proofs.Common.{◌≡◌, ℕ, ◌*◌, ◌/◌, ◌<◌, ℤ, pos, ◌*ℤ◌, arith, sym, ◌∙◌, ap, ap₂, subst}
use Rattle.std.specs.Prelude.{unsigned_abs}
use Rattle.std.specs.Int.{◌∣◌}
use Rattle.std.proofs.Math.Nat.{div-mul_cancel, pos_of_dvd_of_pos, dvd-mul_right}
use Rattle.rational.specs.Ratio.{Ratio, IsNumber, IsSame}
use Rattle.rational.specs.Whole.{signed}
use Rattle.rational.specs.Width.{IsReduced}
use Rattle.rational.proofs.CommonDivisors.{coprime_from_IsGcd, IsGcd_from_coprime, coprime_quotients, has_gcd, same_denominator}
use Rattle.rational.proofs.Scaling.{same_multiple}
use Rattle.rational.proofs.Signs.{as_signed, same_form, sizes_cross, unsigned_abs-signed}

pub one_number : (x y : Ratio) → x.num ≡ y.num → x.den ≡ y.den → x ≡ y
one_number x y p q = ap₂ (λ (n : ℤ) (d : ℕ). let r : Ratio = record { num = n; den = d } in r) p q

-- reduced forms of one number are one form
pub same_reduced : (x y : Ratio) → IsReduced x → IsReduced y → IsSame x y → x ≡ y
same_reduced x y p q e =
    let d : x.den ≡ y.den = same_denominator (unsigned_abs x.num) x.den (unsigned_abs y.num) y.den (coprime_from_IsGcd _ _ p.1) (coprime_from_IsGcd _ _ q.1) (sizes_cross x y e) in
    let n : x.num ≡ y.num = same_multiple x.num y.num x.den p.0 (ap (λ k. x.num *ℤ pos k) d ∙ e) in
    one_number x y n d

-- a quotient by a divisor divides the number, and is above 0 where the number is
pub quotient_divides : (g a : ℕ) → g ∣ a → a / g ∣ a
quotient_divides g a h = subst (λ x. a / g ∣ x) (div-mul_cancel g h) (dvd-mul_right (a / g) g)

pub quotient_above : (g a : ℕ) → g ∣ a → 0 < a → 0 < a / g
quotient_above g a h up = pos_of_dvd_of_pos (quotient_divides g a h) up

pub record IsFormOf (x : Ratio) : Type 0 where
  pub form : Ratio
  pub reduced : IsReduced form
  pub same : IsSame form x

pub parts_cross : (m b g : ℕ) → g ∣ m → g ∣ b → m / g * b ≡ m * (b / g)
parts_cross m b g gm gb =
    let e : m / g * (b / g * g) ≡ m / g * g * (b / g) = omega arith in
    ap (λ x. m / g * x) (sym (div-mul_cancel g gb)) ∙ e ∙ ap (λ x. x * (b / g)) (div-mul_cancel g gm)

-- each number has one
pub reduce : (x : Ratio) → IsNumber x → IsFormOf x
reduce x up =
    let m = unsigned_abs x.num in
    let t = as_signed x.num in
    let found = has_gcd m x.den in
    let g = found.0 in
    let high : 0 < g = pos_of_dvd_of_pos found.1.1 up in
    let apart = coprime_quotients m x.den g high found.1 in
    let size : unsigned_abs (signed t.0 (m / g)) ≡ m / g = unsigned_abs-signed t.0 (m / g) in
    record {
      form = record { num = signed t.0 (m / g); den = x.den / g };
      reduced = (quotient_above g x.den found.1.1 up, rw size (IsGcd_from_coprime (m / g) (x.den / g) apart));
      same = same_form t.0 (m / g) (x.den / g) m x.den (parts_cross m x.den g found.1.0 found.1.1) ∙ ap (λ z. z *ℤ pos (x.den / g)) (sym t.1);
    }
