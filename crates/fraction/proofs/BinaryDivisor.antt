-- The steps of the binary greatest common divisor, at any width.
use Rattle.std.proofs.Common.{◌≡◌, ℕ, zero, suc, ◌+◌, ◌-◌, ◌*◌, ◌/◌, ◌%◌, ◌^◌, ◌<◌, ◌≤◌, ◌⊎◌, inl, inr, min, arith, refl, sym, ◌∙◌, ap, subst}
use Rattle.std.specs.Int.{IsGcd, ◌∣◌, Width, trailing_zeros, bit_at, abs_diff}
use mir.Val.{bits}
use Rattle.std.proofs.Math.Nat.{dvd-mul_right, mul-dvd-mul_right, eq-one_of_dvd-one, div-mul_cancel, mod-eq_of_lt, pow-suc, pos_of_dvd_of_pos}
use Rattle.std.proofs.lemmas.Bool.{cases_lt}
use Rattle.std.proofs.lemmas.Nat.{pow-add}
use Rattle.std.proofs.lemmas.Nat.Bits.{bit_at-trailing_zeros, bit_at_lowest, bit_at-suc}
use Rattle.std.proofs.lemmas.Nat.Gcd.{IsGcd-from_sub, IsGcd-swap, dvd_refl, dvd_trans, le_of_dvd, mod-eq-zero_of_dvd}
use Rattle.rational.proofs.CommonDivisors.{IsCoprime, coprime_parts, coprime-mul_right, divides_other, divides-mul, one_divides}

-- the lowest digits that are 0 make a power of 2 that divides the number
zeros_divide : (t n : ℕ) → ((i : ℕ) → i < t → bit_at n i ≡ 0) → 2 ^ t ∣ n
zeros_divide zero n h = one_divides n
zeros_divide (suc t) n h =
    let even : n % 2 ≡ 0 = sym (bit_at_lowest n) ∙ h 0 (omega arith) in
    let half : n / 2 * 2 ≡ n = omega arith in
    let rest : 2 ^ t ∣ n / 2 = zeros_divide t (n / 2) (λ i p. sym (bit_at-suc n i) ∙ h (suc i) (omega arith)) in
    rw (pow-suc 2 t) (subst (λ x. 2 ^ t * 2 ∣ x) half (mul-dvd-mul_right (2 ^ t) rest 2))

-- a number without the zeros at its end is odd
pub record IsOddPart (n t : ℕ) : Type 0 where
  pub odd : n / 2 ^ t % 2 ≡ 1
  pub whole : n / 2 ^ t * 2 ^ t ≡ n

pub odd_part : (w : Width) (n : ℕ) → 0 < n → n < 2 ^ bits w → IsOddPart n (trailing_zeros w n)
odd_part w n up fits =
    let p = bit_at-trailing_zeros w n up fits in
    record { odd = p.1; whole = div-mul_cancel (2 ^ trailing_zeros w n) (zeros_divide (trailing_zeros w n) n p.2) }

coprime_two : (a : ℕ) → a % 2 ≡ 1 → IsCoprime a 2
coprime_two a odd zero p q = absurd (let h = mod-eq-zero_of_dvd 0 q in omega arith)
coprime_two a odd (suc zero) p q = refl
coprime_two a odd (suc (suc zero)) p q = absurd (let h = mod-eq-zero_of_dvd 2 p in omega arith)
coprime_two a odd (suc (suc (suc d))) p q = absurd (let h = le_of_dvd (omega arith) q in omega arith)

coprime_power : (a t : ℕ) → a % 2 ≡ 1 → IsCoprime a (2 ^ t)
coprime_power a zero odd = λ d p q. eq-one_of_dvd-one q
coprime_power a (suc t) odd = rw (pow-suc 2 t) (coprime-mul_right (2 ^ t) 2 a (coprime_power a t odd) (coprime_two a odd))

-- beside an odd number a power of 2 is no common divisor
without_zeros : (a b c t g : ℕ) → a % 2 ≡ 1 → c * 2 ^ t ≡ b → IsGcd a c g → IsGcd a b g
without_zeros a b c t g odd is h = (
  h.0,
  dvd_trans g h.1 (subst (λ x. c ∣ x) is (dvd-mul_right c (2 ^ t))),
  λ d p q.
      let other : IsCoprime d (2 ^ t) = coprime_parts a (2 ^ t) d (2 ^ t) p (dvd_refl (2 ^ t)) (coprime_power a t odd) in
      let turned : b ≡ 2 ^ t * c = sym is ∙ omega arith in
      h.2 d p (divides_other d (2 ^ t) c other (subst (λ x. d ∣ x) turned q)),
)

-- one step: the lesser number, and the difference without the zeros at its end
from_difference : (a b t g : ℕ) → b ≤ a → b % 2 ≡ 1 → IsOddPart (a - b) t → IsGcd ((a - b) / 2 ^ t) b g → IsGcd a b g
from_difference a b t g le odd part h =
    IsGcd-from_sub a b g le (IsGcd-swap b (a - b) g (without_zeros b (a - b) ((a - b) / 2 ^ t) t g odd part.whole (IsGcd-swap _ _ g h)))

from_step : (a b t g : ℕ) → a % 2 ≡ 1 → b % 2 ≡ 1 → IsOddPart (abs_diff a b) t → IsGcd (abs_diff a b / 2 ^ t) (min a b) g → IsGcd a b g
from_step a b t g first second part h = elim (cases_lt a b) [
  | inl le ↦
      let e : abs_diff a b ≡ b - a = omega arith in
      let f : min a b ≡ a = omega arith in
      IsGcd-swap b a g (from_difference b a t g (omega arith) first (subst (λ x. IsOddPart x t) e part) (rw (e, f) at h))
  | inr le ↦
      let e : abs_diff a b ≡ a - b = omega arith in
      let f : min a b ≡ b = omega arith in
      from_difference a b t g le second (subst (λ x. IsOddPart x t) e part) (rw (e, f) at h)
]

-- the lesser number, and the difference without the zeros at its end, have the same common divisors
pub record IsStep (a b c d : ℕ) : Type 0 where
  pub same : (g : ℕ) → IsGcd c d g → IsGcd a b g
  pub left : c % 2 ≡ 1
  pub right : d % 2 ≡ 1

pub step : (w : Width) (a b rest least : ℕ) → a % 2 ≡ 1 → b % 2 ≡ 1 → (a ≡ b → ⊥) → rest ≡ abs_diff a b → least ≡ min a b → rest < 2 ^ bits w → IsStep a b (rest / 2 ^ trailing_zeros w rest) least
step w a b rest least first second other difference minimum fits =
    let part = odd_part w rest (omega arith) fits in
    record {
      same = λ g h. from_step a b (trailing_zeros w rest) g first second (subst (λ x. IsOddPart x (trailing_zeros w rest)) difference part) (rw (← difference, ← minimum) h);
      left = part.odd;
      right = elim (cases_lt a b) [ inl le ↦ omega arith | inr le ↦ omega arith ];
    }

scaled_gcd : (a b g c : ℕ) → IsGcd a b g → IsGcd (a * c) (b * c) (g * c)
scaled_gcd a b g c h = (mul-dvd-mul_right g h.0 c, mul-dvd-mul_right g h.1 c, λ d p q. divides-mul a b g d c h p q)

-- where the first number has fewer zeros at its end
from_fewer : (a b u v s k g : ℕ) → u % 2 ≡ 1 → u * 2 ^ s ≡ a → v * 2 ^ (s + k) ≡ b → IsGcd u v g → IsGcd a b (g * 2 ^ s)
from_fewer a b u v s k g odd first second h =
    let turned : v * 2 ^ k * 2 ^ s ≡ v * (2 ^ s * 2 ^ k) = omega arith in
    let e : v * 2 ^ k * 2 ^ s ≡ b = turned ∙ ap (λ x. v * x) (sym (pow-add 2 s k)) ∙ second in
    let p = scaled_gcd u (v * 2 ^ k) g (2 ^ s) (without_zeros u (v * 2 ^ k) v k g odd refl h) in
    rw (first, e) at p

from_odd_parts : (a b s t g : ℕ) → IsOddPart a s → IsOddPart b t → IsGcd (a / 2 ^ s) (b / 2 ^ t) g → IsGcd a b (g * 2 ^ min s t)
from_odd_parts a b s t g first second h = elim (cases_lt s t) [
  | inl le ↦
      let e : min s t ≡ s = omega arith in
      let f : s + (t - s) ≡ t = omega arith in
      rw e (from_fewer a b (a / 2 ^ s) (b / 2 ^ t) s (t - s) g first.odd first.whole (rw f second.whole) h)
  | inr le ↦
      let e : min s t ≡ t = omega arith in
      let f : t + (s - t) ≡ s = omega arith in
      rw e (IsGcd-swap b a _ (from_fewer b a (b / 2 ^ t) (a / 2 ^ s) t (s - t) g second.odd second.whole (rw f first.whole) (IsGcd-swap _ _ g h)))
]

-- the greatest common divisor of what is left without the zeros, shifted back: it divides what fits, so it fits
pub from_shifted : (w : Width) (a b g k : ℕ) → 0 < a → 0 < b → a < 2 ^ bits w → b < 2 ^ bits w → k ≡ min (trailing_zeros w a) (trailing_zeros w b) → IsGcd (a / 2 ^ trailing_zeros w a) (b / 2 ^ trailing_zeros w b) g → IsGcd a b (g * 2 ^ k % 2 ^ bits w)
from_shifted w a b g k up high left right is h =
    let whole : IsGcd a b (g * 2 ^ k) = rw is (from_odd_parts a b (trailing_zeros w a) (trailing_zeros w b) g (odd_part w a up left) (odd_part w b high right) h) in
    let low : g * 2 ^ k < 2 ^ bits w = let le = le_of_dvd high whole.1 in omega arith in
    rw (mod-eq_of_lt low) whole

-- where no step is needed
pub gcd_of_one : (a b : ℕ) → (a ≡ 1) ⊎ (b ≡ 1) → IsGcd a b 1
gcd_of_one a b (inl e) = (one_divides a, one_divides b, λ d p q. subst (λ x. d ∣ x) e p)
gcd_of_one a b (inr e) = (one_divides a, one_divides b, λ d p q. subst (λ x. d ∣ x) e q)

pub gcd_of_same : (a b : ℕ) → a ≡ b → IsGcd a b a
gcd_of_same a b e = (dvd_refl a, subst (λ x. a ∣ x) e (dvd_refl a), λ d p q. p)

pub gcd_above : (a b g : ℕ) → 0 < b → IsGcd a b g → 0 < g
gcd_above a b g up h = pos_of_dvd_of_pos h.1 up
