-- Powers of ten, and sizes with zeros behind them.
use Rattle.std.proofs.Common.{◌≡◌, ◌≢◌, ℕ, zero, suc, ◌+◌, ◌*◌, ◌%◌, ◌^◌, ◌<◌, ◌≤◌, ◌⊎◌, inl, inr, refl, ap, sym, ◌∙◌, subst, arith, lit<, lit≤, Option, Some, None}
use Rattle.std.proofs.Math.Nat.{pow-le-pow_right, one-le-pow, le-mul_of_pos_right}
use Rattle.std.proofs.lemmas.Nat.{pow-add, mod-mul-add}
use Rattle.rational.specs.Width.{most}
use Rattle.decimal_text.specs.Parts.{IsKeptSize, IsSignificand}

pub ten_power : (k : ℕ) → 0 < 10 ^ k
ten_power k = omega (arith, one-le-pow k 10 (lit< tt))

pub far : (k : ℕ) → 38 < k → most < 10 ^ k
far k h = let low : 10 ^ 39 ≤ 10 ^ k = pow-le-pow_right {n = 10} (lit< tt) {i = 39} {j = k} (omega arith) in let top : most < 10 ^ 39 = lit< tt in omega (arith, low, top)

pub near : (k : ℕ) → k ≤ 38 → 10 ^ k ≤ most
near k h = let low : 10 ^ k ≤ 10 ^ 38 = pow-le-pow_right {n = 10} (lit< tt) {i = k} {j = 38} h in let top : 10 ^ 38 ≤ most = lit≤ tt in omega (arith, low, top)

pub ten_more : (k : ℕ) → 10 ^ (k + 1) ≡ 10 ^ k * 10
ten_more k = pow-add 10 k 1

short_digit : (digit : ℕ) → digit < 10 → (digit % 10 ≢ 0) ⊎ ((digit ≡ 0) × (◌≡◌ {A = ℕ} 0 0))
short_digit zero h = inr (refl, refl)
short_digit (suc d) h = inl (λ e. omega arith)

pub first_digit : (v zeros digit : ℕ) → digit < 10 → IsSignificand v (Some 0) zeros → IsSignificand (v * 10 + digit) (Some digit) 0
first_digit v zeros digit h s =
    let none : v ≡ 0 * 10 ^ zeros = s.value ∙ ap (λ n. n * 10 ^ zeros) (sym s.keeps.0) in
    let top : 10 ≤ most = lit≤ tt in
    record {
      size = digit;
      value = omega (arith, none);
      short = short_digit digit h;
      keeps = (refl, omega arith);
    }

-- a size that isn't 0 is no multiple of ten
pub above_short : (v places : ℕ) (kept : Option ℕ) → (kept ≡ Some 0 → ⊥) → (s : IsSignificand v kept places) → s.size % 10 ≢ 0
above_short v places None n s = elim s.short as (λ _. s.size % 10 ≢ 0) [ inl h ↦ h | inr h ↦ absurd (omega (arith, s.keeps, h.0)) ]
above_short v places (Some m) n s = elim s.short as (λ _. s.size % 10 ≢ 0) [ inl h ↦ h | inr h ↦ absurd (n (ap (λ x. Some x) (s.keeps.0 ∙ h.0))) ]

pub next_zero : (v zeros : ℕ) (kept : Option ℕ) → (kept ≡ Some 0 → ⊥) → IsSignificand v kept zeros → IsSignificand (v * 10 + 0) kept (zeros + 1)
next_zero v zeros kept n s = record {
  size = s.size;
  value = omega (arith, s.value, ap (λ x. s.size * x) (ten_more zeros));
  short = inl (above_short v zeros kept n s);
  keeps = s.keeps;
}

digit_last : (n zeros digit : ℕ) → 0 < digit → digit < 10 → (n * 10 ^ (zeros + 1) + digit) % 10 ≢ 0
digit_last n zeros digit up h e =
    let same : n * 10 ^ (zeros + 1) ≡ n * 10 ^ zeros * 10 = omega (arith, ap (λ x. n * x) (ten_more zeros)) in
    let last : (n * 10 ^ zeros * 10 + digit) % 10 ≡ digit = mod-mul-add (n * 10 ^ zeros) 10 digit h in
    omega (arith, sym (ap (λ x. (x + digit) % 10) same) ∙ e, last, ap (λ x. (x + digit) % 10) same)

pub next_digit : (v zeros m digit : ℕ) (kept : Option ℕ) → 0 < digit → digit < 10 → IsSignificand v (Some m) zeros → IsKeptSize (m * 10 ^ (zeros + 1) + digit) kept → IsSignificand (v * 10 + digit) kept 0
next_digit v zeros m digit kept up h s k = record {
  size = m * 10 ^ (zeros + 1) + digit;
  value = omega (arith, s.value ∙ ap (λ n. n * 10 ^ zeros) (sym s.keeps.0), ap (λ x. m * x) (ten_more zeros));
  short = inl (digit_last m zeros digit up h);
  keeps = k;
}

pub past_digit : (v zeros digit : ℕ) → 0 < digit → digit < 10 → IsSignificand v None zeros → IsSignificand (v * 10 + digit) None 0
past_digit v zeros digit up h s = record {
  size = s.size * 10 ^ (zeros + 1) + digit;
  value = omega (arith, s.value, ap (λ x. s.size * x) (ten_more zeros));
  short = inl (digit_last s.size zeros digit up h);
  keeps = omega (arith, s.keeps, le-mul_of_pos_right s.size (ten_power (zeros + 1)));
}

pub past_zero : (v zeros : ℕ) → IsSignificand v None zeros → IsSignificand (v * 10 + 0) None (zeros + 1)
past_zero v zeros s = next_zero v zeros None (λ e. cc) s

pub next_kept : (v zeros m digit : ℕ) (kept : Option ℕ) → kept ≡ Some m → (m ≡ 0 → ⊥) → digit ≡ 0 → IsSignificand v kept zeros → IsSignificand (v * 10 + digit) (Some m) (zeros + 1)
next_kept v zeros m digit kept e n z s =
    let t : IsSignificand v (Some m) zeros = subst (λ k. IsSignificand v k zeros) e s in
    subst (λ d. IsSignificand (v * 10 + d) (Some m) (zeros + 1)) (sym z) (next_zero v zeros (Some m) (λ h. n (cc)) t)
