-- How many binary digits a number has.
use Rattle.std.proofs.Common.{◌≡◌, ℕ, zero, suc, ◌+◌, ◌*◌, ◌/◌, ◌^◌, ◌<◌, ◌≤◌, inl, inr, refl, sym, ◌∙◌, ap, subst, pow_pos, pow-add, arith}
use Rattle.std.proofs.lemmas.Bool.{cases_eq, ne_eqb}
use Rattle.scores.specs.Leading.{digits_by, digits}

pub twice : (k : ℕ) → 2 ^ suc k ≡ 2 ^ k * 2
twice k = ap (λ (m : ℕ). 2 ^ m) (let e : suc k ≡ k + 1 = omega arith in e) ∙ pow-add 2 k 1

digits_none : (f : ℕ) → digits_by f 0 ≡ 0
digits_none zero = refl
digits_none (suc f) = refl

digits_step : (f n : ℕ) → (n ≡ 0 → ⊥) → digits_by (suc f) n ≡ suc (digits_by f (n / 2))
digits_step f n some = rw (ne_eqb n 0 some) refl

below_by : (f n : ℕ) → n ≤ f → n < 2 ^ digits_by f n
below_by zero n h = omega arith
below_by (suc f) n h = elim (cases_eq n 0) [
  | inl e ↦ subst (λ (m : ℕ). m < 2 ^ digits_by (suc f) m) (sym e) (pow_pos 0)
  | inr some ↦
      let i = below_by f (n / 2) (let k : n / 2 ≤ f = omega (arith, some) in k) in
      subst (λ (d : ℕ). n < 2 ^ d) (sym (digits_step f n some)) (let t = twice (digits_by f (n / 2)) in omega (arith, i, t))
]

above_by : (f n : ℕ) → n ≤ f → (n ≡ 0 → ⊥) → 2 ^ digits_by f n ≤ 2 * n
above_by zero n h some = absurd (some (omega arith))
above_by (suc f) n h some =
    let half : 2 ^ digits_by f (n / 2) ≤ n = elim (cases_eq (n / 2) 0) [
      | inl e ↦ subst (λ (m : ℕ). 2 ^ digits_by f m ≤ n) (sym e) (subst (λ (d : ℕ). 2 ^ d ≤ n) (sym (digits_none f)) (omega (arith, some)))
      | inr more ↦ let i = above_by f (n / 2) (let k : n / 2 ≤ f = omega (arith, some) in k) more in omega (arith, i)
    ] in
    subst (λ (d : ℕ). 2 ^ d ≤ 2 * n) (sym (digits_step f n some)) (let t = twice (digits_by f (n / 2)) in omega (arith, half, t))

pub digits_below : (n : ℕ) → n < 2 ^ digits n
digits_below n = below_by n n (let e : n ≤ n = omega arith in e)

pub digits_above : (n : ℕ) → 0 < n → 2 ^ digits n ≤ 2 * n
digits_above n some = above_by n n (let e : n ≤ n = omega arith in e) (λ e. omega (arith, e, some))
