-- Sums and products of whole numbers.
use Rattle.std.proofs.Common.{◌≡◌, ℤ, pos, ◌+ℤ◌, ◌*ℤ◌, ◌≤◌, ◌^◌, refl, sym, ap₂, subst, lit<, arith}
use Rattle.std.specs.Prelude.{unsigned_abs}
use Rattle.std.proofs.lemmas.Int.{ints}
use Rattle.std.proofs.Math.IntN.{*ℤ_comm}
use Rattle.rational.specs.Ratio.{Ratio, sum, product, IsSame}
use Rattle.fraction.specs.Frac.{ratio}
use Rattle.fraction.specs.declared.frac.Frac.{Frac}
use Rattle.evidence.specs.Width.{TermFits}
use Rattle.common_rows.specs.Row.{over}
use Rattle.common_rows.proofs.NumberChanges.{changed}
use Rattle.common_rows.proofs.Fitting.{term_fits}

-- a fraction with the denominator 1
whole_is : (x : Frac) (n : ℤ) → x.denom ≡ 1 → n ≡ x.numer → over n 1 ≡ ratio x
whole_is x n d e = ap₂ (λ z k. over z k) e (sym d)

-- what holds of whole numbers holds of the fractions that are these
of_wholes : (P : Ratio → Ratio → Ratio → Type 0) (s a x : Frac) (n k m : ℤ) → s.denom ≡ 1 → n ≡ s.numer → a.denom ≡ 1 → k ≡ a.numer → x.denom ≡ 1 → m ≡ x.numer → P (over n 1) (over k 1) (over m 1) → P (ratio s) (ratio a) (ratio x)
of_wholes P s a x n k m ds es da ea dx ex p =
    subst (λ (v : Ratio). P v (ratio a) (ratio x)) (whole_is s n ds es)
    (subst (λ (v : Ratio). P (over n 1) v (ratio x)) (whole_is a k da ea) (subst (λ (v : Ratio). P (over n 1) (over k 1) v) (whole_is x m dx ex) p))

total_over : (n k m : ℤ) → (n +ℤ k *ℤ m) *ℤ pos 1 ≡ n *ℤ pos 1 +ℤ m *ℤ k
total_over n k m = let c = *ℤ_comm k m in omega (arith, ints)

one_over : (k : ℤ) → k *ℤ pos 1 ≡ k
one_over k = omega (arith, ints)

pub whole_sum : (r s a x : Frac) (n k m : ℤ) → s.denom ≡ 1 → n ≡ s.numer → a.denom ≡ 1 → k ≡ a.numer → x.denom ≡ 1 → m ≡ x.numer → r.denom ≡ 1 → r.numer ≡ n +ℤ k *ℤ m → IsSame (ratio r) (sum (ratio s) (product (ratio a) (ratio x)))
whole_sum r s a x n k m ds es da ea dx ex dr er =
    of_wholes (λ u v w. IsSame (ratio r) (sum u (product v w))) s a x n k m ds es da ea dx ex
    (subst (λ (z : Ratio). IsSame z (sum (over n 1) (product (over k 1) (over m 1)))) (whole_is r (n +ℤ k *ℤ m) dr (sym er))
    (changed n k m (n +ℤ k *ℤ m) k 1 1 1 1 1 1 (lit< tt) refl (one_over k) refl (total_over n k m)))

pub whole_fits : (s a x : Frac) (n k m : ℤ) → s.denom ≡ 1 → n ≡ s.numer → a.denom ≡ 1 → k ≡ a.numer → x.denom ≡ 1 → m ≡ x.numer → unsigned_abs n ≤ 2 ^ 63 → unsigned_abs k ≤ 2 ^ 63 → unsigned_abs m ≤ 2 ^ 63 → TermFits (ratio s) (ratio a) (ratio x)
whole_fits s a x n k m ds es da ea dx ex ln lk lm =
    of_wholes (λ u v w. TermFits u v w) s a x n k m ds es da ea dx ex (term_fits n k m 1 1 (lit< tt) (lit< tt) (omega arith) (omega arith) ln lk lm)
