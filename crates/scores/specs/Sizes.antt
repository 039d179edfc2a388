-- Sizes of numbers, and 1 with the sizes of many, by their leading digits.
use Rattle.std.specs.Prelude.{◌≡◌, ℕ, zero, suc, ◌^◌, ◌<◌, ◌⊎◌, ℤ, pos, unsigned_abs}
use Rattle.rational.specs.Ratio.{Ratio, whole, sum, IsSame}
use Rattle.evidence.specs.Sums.{total}
use Rattle.scores.specs.Leading.{leading}

abbrev pub size : Ratio → Ratio
size x = record { num = pos (unsigned_abs x.num); den = x.den }

-- 1 and the sizes of the first n numbers, each cut, and each sum
abbrev pub cut_sum : (ℕ → Ratio) → ℕ → Ratio
cut_sum f zero = whole (pos 1)
cut_sum f (suc n) = leading (sum (cut_sum f n) (leading (size (f n))))

-- the first n numbers are of 63 bits over one denominator of 63
pub record HaveOneDenominator (n : ℕ) (f : ℕ → Ratio) : Type 0 where
  pub denom : ℕ
  pub above : 0 < denom
  pub few : denom < 2 ^ 63
  pub numers : ℕ → ℤ
  pub small : (c : ℕ) → c < n → unsigned_abs (numers c) < 2 ^ 63
  pub same : (c : ℕ) → c < n → IsSame (f c) (record { num = numers c; den = denom })

-- 1 and the sizes of the first n numbers: cut once where they have one denominator, so that their sum is one of few digits; else after each
abbrev pub IsTotalSize : ℕ → (ℕ → Ratio) → Ratio → Type 0
IsTotalSize n f s =
    (HaveOneDenominator n f × (s ≡ leading (total (whole (pos 1)) n (λ c. size (f c)))))
    ⊎ ((HaveOneDenominator n f → ⊥) × (s ≡ cut_sum f n))
