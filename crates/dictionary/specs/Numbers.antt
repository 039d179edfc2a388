-- At which columns numbers are an entry.
use Rattle.std.specs.Prelude.{neg_ℤ, negsuc, ◌≡◌, ℕ, ◌+◌, ◌*◌, ◌/◌, ◌^◌, ◌<◌, ℤ, pos, ◌*ℤ◌, Bool, nat_eq, not, unsigned_abs}
use Rattle.rational.specs.Ratio.{Ratio}

-- the size of marks over k columns, 64 a word
abbrev pub words_over : ℕ → ℕ
words_over k = 64 * ((k + 63) / 64)

-- whether the number at a column isn't 0
abbrev pub has_number : (ℕ → Ratio) → ℕ → Bool
has_number row c = not (nat_eq (unsigned_abs (row c).num) 0)

-- it isn't
abbrev pub HasNumber : (ℕ → Ratio) → ℕ → Type 0
HasNumber row c = (row c).num ≡ pos 0 → ⊥

-- a number has a numerator of 64 bits over a denominator, which isn't the least of them
pub record IsOver (denom : ℕ) (x : Ratio) : Type 0 where
  pub times : ℕ
  pub is : times * x.den ≡ denom
  pub fits : unsigned_abs x.num * times < 2 ^ 63

-- and this is it
pub record IsNumberOver (denom : ℕ) (x : Ratio) (n : ℤ) : Type 0 where
  pub over : IsOver denom x
  pub is : n ≡ x.num *ℤ pos over.times
  pub fits : unsigned_abs n < 2 ^ 63

-- the parts of a change: the number f of a row over another one's denominator p, by a common divisor of both
pub record ArePartsOf (f : ℤ) (p : ℕ) (scale factor : ℤ) : Type 0 where
  pub divisor : ℕ
  pub whole : unsigned_abs scale * divisor ≡ p
  pub number : factor *ℤ pos divisor ≡ f

-- a number with another one's sign
abbrev pub turned : ℤ → ℤ → ℤ
turned (pos m) z = z
turned (negsuc m) z = neg_ℤ z
