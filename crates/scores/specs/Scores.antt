-- What a score in memory is the number of.
use Rattle.std.specs.Prelude.{◌≡◌, ℕ, suc, ◌+◌, ◌*◌, ◌^◌, ◌<◌, ◌≤◌, ℤ, ◌+ℤ◌, pos, negsuc, unsigned_abs}
use Rattle.rational.specs.Ratio.{Ratio, IsSame}
use Rattle.scores.specs.Leading.{leading}
use Rattle.scores.specs.declared.score.Score.{Score}

-- so many times 2 to that power
abbrev pub times_power : ℕ → ℤ → Ratio
times_power n (pos k) = record { num = pos (n * 2 ^ k); den = 1 }
times_power n (negsuc k) = record { num = pos n; den = 2 ^ suc k }

abbrev pub number : Score → Ratio
number s = times_power s.digits s.power

-- 0, or a number of 31 binary digits
pub data IsCut (s : Score) : Type 0 where
  zero_so : s.digits ≡ 0 → s.power ≡ pos 0 → IsCut s
  digits_so : 2 ^ 30 ≤ s.digits → s.digits < 2 ^ 31 → IsCut s

-- it is this number, cut
pub record IsLeading (x : Ratio) (s : Score) : Type 0 where
  pub cut : IsCut s
  pub same : IsSame (number s) (leading x)

-- the size of x is n times 2 to the power p; or n is what that leaves of it before the point, and has 31 digits or more
pub data HasDigits (x : Ratio) (n : ℕ) (p : ℤ) : Type 0 where
  exactly : (a b : ℕ) → p +ℤ pos b ≡ pos a → unsigned_abs x.num * 2 ^ b ≡ n * 2 ^ a * x.den → HasDigits x n p
  without_rest : (a b : ℕ) → p +ℤ pos b ≡ pos a → 2 ^ 30 ≤ n → n * 2 ^ a * x.den ≤ unsigned_abs x.num * 2 ^ b → unsigned_abs x.num * 2 ^ b < (n + 1) * 2 ^ a * x.den → HasDigits x n p

-- its power is at most so great, up or down
abbrev pub IsWithin : ℕ → Score → Type 0
IsWithin n s = unsigned_abs s.power ≤ n
