-- What is known of limits in memory.
use Rattle.std.specs.Prelude.{◌≡◌, ℕ, ◌+◌, ◌<◌, ◌≤◌, false, nat_eq, Option, None, Some}
use Rattle.rational.specs.Ratio.{Ratio, IsNumber, IsSame}
use Rattle.fraction.specs.Frac.{ratio}
use Rattle.fraction.specs.declared.frac.Frac.{Frac}
use Rattle.dictionary.specs.declared.dict.Dict.{Dict}
use Rattle.dictionary.specs.Dict.{width_of, height_of, basic_of}
use Rattle.simplex.specs.declared.limits.Limit.{Limit}
use Rattle.simplex_rules.specs.Turns.{IsFirstLeast}

-- the number that a limit is
pub record IsLimitTold (l : Ratio) (q : Frac) : Type 0 where
  pub number : IsNumber l
  pub same : IsSame (ratio q) l

abbrev pub IsLimit : Option Ratio → Option Frac → Type 0
IsLimit o None = o ≡ None
IsLimit o (Some q) = (l : Ratio) × (o ≡ Some l) × IsLimitTold l q

-- the first of the least limits below n
pub record IsFirstOfLeast (f : ℕ → Option Ratio) (n : ℕ) (b : Limit) : Type 0 where
  pub least : IsFirstLeast f n b.col
  pub told : IsLimitTold least.limit b.quotient
  pub numbers : (k : ℕ) → k < n → (q : Ratio) → f k ≡ Some q → IsNumber q

abbrev pub IsLeastOf : (ℕ → Option Ratio) → ℕ → Option Limit → Type 0
IsLeastOf f n None = (k : ℕ) → k < n → f k ≡ None
IsLeastOf f n (Some b) = IsFirstOfLeast f n b

-- a column that sets no limit while column m moves: it isn't basic, nor m itself
pub record IsStill {L : _} {G : _} (d : Dict L G) (m c : ℕ) : Type 0 where
  pub basic : basic_of d c ≡ false
  pub apart : nat_eq c m ≡ false

-- the first column from a place on that may set one
pub record IsNextLimited {L : _} {G : _} (d : Dict L G) (m from c : ℕ) : Type 0 where
  pub later : from ≤ c
  pub inside : c < width_of d + height_of d
  pub before : (k : ℕ) → from ≤ k → k < c → IsStill d m k
