-- The ray of a direction: its movements times the least number that makes those of the whole variables whole.
use Rattle.std.specs.Prelude.{◌≡◌, ℕ, zero, suc, ◌<◌, ◌≤◌, pos, Bool, true, false, IfSome, List, length}
use Rattle.rational.specs.Ratio.{Ratio, whole, product, IsSame}
use Rattle.rational.specs.Whole.{IsLcm}
use Rattle.rational.specs.Width.{most, IsReduced, IsWithin}
use Rattle.evidence.specs.Instance.{Instance, width, variable_at}
use Rattle.evidence.specs.Point.{value_at, NeverLeavesZeroOr}

-- the factor after a variable that moves by x: of a whole one, the least common multiple of the factor before it and of x's denominator, which fits
abbrev pub IsNextFactor : Bool → Ratio → ℕ → ℕ → Type 0
IsNextFactor true x before after = IsLcm before x.den after × (after ≤ most)
IsNextFactor false x before after = after ≡ before

-- the factor of the first n variables' movements, from 1 on
abbrev pub IsFactor : Instance → List Ratio → ℕ → ℕ → Type 0
IsFactor I d zero f = f ≡ 1
IsFactor I d (suc j) f = (before : ℕ) × IsFactor I d j before × IsNextFactor (variable_at I j).whole (value_at d j) before f

-- y is x times the factor, in lowest terms, and fits
pub record IsMultiple (f : ℕ) (x y : Ratio) : Type 0 where
  pub reduced : IsReduced y
  pub within : IsWithin y
  pub same : IsSame y (product x (whole (pos f)))

-- r is the direction d times the factor of all its movements
pub record IsScaled (I : Instance) (d r : List Ratio) : Type 0 where
  pub factor : ℕ
  pub least : IsFactor I d (width I) factor
  pub count : length r ≡ width I
  pub movements : (j : ℕ) → j < width I → IsMultiple factor (value_at d j) (value_at r j)

-- from x on along d each variable that may be 0 besides stays, or is within its further ends and meets neither
abbrev pub StaysEither : Instance → List Ratio → List Ratio → Type 0
StaysEither I x d = (j : ℕ) → j < width I → IfSome (variable_at I j).unless_zero (λ e. NeverLeavesZeroOr e (value_at x j) (value_at d j))
