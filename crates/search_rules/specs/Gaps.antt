-- How near the best point is to the bound of the open cases (Land and Doig, 1960): no further than a gap that was asked for. Each open case is bounded by the value of the nearest run above it that had a best point.
use Rattle.std.specs.Prelude.{◌≡◌, pos, unsigned_abs, Option, None, Some, IsSomeAnd, List, []}
use Rattle.std.specs.List.{All}
use Rattle.rational.specs.Ratio.{Ratio, product, sum, negative, IsNumber, IsSame, IsAtMost}
use Rattle.rational.specs.Width.{IsReduced, ReducedFits, SumFits}
use Rattle.evidence.specs.Instance.{Problem, minimising}
use Rattle.simplex_rules.specs.Ends.{End, Best}
use Rattle.search_rules.specs.Search.{Found, SearchMoment, reached}

-- a gap: a number, or so many hundredths of the size of the best point's value
pub data Gap : Type 0 where
  Number : Ratio → Gap
  Percent : Ratio → Gap

abbrev pub size : Ratio → Ratio
size x = record { num = pos (unsigned_abs x.num); den = x.den }

abbrev pub hundredth : Ratio
hundredth = record { num = pos 1; den = 100 }

-- so many hundredths of a value's size, both products within the greatest size of numbers
pub record IsPart (percent value part : Ratio) : Type 0 where
  pub whole_fits : ReducedFits (product percent (size value))
  pub fits : ReducedFits (product (product percent (size value)) hundredth)
  pub same : IsSame part (product (product percent (size value)) hundredth)
  pub reduced : IsReduced part

-- how far a best point of this value may be from the bound
abbrev pub IsAllowed : Gap → Ratio → Ratio → Type 0
IsAllowed (Number g) value allowed = allowed ≡ g
IsAllowed (Percent p) value allowed = IsPart p value allowed

-- the value of the run of a case that had x: the run's, where it had a best point by the level's goal
abbrev pub number_after : Option (List Ratio) → End → Option Ratio → Option Ratio
number_after None (Best b x ms) k = Some b
number_after ray e k = k

-- no open case has a value below the least that is near: the best point's, turned so that less is better, less what is allowed, which fits
pub record IsNearBy (P : Problem) (g : Gap) (m : SearchMoment) (xs : List (Option Ratio)) : Type 0 where
  pub one_goal : P.later ≡ []
  pub some : xs ≡ [] → ⊥
  pub found : Found
  pub best : m.best ≡ Some found
  pub allowed : Ratio
  pub is : IsAllowed g (reached m.level found) allowed
  pub least : Ratio
  pub number : IsNumber least
  pub fits : SumFits (minimising P.program (reached m.level found)) (negative allowed)
  pub same : IsSame least (sum (minimising P.program (reached m.level found)) (negative allowed))
  pub numbers : All (λ (x : Option Ratio). IsSomeAnd x (λ b. IsAtMost least b)) xs

-- where a gap is asked for
abbrev pub IsNearEnough : Problem → Option Gap → SearchMoment → List (Option Ratio) → Type 0
IsNearEnough P None m xs = ⊥
IsNearEnough P (Some g) m xs = IsNearBy P g m xs
