-- The values that a search may begin with, and the point of them.
use Rattle.std.proofs.Common.{◌≡◌, inl, inr, ℕ, zero, suc, Option, None, List, [], ◌∷◌, ◌++◌, get_or, refl, ap}
use Rattle.rational.specs.Ratio.{Ratio}
use Rattle.evidence.specs.Sums.{none}
use Rattle.evidence.specs.Instance.{Instance, Problem}
use Rattle.evidence.specs.Columns.{IsFirstOut, IsFirstWide}
use Rattle.evidence.specs.Point.{IsFeasible}
use Rattle.evidence.specs.Width.{PointFits}
use Rattle.search_rules.specs.Beginnings.{value_given, point_given}

-- one variable more
pub given_more : (gs : List (Option Ratio)) (n : ℕ) → point_given gs (suc n) ≡ point_given gs n ++ value_given (get_or gs n None) ∷ []
given_more [] zero = refl
given_more [] (suc n) = ap (λ xs. none ∷ xs) (given_more [] n)
given_more (g ∷ gs) zero = refl
given_more (g ∷ gs) (suc n) = ap (λ xs. value_given g ∷ xs) (given_more gs n)

-- a point with a column that it doesn't keep isn't feasible
pub not_feasible : (I : Instance) (x : List Ratio) (c : ℕ) → IsFirstOut I x c → IsFeasible I x → ⊥
not_feasible I x c (inl out) is = out.out (record { between = is.variables c out.inside; whole = is.whole c out.inside; further = is.further c out.inside })
not_feasible I x c (inr out) is = out.out (is.rows out.row out.inside)

pub not_within : (P : Problem) (x : List Ratio) → IsFirstWide P.program x → PointFits P x → ⊥
not_within P x out fits = out.wide (fits.rows out.row out.inside)
