-- Which variable divides a case, and into which two: one that must be whole, by the floor of its value (Land and Doig, An automatic method of solving discrete programming problems, 1960), or one that may be 0 besides, into 0 and its further ends (Beale, Branch and bound methods for mathematical programming systems, 1979).
use Rattle.std.specs.Prelude.{◌≡◌, ℕ, ◌<◌, ℤ, pos, ◌+ℤ◌, IsTrue, IfSome, Option, List, ◌∷◌}
use Rattle.std.specs.List.{All}
use Rattle.rational.specs.Ratio.{Ratio, IsFloor}
use Rattle.evidence.specs.Sums.{IsWhole}
use Rattle.evidence.specs.Instance.{Variable, Instance, variable_at}
use Rattle.evidence.specs.Point.{value_at, IsZeroOr}
use Rattle.evidence.specs.Cases.{IsBranch, IsZeroBranch, at_most, at_least, at_zero, unless_zero}

-- a case that is still to search: its program; the variables that were divided into 0 and further ends on the way to it; and, where points are known to have no best value from it on, the ray, for which any point of the case will do
pub record Case : Type 0 where
  pub program : Instance
  pub divided : List ℕ
  pub ray : Option (List Ratio)

-- of the first n variables, the whole ones have whole values
abbrev pub IsWholeBelow : Instance → List Ratio → ℕ → Type 0
IsWholeBelow I x n = (j : ℕ) → j < n → IsTrue (variable_at I j).whole → IsWhole (value_at x j)

-- a value that is 0 or within the variable's further ends, where it has such
abbrev pub IsEither : Variable → Ratio → Type 0
IsEither v x = IfSome v.unless_zero (λ r. IsZeroOr r x)

-- and whole, where the variable must be
pub record IsMet (v : Variable) (x : Ratio) : Type 0 where
  pub whole : IsTrue v.whole → IsWhole x
  pub either : IsEither v x

-- the first n variables have values as they must
abbrev pub AreMetBelow : Instance → List Ratio → ℕ → Type 0
AreMetBelow I x n = (j : ℕ) → j < n → IsMet (variable_at I j) (value_at x j)

-- j is the least variable whose value isn't as it must be: it is only that it isn't whole, and k is its floor
pub record IsSplit (I : Instance) (x : List Ratio) (j : ℕ) (k : ℤ) : Type 0 where
  pub branch : IsBranch I j k
  pub below : AreMetBelow I x j
  pub either : IsEither (variable_at I j) (value_at x j)
  pub other : IsWhole (value_at x j) → ⊥
  pub floor : IsFloor (value_at x j) k

-- j is the least such variable, and its value is neither 0 nor within its further ends
pub record IsDividedAt (I : Instance) (x : List Ratio) (j : ℕ) : Type 0 where
  pub branch : IsZeroBranch I j
  pub below : AreMetBelow I x j
  pub other : IsEither (variable_at I j) (value_at x j) → ⊥

-- variable j may be 0 besides, moves along the direction, and wasn't divided yet
pub record IsMoving (C : Case) (d : List Ratio) (j : ℕ) : Type 0 where
  pub branch : IsZeroBranch C.program j
  pub moves : (value_at d j).num ≡ pos 0 → ⊥
  pub fresh : All (λ i. i ≡ j → ⊥) C.divided

-- the least such variable
pub record IsFirstMoving (C : Case) (d : List Ratio) (j : ℕ) : Type 0 where
  pub moving : IsMoving C d j
  pub before : (i : ℕ) → i < j → IsMoving C d i → ⊥

abbrev pub NoneMoves : Case → List Ratio → Type 0
NoneMoves C d = (j : ℕ) → IsMoving C d j → ⊥

-- in place of the case: variable j is at most k, or at least k + 1
abbrev pub split_cases : Case → ℕ → ℤ → List Case → List Case
split_cases C j k rest = record C { program = at_most C.program j k } ∷ record C { program = at_least C.program j (k +ℤ pos 1) } ∷ rest

-- variable j is 0, or within its further ends
abbrev pub divided_cases : Case → ℕ → List Case → List Case
divided_cases C j rest =
    record C { program = at_zero C.program j; divided = j ∷ C.divided } ∷ record C { program = unless_zero C.program j; divided = j ∷ C.divided } ∷ rest
