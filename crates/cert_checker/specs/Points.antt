-- Which refusal of a point and its values is the first.
use Rattle.std.specs.Prelude.{◌≡◌, ℕ, ◌<◌, ◌⊎◌, min, List, length}
use Rattle.rational.specs.Ratio.{Ratio, IsSame}
use Rattle.evidence.specs.Instance.{Instance, Problem, goals, asking, width}
use Rattle.evidence.specs.Point.{value_at, objective}
use Rattle.evidence.specs.Width.{GoalFits}
use Rattle.evidence.specs.Columns.{IsFirstOut, IsFirstWide}
use Rattle.instance.specs.Feasibility.{IsFeasibleWithin}
use Rattle.cert_checker.specs.declared.refused.Refused.{Refused}
use Rattle.cert_checker.specs.declared.refused.Refused.TheVariants.{NotFeasible, Value, WidePoint}

-- the number of values isn't that of the variables: the column is the smaller number
abbrev pub IsMiscounted : Instance → List Ratio → ℕ → Type 0
IsMiscounted I x c = (length x ≡ width I → ⊥) × (c ≡ min (length x) (width I))

-- goal k's sum at the point fits, and is the value
pub record HoldsValue (P : Problem) (x vs : List Ratio) (k : ℕ) : Type 0 where
  pub fits : GoalFits (asking P k) x
  pub is : IsSame (value_at vs k) (objective (asking P k) x)

abbrev pub ValuesBelow : Problem → List Ratio → List Ratio → ℕ → Type 0
ValuesBelow P x vs n = (k : ℕ) → k < n → HoldsValue P x vs k

-- goal k's sum doesn't fit, or it isn't the value
abbrev pub ValueRefuses : Problem → List Ratio → List Ratio → ℕ → Refused → Type 0
ValueRefuses P x vs k r =
    ((GoalFits (asking P k) x → ⊥) × (r ≡ WidePoint)) ⊎ (GoalFits (asking P k) x × (IsSame (value_at vs k) (objective (asking P k) x) → ⊥) × (r ≡ Value))

-- the first goal that is refused for its value
pub record IsFirstValue (P : Problem) (x vs : List Ratio) (r : Refused) : Type 0 where
  pub goal : ℕ
  pub inside : goal < length (goals P)
  pub below : ValuesBelow P x vs goal
  pub why : ValueRefuses P x vs goal r

-- there isn't one value for each goal, or one isn't right
abbrev pub ValuesRefuse : Problem → List Ratio → List Ratio → Refused → Type 0
ValuesRefuse P x vs r = ((length vs ≡ length (goals P) → ⊥) × (r ≡ Value)) ⊎ ((length vs ≡ length (goals P)) × IsFirstValue P x vs r)

-- what a point is refused for: how many values it has, the first column that it doesn't keep, and then its objectives
abbrev pub PointRefuses : Problem → List Ratio → List Ratio → Refused → Type 0
PointRefuses P x vs r =
    ((c : ℕ) × IsMiscounted P.program x c × (r ≡ NotFeasible c))
    ⊎ ((length x ≡ width P.program) × (c : ℕ) × IsFirstOut P.program x c × (r ≡ NotFeasible c))
    ⊎ ((length x ≡ width P.program) × IsFirstWide P.program x × (r ≡ WidePoint))
    ⊎ (IsFeasibleWithin P.program x × ValuesRefuse P x vs r)
