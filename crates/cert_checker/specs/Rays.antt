-- Which refusal of a direction is the first.
use Rattle.std.specs.Prelude.{◌≡◌, ℕ, ◌+◌, ◌<◌, ◌⊎◌, IsTrue, IfSome, List, length}
use Rattle.rational.specs.Ratio.{Ratio, product, IsBelow}
use Rattle.evidence.specs.Sums.{none, total, IsWhole}
use Rattle.evidence.specs.Instance.{Variable, Instance, width, height, variable_at, row_at, cost_at, minimising}
use Rattle.evidence.specs.Point.{value_at, activity, NeverLeaves, NeverLeavesZeroOr}
use Rattle.evidence.specs.Width.{RowFits, StatedFits}
use Rattle.cert_checker.specs.declared.refused.Unshown.{Unshown}
use Rattle.cert_checker.specs.declared.refused.Unshown.TheVariants.{Direction, Wide}
use Rattle.cert_checker.specs.Points.{IsMiscounted}

-- the variable's movement m from x meets no end, is whole where it must be, and where the variable may be 0 it is none or stays within the further ends
pub record MayMove (v : Variable) (x m : Ratio) : Type 0 where
  pub never : NeverLeaves v.range m
  pub whole : IsTrue v.whole → IsWhole m
  pub further : IfSome v.unless_zero (λ e. NeverLeavesZeroOr e x m)

-- row i's sum fits, and the row's movement meets no end
pub record MayMoveRow (I : Instance) (r : List Ratio) (i : ℕ) : Type 0 where
  pub fits : RowFits I r i
  pub never : NeverLeaves (row_at I i) (activity I r i)

-- each variable below n may move so
abbrev pub VariablesMove : Instance → List Ratio → List Ratio → ℕ → Type 0
VariablesMove I x r n = (j : ℕ) → j < n → MayMove (variable_at I j) (value_at x j) (value_at r j)

-- each row below n may move so
abbrev pub RowsMove : Instance → List Ratio → ℕ → Type 0
RowsMove I r n = (i : ℕ) → i < n → MayMoveRow I r i

-- the first variable that may not move so
pub record IsVariableHeld (I : Instance) (x r : List Ratio) (j : ℕ) : Type 0 where
  pub inside : j < width I
  pub below : VariablesMove I x r j
  pub held : MayMove (variable_at I j) (value_at x j) (value_at r j) → ⊥

-- the first row that may not move so, whose sum fits
pub record IsRowHeld (I : Instance) (r : List Ratio) (i : ℕ) : Type 0 where
  pub inside : i < height I
  pub below : RowsMove I r i
  pub fits : RowFits I r i
  pub held : NeverLeaves (row_at I i) (activity I r i) → ⊥

-- the first row that may not move so, since its sum doesn't fit
pub record IsRowWide (I : Instance) (r : List Ratio) (i : ℕ) : Type 0 where
  pub inside : i < height I
  pub below : RowsMove I r i
  pub wide : RowFits I r i → ⊥

-- how the minimising objective changes along the direction, as a sum from 0
abbrev pub slope : Instance → List Ratio → Ratio
slope I r = total none (width I) (λ j. product (minimising I (cost_at I j)) (value_at r j))

abbrev pub SlopeFits : Instance → List Ratio → Type 0
SlopeFits I r = StatedFits none (width I) (λ j. minimising I (cost_at I j)) (value_at r)

abbrev pub RowsRefuse : Instance → List Ratio → Unshown → Type 0
RowsRefuse I r reason = ((i : ℕ) × IsRowHeld I r i × (reason ≡ Direction (width I + i))) ⊎ ((i : ℕ) × IsRowWide I r i × (reason ≡ Wide 0))

-- the objective's change doesn't fit, or isn't below 0
abbrev pub SlopeRefuses : Instance → List Ratio → Unshown → Type 0
SlopeRefuses I r reason =
    ((SlopeFits I r → ⊥) × (reason ≡ Wide 0)) ⊎ (SlopeFits I r × (IsBelow (slope I r) none → ⊥) × (reason ≡ Direction (width I + height I)))

-- what a direction is refused for: how many movements it has, the first variable, the first row, and then the objective
abbrev pub RayRefuses : Instance → List Ratio → List Ratio → Unshown → Type 0
RayRefuses I x r reason =
    ((c : ℕ) × IsMiscounted I r c × (reason ≡ Direction c))
    ⊎ ((length r ≡ width I) × (j : ℕ) × IsVariableHeld I x r j × (reason ≡ Direction j))
    ⊎ ((length r ≡ width I) × VariablesMove I x r (width I) × RowsRefuse I r reason)
    ⊎ ((length r ≡ width I) × VariablesMove I x r (width I) × RowsMove I r (height I) × SlopeRefuses I r reason)
