-- Which refusal of a leaf of rows alone is the first: what the rows leave of the sum that is wanted decides the multipliers of variables.
use Rattle.std.specs.Prelude.{◌≡◌, ℕ, ◌<◌, ◌⊎◌, Option, None, Some, List}
use Rattle.rational.specs.Ratio.{Ratio, IsBelow}
use Rattle.evidence.specs.Sums.{none}
use Rattle.evidence.specs.Instance.{Instance, width}
use Rattle.evidence.specs.Cases.{Multiplier, multiplier_at, completed, AreLegal, AreOfRows}
use Rattle.cert_checker.specs.declared.refused.Unshown.{Unshown}
use Rattle.cert_checker.specs.declared.refused.Unshown.TheVariants.{Tree, Sign, Wide}
use Rattle.cert_checker.specs.Leaves.{wanted, HasSum, SignRefuses, SumRefuses}
use Rattle.cert_checker.specs.Lefts as Left
use Rattle.cert_checker.specs.Grids.{StepsBelow, StepRefuses, GridFits, ReachesInSteps, StepsRefuse}

-- the multiplier of variable j: what the rows leave there
abbrev pub own : Instance → List Multiplier → Option Ratio → ℕ → Multiplier
own I ms z j = Left.own I (wanted I z) ms j

-- those of variables, and then the rows'
abbrev pub all_of : Instance → List Multiplier → Option Ratio → List Multiplier
all_of I ms z = completed I (wanted I z) ms

abbrev pub LeftFits : Instance → List Multiplier → Option Ratio → ℕ → Type 0
LeftFits I ms z j = Left.LeftFits I (wanted I z) ms j

abbrev pub HasOwnEnd : Instance → List Multiplier → Option Ratio → ℕ → Type 0
HasOwnEnd I ms z j = Left.HasOwnEnd I (wanted I z) ms j

abbrev pub LeftsBelow : Instance → List Multiplier → Option Ratio → ℕ → Type 0
LeftsBelow I ms z n = Left.LeftsBelow I (wanted I z) ms n

-- at variable j, after those below it: a sum doesn't fit, or there is no such end
abbrev pub LeftRefusesAt : Instance → List Multiplier → Option Ratio → ℕ → ℕ → Unshown → Type 0
LeftRefusesAt I ms z node j r =
    ((LeftFits I ms z j → ⊥) × (r ≡ Wide node)) ⊎ (LeftFits I ms z j × (HasOwnEnd I ms z j → ⊥) × (r ≡ Sign node j))

abbrev pub LeftRefuses : Instance → List Multiplier → Option Ratio → ℕ → Unshown → Type 0
LeftRefuses I ms z node r = (j : ℕ) × (j < width I) × LeftsBelow I ms z j × LeftRefusesAt I ms z node j r

abbrev pub RowsStand : Instance → List Multiplier → Option Ratio → Type 0
RowsStand I ms z = Left.RowsStand I (wanted I z) ms

-- the first multiplier that isn't legal, the first one where it is a variable's, and then the first variable
abbrev pub RowsRefuse : Instance → List Multiplier → Option Ratio → ℕ → Unshown → Type 0
RowsRefuse I ms z node r =
    SignRefuses I ms node r
    ⊎ (AreLegal I ms × (AreOfRows I ms → ⊥) × (r ≡ Sign node (multiplier_at ms 0).column))
    ⊎ (AreLegal I ms × AreOfRows I ms × LeftRefuses I ms z node r)

-- the completed multipliers show it, by sums that fit
pub record RowLeafHolds (I : Instance) (ms : List Multiplier) (z : Option Ratio) : Type 0 where
  pub stand : RowsStand I ms z
  pub sum : HasSum I (all_of I ms z) z

abbrev pub RowLeafRefuses : Instance → List Multiplier → Option Ratio → ℕ → Unshown → Type 0
RowLeafRefuses I ms z node r = RowsRefuse I ms z node r ⊎ (RowsStand I ms z × SumRefuses I (all_of I ms z) z node r)

-- without a value to aim at, there is no bound
abbrev pub BoundRowsHold : Instance → List Multiplier → Option Ratio → Type 0
BoundRowsHold I ms None = ⊥
BoundRowsHold I ms (Some z) = RowLeafHolds I ms (Some z)

abbrev pub BoundRowsRefuse : Instance → List Multiplier → Option Ratio → ℕ → Unshown → Type 0
BoundRowsRefuse I ms None node r = r ≡ Tree node
BoundRowsRefuse I ms (Some z) node r = RowLeafRefuses I ms (Some z) node r

-- on a grid
pub record GridRowsHold (I : Instance) (g : Ratio) (ms : List Multiplier) (z : Ratio) : Type 0 where
  pub stand : RowsStand I ms (Some z)
  pub above : IsBelow none g
  pub costs : StepsBelow I g (width I)
  pub fits : GridFits I g (all_of I ms (Some z))
  pub reaches : ReachesInSteps I g (all_of I ms (Some z)) z

abbrev pub GridRowsRefuse : Instance → Ratio → List Multiplier → Ratio → ℕ → Unshown → Type 0
GridRowsRefuse I g ms z node r =
    RowsRefuse I ms (Some z) node r
    ⊎ (RowsStand I ms (Some z) × StepRefuses I g node r)
    ⊎ (RowsStand I ms (Some z) × IsBelow none g × StepsBelow I g (width I) × StepsRefuse I g (all_of I ms (Some z)) z node r)

abbrev pub GridRowLeafHolds : Instance → Ratio → List Multiplier → Option Ratio → Type 0
GridRowLeafHolds I g ms None = ⊥
GridRowLeafHolds I g ms (Some z) = GridRowsHold I g ms z

abbrev pub GridRowLeafRefuses : Instance → Ratio → List Multiplier → Option Ratio → ℕ → Unshown → Type 0
GridRowLeafRefuses I g ms None node r = r ≡ Tree node
GridRowLeafRefuses I g ms (Some z) node r = GridRowsRefuse I g ms z node r
