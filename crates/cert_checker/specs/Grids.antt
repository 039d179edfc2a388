-- Which refusal of a leaf on the goal's grid is the first.
use Rattle.std.specs.Prelude.{◌≡◌, ℕ, ◌<◌, ◌⊎◌, ℤ, Option, None, Some, IsTrue, List}
use Rattle.rational.specs.Ratio.{Ratio, whole, sum, product, quotient, IsNumber, IsSame, IsBelow, IsAtMost}
use Rattle.evidence.specs.Sums.{none, IsCeiling, IsMultiple}
use Rattle.evidence.specs.Instance.{Instance, width, variable_at, cost_at, minimising}
use Rattle.evidence.specs.Cases.{Multiplier, low_sum, AreLegal}
use Rattle.evidence.specs.Width.{LowFits, StepsFit}
use Rattle.cert_checker.specs.declared.refused.Unshown.{Unshown}
use Rattle.cert_checker.specs.declared.refused.Unshown.TheVariants.{Tree, Step, Sum, Wide}
use Rattle.cert_checker.specs.Leaves.{SignRefuses, FormsBelow, FormRefuses}

-- the cost of variable j goes in steps of g where the variable is whole, and is 0 where it isn't
pub record GoesInSteps (I : Instance) (g : Ratio) (j : ℕ) : Type 0 where
  pub multiple : IsTrue (variable_at I j).whole → IsMultiple g (minimising I (cost_at I j))
  pub other : (IsTrue (variable_at I j).whole → ⊥) → IsSame (minimising I (cost_at I j)) none

abbrev pub StepsBelow : Instance → Ratio → ℕ → Type 0
StepsBelow I g n = (j : ℕ) → j < n → GoesInSteps I g j

-- the first variable whose cost doesn't
pub record IsFirstOff (I : Instance) (g : Ratio) (j : ℕ) : Type 0 where
  pub inside : j < width I
  pub below : StepsBelow I g j
  pub off : GoesInSteps I g j → ⊥

-- the step isn't above 0, which is told past all variables, or isn't one of the goal
abbrev pub StepRefuses : Instance → Ratio → ℕ → Unshown → Type 0
StepRefuses I g node r = ((IsBelow none g → ⊥) × (r ≡ Step node (width I))) ⊎ (IsBelow none g × ((j : ℕ) × IsFirstOff I g j × (r ≡ Step node j)))

-- the number is the low sum, which fits
pub record IsLow (I : Instance) (ms : List Multiplier) (low : Ratio) : Type 0 where
  pub number : IsNumber (low_sum I none ms)
  pub fits : LowFits I none ms
  pub is : IsSame low (low_sum I none ms)

-- the low sum, rounded up to a whole number of steps, reaches z
pub record ReachesInSteps (I : Instance) (g : Ratio) (ms : List Multiplier) (z : Ratio) : Type 0 where
  pub steps : ℤ
  pub rounded : IsCeiling (quotient (low_sum I none ms) g) steps
  pub reaches : IsAtMost z (sum (minimising I I.goal.constant) (product (whole steps) g))

pub record GridFits (I : Instance) (g : Ratio) (ms : List Multiplier) : Type 0 where
  pub low : LowFits I none ms
  pub steps : StepsFit I g ms

abbrev pub StepsRefuse : Instance → Ratio → List Multiplier → Ratio → ℕ → Unshown → Type 0
StepsRefuse I g ms z node r =
    ((GridFits I g ms → ⊥) × (r ≡ Wide node))
    ⊎ (GridFits I g ms × (ReachesInSteps I g ms z → ⊥) × (r ≡ Sum node))

pub record GridHolds (I : Instance) (g : Ratio) (ms : List Multiplier) (z : Ratio) : Type 0 where
  pub legal : AreLegal I ms
  pub forms : FormsBelow I ms (Some z) (width I)
  pub above : IsBelow none g
  pub costs : StepsBelow I g (width I)
  pub fits : GridFits I g ms
  pub reaches : ReachesInSteps I g ms z

-- the first multiplier that isn't legal, the first variable's sum, the step, and then the sum of the ends
abbrev pub GridRefuses : Instance → Ratio → List Multiplier → Ratio → ℕ → Unshown → Type 0
GridRefuses I g ms z node r =
    SignRefuses I ms node r
    ⊎ (AreLegal I ms × FormRefuses I ms (Some z) node r)
    ⊎ (AreLegal I ms × FormsBelow I ms (Some z) (width I) × StepRefuses I g node r)
    ⊎ (AreLegal I ms × FormsBelow I ms (Some z) (width I) × IsBelow none g × StepsBelow I g (width I) × StepsRefuse I g ms z node r)

-- without a value to aim at, there is no such leaf
abbrev pub GridLeafHolds : Instance → Ratio → List Multiplier → Option Ratio → Type 0
GridLeafHolds I g ms None = ⊥
GridLeafHolds I g ms (Some z) = GridHolds I g ms z

abbrev pub GridLeafRefuses : Instance → Ratio → List Multiplier → Option Ratio → ℕ → Unshown → Type 0
GridLeafRefuses I g ms None node r = r ≡ Tree node
GridLeafRefuses I g ms (Some z) node r = GridRefuses I g ms z node r
