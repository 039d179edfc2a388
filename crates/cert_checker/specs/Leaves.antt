-- Which refusal of a leaf of a tree of cases is the first.
use Rattle.std.specs.Prelude.{◌≡◌, ℕ, ◌+◌, ◌<◌, ◌⊎◌, pos, Option, None, Some, IsSome, List, length}
use Rattle.rational.specs.Ratio.{Ratio, IsSame, IsBelow, IsAtMost}
use Rattle.evidence.specs.Sums.{none}
use Rattle.evidence.specs.Instance.{Instance, width, height, column_at, cost_at, minimising}
use Rattle.evidence.specs.Cases.{Multiplier, multiplier_at, end_of, AreLegal, IsEmpty, form, low_sum}
use Rattle.evidence.specs.Width.{FormFits, LowFits}
use Rattle.cert_checker.specs.declared.refused.Unshown.{Unshown}
use Rattle.cert_checker.specs.declared.refused.Unshown.TheVariants.{Sign, Form, Sum, Wide}

-- the multiplier at place k has a column, after the one before it, isn't 0, and has a finite end on its side
pub record IsPair (I : Instance) (ms : List Multiplier) (k : ℕ) : Type 0 where
  pub column : (multiplier_at ms k).column < width I + height I
  pub after : (l : ℕ) → l + 1 ≡ k → (multiplier_at ms l).column < (multiplier_at ms k).column
  pub nonzero : (multiplier_at ms k).by.num ≡ pos 0 → ⊥
  pub finite : IsSome (end_of I (multiplier_at ms k))

abbrev pub PairsBelow : Instance → List Multiplier → ℕ → Type 0
PairsBelow I ms n = (k : ℕ) → k < n → IsPair I ms k

-- the first multiplier that isn't legal has column c
pub record IsFirstIllegal (I : Instance) (ms : List Multiplier) (c : ℕ) : Type 0 where
  pub at : ℕ
  pub inside : at < length ms
  pub below : PairsBelow I ms at
  pub out : IsPair I ms at → ⊥
  pub is : c ≡ (multiplier_at ms at).column

-- what multipliers are to show: without a value, that no point is feasible, by a sum of columns that is 0; with one, that no
-- point's minimising objective is below it, by the sum that is the objective
abbrev pub wanted : Instance → Option Ratio → ℕ → Ratio
wanted I None j = none
wanted I (Some z) j = minimising I (cost_at I j)

abbrev pub start : Instance → Option Ratio → Ratio
start I None = none
start I (Some z) = minimising I I.goal.constant

abbrev pub ReachesBound : Option Ratio → Ratio → Type 0
ReachesBound None s = IsBelow none s
ReachesBound (Some z) s = IsAtMost z s

-- the sum of columns at variable j fits, and is the one that is wanted
pub record HasForm (I : Instance) (ms : List Multiplier) (z : Option Ratio) (j : ℕ) : Type 0 where
  pub fits : FormFits I ms j
  pub is : IsSame (form I ms j) (wanted I z j)

abbrev pub FormsBelow : Instance → List Multiplier → Option Ratio → ℕ → Type 0
FormsBelow I ms z n = (j : ℕ) → j < n → HasForm I ms z j

-- the first variable whose sum isn't the one that is wanted, or doesn't fit
pub record IsFirstOther (I : Instance) (ms : List Multiplier) (z : Option Ratio) (j : ℕ) : Type 0 where
  pub inside : j < width I
  pub below : FormsBelow I ms z j
  pub fits : FormFits I ms j
  pub other : IsSame (form I ms j) (wanted I z j) → ⊥

pub record IsFirstUnfit (I : Instance) (ms : List Multiplier) (z : Option Ratio) (j : ℕ) : Type 0 where
  pub inside : j < width I
  pub below : FormsBelow I ms z j
  pub wide : FormFits I ms j → ⊥

abbrev pub SignRefuses : Instance → List Multiplier → ℕ → Unshown → Type 0
SignRefuses I ms node r = (c : ℕ) × IsFirstIllegal I ms c × (r ≡ Sign node c)

abbrev pub FormRefuses : Instance → List Multiplier → Option Ratio → ℕ → Unshown → Type 0
FormRefuses I ms z node r = ((j : ℕ) × IsFirstOther I ms z j × (r ≡ Form node j)) ⊎ ((j : ℕ) × IsFirstUnfit I ms z j × (r ≡ Wide node))

abbrev pub SumRefuses : Instance → List Multiplier → Option Ratio → ℕ → Unshown → Type 0
SumRefuses I ms z node r =
    ((LowFits I (start I z) ms → ⊥) × (r ≡ Wide node))
    ⊎ (LowFits I (start I z) ms × (ReachesBound z (low_sum I (start I z) ms) → ⊥) × (r ≡ Sum node))

-- the sum of the multipliers' ends fits, and reaches what is to be shown
pub record HasSum (I : Instance) (ms : List Multiplier) (z : Option Ratio) : Type 0 where
  pub fits : LowFits I (start I z) ms
  pub reaches : ReachesBound z (low_sum I (start I z) ms)

-- the multipliers show it, by sums that fit
pub record LeafHolds (I : Instance) (ms : List Multiplier) (z : Option Ratio) : Type 0 where
  pub legal : AreLegal I ms
  pub forms : FormsBelow I ms z (width I)
  pub sum : HasSum I ms z

-- what multipliers are refused for: the first that isn't legal, the first variable's sum, and then the sum of their ends
abbrev pub LeafRefuses : Instance → List Multiplier → Option Ratio → ℕ → Unshown → Type 0
LeafRefuses I ms z node r =
    SignRefuses I ms node r ⊎ (AreLegal I ms × FormRefuses I ms z node r) ⊎ (AreLegal I ms × FormsBelow I ms z (width I) × SumRefuses I ms z node r)

-- the column's ends exclude each other
abbrev pub ClashHolds : Instance → ℕ → Type 0
ClashHolds I c = (c < width I + height I) × IsEmpty (column_at I c)

-- there is no such column, or its ends don't exclude each other
abbrev pub ClashRefuses : Instance → ℕ → ℕ → Unshown → Type 0
ClashRefuses I c node r =
    ((c < width I + height I → ⊥) × (r ≡ Sign node c)) ⊎ ((c < width I + height I) × (IsEmpty (column_at I c) → ⊥) × (r ≡ Sum node))
