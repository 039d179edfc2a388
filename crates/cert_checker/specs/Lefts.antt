-- What the rows' multipliers leave of a wanted form t at each variable: the variable's own multiplier.
use Rattle.std.specs.Prelude.{◌≡◌, ℕ, ◌<◌, pos, IsSome, List}
use Rattle.rational.specs.Ratio.{Ratio, negative}
use Rattle.rational.specs.Width.{SumFits}
use Rattle.evidence.specs.Instance.{Instance, width}
use Rattle.evidence.specs.Cases.{Multiplier, end_of, form, left_at, AreLegal, AreOfRows}
use Rattle.evidence.specs.Width.{FormFits}

-- the multiplier of variable j
abbrev pub own : Instance → (ℕ → Ratio) → List Multiplier → ℕ → Multiplier
own I t ms j = record { column = j; by = left_at I t ms j }

-- the rows' form at variable j fits, and so does what is left of the one that is wanted
pub record LeftFits (I : Instance) (t : ℕ → Ratio) (ms : List Multiplier) (j : ℕ) : Type 0 where
  pub rows : FormFits I ms j
  pub left : SumFits (t j) (negative (form I ms j))

-- nothing is left, or the variable has a finite end on that side
abbrev pub HasOwnEnd : Instance → (ℕ → Ratio) → List Multiplier → ℕ → Type 0
HasOwnEnd I t ms j = ((own I t ms j).by.num ≡ pos 0 → ⊥) → IsSome (end_of I (own I t ms j))

pub record HasLeft (I : Instance) (t : ℕ → Ratio) (ms : List Multiplier) (j : ℕ) : Type 0 where
  pub fits : LeftFits I t ms j
  pub finite : HasOwnEnd I t ms j

abbrev pub LeftsBelow : Instance → (ℕ → Ratio) → List Multiplier → ℕ → Type 0
LeftsBelow I t ms n = (j : ℕ) → j < n → HasLeft I t ms j

-- the multipliers are legal, those of rows, and complete to legal ones
pub record RowsStand (I : Instance) (t : ℕ → Ratio) (ms : List Multiplier) : Type 0 where
  pub legal : AreLegal I ms
  pub rows : AreOfRows I ms
  pub lefts : LeftsBelow I t ms (width I)
