-- What the search for the first column that a point doesn't keep finds.
use Rattle.std.specs.Prelude.{ℕ, ◌<◌, Bool, true, false, List, length, map, get_or}
use Rattle.rational.specs.Ratio.{Ratio}
use Rattle.fraction.specs.Frac.{ratios}
use Rattle.fraction.specs.declared.frac.Frac.{Frac}
use Rattle.evidence.specs.Instance as Of
use Rattle.evidence.specs.Point.{value_at, activity, IsBetween, IsZeroOr, IsFeasible}
use Rattle.evidence.specs.Width.{RowFits}
use Rattle.evidence.specs.Columns.{Keeps, KeepsRow, IsFirstOut}
use Rattle.instance.specs.declared.parts.Var.{Var}
use Rattle.instance.specs.declared.feasible.Feas.{Feas}
use Rattle.instance.specs.declared.feasible.Feas.TheVariants.{Yes, No}
use Rattle.instance.specs.Program.{variable}

-- between the ends, or 0 where it may be
abbrev pub IsZeroOrWithin : Bool → Of.Range → Ratio → Type 0
IsZeroOrWithin true r x = IsZeroOr r x
IsZeroOrWithin false r x = IsBetween r x

-- variable j as the program has it
abbrev pub variable_of : List Var → ℕ → Of.Variable
variable_of vs j = get_or (map variable vs) j (Of.no_variable)

-- each variable below n may have its value
abbrev pub KeptBelow : List Var → List Frac → ℕ → Type 0
KeptBelow vs x n = (j : ℕ) → j < n → Keeps (variable_of vs j) (value_at (ratios x) j)

-- the first variable that may not have its value
pub record IsFirstUnkept (vs : List Var) (x : List Frac) (j : ℕ) : Type 0 where
  pub inside : j < length vs
  pub below : KeptBelow vs x j
  pub out : Keeps (variable_of vs j) (value_at (ratios x) j) → ⊥

-- each row below n is kept
abbrev pub RowsKeptBelow : Of.Instance → List Ratio → ℕ → Type 0
RowsKeptBelow I x n = (i : ℕ) → i < n → KeepsRow I x i

-- the first row that isn't kept, and its sum fits
pub record IsFirstRowOut (I : Of.Instance) (x : List Ratio) (i : ℕ) : Type 0 where
  pub inside : i < Of.height I
  pub below : RowsKeptBelow I x i
  pub fits : RowFits I x i
  pub out : IsBetween (Of.row_at I i) (activity I x i) → ⊥

-- the first row that isn't kept, since its sum doesn't fit
pub record IsFirstRowWide (I : Of.Instance) (x : List Ratio) (i : ℕ) : Type 0 where
  pub inside : i < Of.height I
  pub below : RowsKeptBelow I x i
  pub wide : RowFits I x i → ⊥

-- the point is feasible, by sums that fit
pub record IsFeasibleWithin (I : Of.Instance) (x : List Ratio) : Type 0 where
  pub feasible : IsFeasible I x
  pub fits : (i : ℕ) → i < Of.height I → RowFits I x i

-- what the answer says of the point
abbrev pub TellsFeasible : Of.Instance → List Ratio → Feas → Type 0
TellsFeasible I x Yes = IsFeasibleWithin I x
TellsFeasible I x (No c) = IsFirstOut I x c
