-- Where the values of a basis, the limits of a moving column and a bound fit, each sum and quotient by itself. Where a pivot fits is said of dictionaries.
use Rattle.std.specs.Prelude.{◌≡◌, ℕ, ◌<◌, zero, suc, ℤ, pos, negsuc, Bool, true, false, nat_eq, Option, None, Some, List}
use Rattle.rational.specs.Ratio.{Ratio, sum, negative, quotient}
use Rattle.rational.specs.Width.{ReducedFits, SumFits}
use Rattle.evidence.specs.Width.{StatedFits}
use Rattle.evidence.specs.Instance.{Range, Instance, column_at, minimising}
use Rattle.bases.specs.Dictionary.{Entries, Values}
use Rattle.bases.specs.Program.{goal_column, columns}
use Rattle.bases.specs.Pivot.{ValueFits}
use Rattle.simplex_rules.specs.declared.columns.Status.{Status}
use Rattle.simplex_rules.specs.declared.columns.Way.{Way}
use Rattle.simplex_rules.specs.Statuses.{basic_in, resting}
use Rattle.simplex_rules.specs.Turns.{rate}

-- the products and partial sums of each basic column's value fit
abbrev pub ValuesFit : Instance → List Status → Entries → Type 0
ValuesFit I ss u = (b : ℕ) → b < goal_column I → basic_in ss b ≡ true → ValueFits (columns I) (u b) (resting I ss)

-- the difference of an end and a value fits, and so does its quotient by the rate
pub record UntilFits (e x by : Ratio) : Type 0 where
  pub difference : SumFits e (negative x)
  pub quotient : ReducedFits (quotient (sum e (negative x)) by)

abbrev pub EndFits : Option Ratio → Ratio → Ratio → Type 0
EndFits None x by = Unit {0}
EndFits (Some e) x by = UntilFits e x by

-- the limit of a basic column, whose end is told by the sign of its rate
abbrev pub ByFits : ℤ → Range → Ratio → Ratio → Type 0
ByFits (pos zero) r x by = Unit {0}
ByFits (pos (suc n)) r x by = EndFits r.ub x by
ByFits (negsuc n) r x by = EndFits r.lb x by

-- the difference of the moving column's own ends
abbrev pub AcrossFits : Option Ratio → Option Ratio → Type 0
AcrossFits None h = Unit {0}
AcrossFits (Some l) None = Unit {0}
AcrossFits (Some l) (Some h) = SumFits h (negative l)

abbrev pub OneFits : Bool → Bool → Range → Ratio → Ratio → Type 0
OneFits true own r x by = ByFits by.num r x by
OneFits false true r x by = AcrossFits r.lb r.ub
OneFits false false r x by = Unit {0}

-- each limit fits
abbrev pub LimitsFit : Instance → List Status → Entries → Values → ℕ → Way → Type 0
LimitsFit I ss u w n way = (c : ℕ) → c < goal_column I → OneFits (basic_in ss c) (nat_eq c n) (column_at I c) (w c) (rate way (u c n))

-- the products and partial sums of the bound fit
abbrev pub BoundFits : Instance → List Status → Entries → Type 0
BoundFits I ss u = StatedFits (minimising I I.goal.constant) (columns I) (u (goal_column I)) (resting I ss)
