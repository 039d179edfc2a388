-- Bases of linear programs with bounded columns: each column is basic, or stands at one of its ends, or at 0 (Chvátal, Linear Programming, 1983, chapter 8).
use Rattle.std.specs.Prelude.{◌≡◌, ℕ, ◌+◌, ◌<◌, ◌≤◌, Bool, true, false, cond, Option, None, Some, IsSome, List, length, get_or}
use Rattle.rational.specs.Ratio.{Ratio, IsSame}
use Rattle.rational.specs.Width.{IsReduced}
use Rattle.evidence.specs.Sums.{none, is_below}
use Rattle.evidence.specs.Instance.{Range, Instance, width, height, column_at}
use Rattle.evidence.specs.Cases.{or_none}
use Rattle.simplex_rules.specs.declared.columns.Status.{Status}
use Rattle.simplex_rules.specs.declared.columns.Status.TheVariants.{Basic, Lower, Upper, Zero}
use Rattle.bases.specs.Dictionary.{Entries, Values, value_by, IsDictionary}
use Rattle.bases.specs.Program.{goal_column, columns, rows_with_goal}

abbrev pub is_basic : Status → Bool
is_basic Basic = true
is_basic Lower = false
is_basic Upper = false
is_basic Zero = false

-- the status of a column; the goal's column comes after all others and is always basic
abbrev pub status_at : List Status → ℕ → Status
status_at ss c = get_or ss c Basic

abbrev pub basic_in : List Status → ℕ → Bool
basic_in ss c = is_basic (status_at ss c)

-- u is the one dictionary of this basis, for the rows and the goal's row, which is 0 under the goal zero
abbrev pub HasDictionary : Instance → Bool → List Status → Entries → Type 0
HasDictionary I zeroed ss u = IsDictionary (width I) (height I + 1) (rows_with_goal zeroed I) (basic_in ss) u

-- the value of a column that isn't basic: its lower end, its upper end, or 0
abbrev pub rest_at : Range → Status → Ratio
rest_at r Basic = none
rest_at r Lower = or_none r.lb
rest_at r Upper = or_none r.ub
rest_at r Zero = none

abbrev pub resting : Instance → List Status → Values
resting I ss c = rest_at (column_at I c) (status_at ss c)

-- the value of a basic column: from 0, the sum over the columns in ascending order of its entry times their value; an entry at a basic column is 0
abbrev pub basic_value : Instance → List Status → Entries → ℕ → Ratio
basic_value I ss u b = value_by (columns I) (u b) (resting I ss)

-- w has the values of the columns, in lowest terms, and 0 after the last
pub record HasValues (I : Instance) (ss : List Status) (u : Entries) (w : Values) : Type 0 where
  pub reduced : (c : ℕ) → IsReduced (w c)
  pub past : (c : ℕ) → goal_column I ≤ c → w c ≡ none
  pub nonbasic : (c : ℕ) → c < goal_column I → basic_in ss c ≡ false → IsSame (w c) (resting I ss c)
  pub basic : (b : ℕ) → b < goal_column I → basic_in ss b ≡ true → IsSame (w b) (basic_value I ss u b)

-- the lower end, if any, is below the upper one, if any
abbrev pub less : Option Ratio → Option Ratio → Bool
less None u = true
less (Some l) None = true
less (Some l) (Some u) = is_below l u

-- the ends differ: no lower end is above its upper one in a run, so one that differs from it is below it
abbrev pub has_width : Range → Bool
has_width r = less r.lb r.ub

-- at the lower end where there is one, else at the upper one, else at 0
abbrev pub first_status : Option Ratio → Option Ratio → Status
first_status (Some l) u = Lower
first_status None (Some u) = Upper
first_status None None = Zero

-- at the upper end; a column whose ends are equal is always at the lower one
abbrev pub upper_status : Range → Status
upper_status r = cond (has_width r) Upper Lower

-- the first basis: the rows are basic, and each variable stands at an end or at 0
pub record IsFirstBasis (I : Instance) (ss : List Status) : Type 0 where
  pub count : length ss ≡ goal_column I
  pub variables : (j : ℕ) → j < width I → status_at ss j ≡ first_status (column_at I j).lb (column_at I j).ub
  pub rows : (i : ℕ) → width I + i < goal_column I → status_at ss (width I + i) ≡ Basic

-- a column that isn't basic stands where it has an end; at the upper one only where the ends differ
abbrev pub HasPlace : Range → Status → Type 0
HasPlace r Basic = Unit {0}
HasPlace r Lower = IsSome r.lb
HasPlace r Upper = IsSome r.ub × (has_width r ≡ true)
HasPlace r Zero = (r.lb ≡ None) × (r.ub ≡ None)

-- what a moment of a run has: a place for each column
pub record IsPlaced (I : Instance) (ss : List Status) : Type 0 where
  pub count : length ss ≡ goal_column I
  pub places : (c : ℕ) → c < goal_column I → HasPlace (column_at I c) (status_at ss c)
