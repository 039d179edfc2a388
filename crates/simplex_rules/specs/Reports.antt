-- What the ends of a run carry: multipliers, points, directions and bounds, read off a dictionary.
use Rattle.std.specs.Prelude.{◌≡◌, ℕ, zero, suc, ◌<◌, ℤ, pos, negsuc, Bool, true, false, cond, nat_eq, List, [], ◌∷◌, ◌++◌, length}
use Rattle.rational.specs.Ratio.{Ratio, whole, product, negative, IsSame}
use Rattle.rational.specs.Width.{IsReduced}
use Rattle.evidence.specs.Sums.{none, total}
use Rattle.evidence.specs.Instance.{Instance, width, minimising}
use Rattle.evidence.specs.Point.{value_at}
use Rattle.evidence.specs.Cases.{Multiplier}
use Rattle.bases.specs.Dictionary.{Entries, Values}
use Rattle.bases.specs.Program.{goal_column, columns}
use Rattle.simplex_rules.specs.declared.columns.Status.{Status}
use Rattle.simplex_rules.specs.declared.columns.Way.{Way}
use Rattle.simplex_rules.specs.declared.columns.Way.TheVariants.{Rise, Fall}
use Rattle.simplex_rules.specs.Statuses.{basic_in, resting}
use Rattle.simplex_rules.specs.Turns.{rate}

-- a multiplier of a column, unless it is 0
abbrev pub one_of : ℕ → ℤ → Ratio → List Multiplier
one_of c (pos zero) x = []
one_of c (pos (suc n)) x = (record { column = c; by = x }) ∷ []
one_of c (negsuc n) x = (record { column = c; by = x }) ∷ []

-- the multipliers that aren't 0 of the columns below n, in ascending order
abbrev pub collected : (ℕ → Ratio) → ℕ → List Multiplier
collected y zero = []
collected y (suc n) = collected y n ++ one_of n (y n).num (y n)

-- column g's entries, and -1 at itself: the columns' sum with these factors is 0
abbrev pub base : (ℕ → Ratio) → ℕ → ℕ → Ratio
base row g c = cond (nat_eq c g) (whole (negsuc 0)) (row c)

-- turned where the column can't rise far enough
abbrev pub against : Way → Ratio → Ratio
against Rise x = negative x
against Fall x = x

-- the factor of column c where column g, which is to move as wanted, can't: where g is below its ends, 1 at itself and minus its entries at the others; where it is above, -1 and its entries; for the goal, the costs
abbrev pub factor_at : Entries → ℕ → Way → ℕ → Ratio
factor_at u g wanted c = against wanted (base (u g) g c)

abbrev pub multipliers_of : Instance → Entries → ℕ → Way → List Multiplier
multipliers_of I u g wanted = collected (factor_at u g wanted) (goal_column I)

-- x has the variables' values, or their movements
pub record AreValues (I : Instance) (w : Values) (x : List Ratio) : Type 0 where
  pub count : length x ≡ width I
  pub values : (j : ℕ) → j < width I → value_at x j ≡ w j

-- up by 1, or down by 1
abbrev pub step_of : Way → Ratio
step_of Rise = whole (pos 1)
step_of Fall = whole (negsuc 0)

-- how each column moves while column n moves by 1: a basic one by its rate, and the others but n stay
abbrev pub movement : List Status → Entries → ℕ → Way → Values
movement ss u n way c = cond (basic_in ss c) (rate way (u c n)) (cond (nat_eq c n) (step_of way) none)

-- from the minimising constant, the sum over the columns in ascending order of the cost times their value; a basic column's cost is 0
abbrev pub bound_sum : Instance → List Status → Entries → Ratio
bound_sum I ss u = total (minimising I I.goal.constant) (columns I) (λ c. product (u (goal_column I) c) (resting I ss c))

-- the bound, in lowest terms; under the goal zero it is 0
abbrev pub IsBoundAt : Bool → Instance → List Status → Entries → Ratio → Type 0
IsBoundAt true I ss u b = b ≡ none
IsBoundAt false I ss u b = IsReduced b × IsSame b (bound_sum I ss u)
