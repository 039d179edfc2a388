-- The columns and the rows of a program: the variables, the rows' sums, and the goal, which is one more row whose column is the last.
use Rattle.std.specs.Prelude.{ℕ, ◌+◌, Bool, true, false, cond, nat_lt}
use Rattle.rational.specs.Ratio.{Ratio}
use Rattle.evidence.specs.Sums.{none}
use Rattle.evidence.specs.Instance.{Instance, width, height, cost_at, entry_at, minimising}
use Rattle.bases.specs.Dictionary.{Entries}

-- the goal's column, which comes after those of the variables and the rows
abbrev pub goal_column : Instance → ℕ
goal_column I = width I + height I

-- all columns, the goal's too
abbrev pub columns : Instance → ℕ
columns I = width I + (height I + 1)

-- the goal's row: the costs of the goal turned so that less is better, or 0 where the goal is left out
abbrev pub goal_row : Bool → Instance → ℕ → Ratio
goal_row true I j = none
goal_row false I j = minimising I (cost_at I j)

-- the rows, and then the goal's
abbrev pub rows_with_goal : Bool → Instance → Entries
rows_with_goal zero I r j = cond (nat_lt r (height I)) (entry_at I.entries r j) (goal_row zero I j)

-- in the beginning the columns past the variables are basic
abbrev pub is_fresh : ℕ → ℕ → Bool
is_fresh n c = cond (nat_lt c n) false true
