-- Where a run begins with its second phase.
use Rattle.std.specs.Prelude.{ℕ, ◌<◌}
use Rattle.rational.specs.Ratio.{Ratio, product}
use Rattle.evidence.specs.Sums.{none, total}
use Rattle.evidence.specs.Instance.{Range, Instance, width, height, variable_at, row_at, entry_at}
use Rattle.evidence.specs.Point.{IsBetween}
use Rattle.simplex_rules.specs.Statuses.{first_status, rest_at}

-- what a variable begins with: its lower end, else its upper one, else 0
abbrev pub first_value : Range → Ratio
first_value r = rest_at r (first_status r.lb r.ub)

-- the sum of row i at the variables' first values
abbrev pub first_activity : Instance → ℕ → Ratio
first_activity I i = total none (width I) (λ j. product (entry_at I.entries i j) (first_value (variable_at I j).range))

-- at the variables' first values each row is between its ends
abbrev pub BeginsFeasible : Instance → Type 0
BeginsFeasible I = (i : ℕ) → i < height I → IsBetween (row_at I i) (first_activity I i)
