-- The most parts of an instance.
use Rattle.std.specs.Prelude.{ℕ}

abbrev pub most_vars : ℕ
most_vars = 1000

abbrev pub most_rows : ℕ
most_rows = 1000

-- values in the matrix
abbrev pub most_entries : ℕ
most_entries = 100000

abbrev pub most_goals : ℕ
most_goals = 8
