-- What is said of runs is given: which document each makes, which is right, and what moves do.
use Rattle.std.proofs.Common.{ℕ, Bool, List, ◌++◌, Option}
use Rattle.job_table.specs.History.{MoveEntry}

abbrev pub Made : Type 1
Made = List ℕ → List ℕ → List Bool → Option (List ℕ) → Type 0

abbrev pub Judgement : Type 1
Judgement = List ℕ → List ℕ → Bool → Option (List ℕ) → Type 0

-- moves after moves are both
abbrev pub Joins : (List MoveEntry → Type 0) → (List MoveEntry → Type 0) → (List MoveEntry → Type 0) → Type 0
Joins did did' both = (a b : List MoveEntry) → did a → did' b → both (a ++ b)
