-- Values by their words: of job statuses, and of the types of a solution's status.
use Rattle.std.specs.Prelude.{ℕ, Option, None, Some, cond, bytes_eq, List, [], ◌∷◌}
use Rattle.osrl_writing.specs.declared.report.JobStatus.{JobStatus}
use Rattle.osrl_writing.specs.declared.report.JobStatus.TheVariants as statuses
use Rattle.osrl_writing.specs.declared.parts.Claiming.{Claiming}
use Rattle.osrl_writing.specs.declared.parts.Claiming.TheVariants.{Optimal, Infeasible, Unbounded, BestSoFar, Unsure}

abbrev pub all_statuses : List JobStatus
all_statuses = statuses.Unknown ∷ statuses.Issued ∷ statuses.Waiting ∷ statuses.Running ∷ statuses.Killed ∷ statuses.Finished ∷ []

abbrev pub all_claimings : List Claiming
all_claimings = Optimal ∷ Infeasible ∷ Unbounded ∷ BestSoFar ∷ Unsure ∷ []

-- the first of these values that has this word, if there is one
abbrev pub worded : {X : Type 0} → (X → List ℕ) → List X → List ℕ → Option X
worded {X} text [] word = None
worded {X} text (x ∷ xs) word = cond (bytes_eq word (text x)) (Some x) (worded text xs word)
