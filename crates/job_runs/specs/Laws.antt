-- What holds of runs in every history from a table on whose numbers rise.
use Rattle.std.specs.Prelude.{◌≡◌, ◌⊎◌, ℕ, Bool, true, false, All, List, ◌∷◌, ◌++◌, Option, Some}
use Rattle.effects.specs.declared.store.NotStored.{NotStored}
use Rattle.job_table.specs.declared.job.Job.{Job}
use Rattle.job_table.specs.declared.entries.TableMove.{TableMove}
use Rattle.job_table.specs.declared.entries.TableMove.TheVariants as moves
use Rattle.job_table.specs.declared.entries.Finishing as answer
use Rattle.job_table.specs.declared.entries.Finishing.TheVariants as ends
use Rattle.job_table.specs.declared.entries.Reply.{Reply}
use Rattle.job_table.specs.declared.entries.Reply.TheVariants as reply
use Rattle.job_table.specs.Jobs.{Register, Rises}
use Rattle.job_table.specs.History.{MoveEntry, entry_of_move, LeadsOn, IsGiving}
use Rattle.job_runs.specs.Runs.{IsJobRun}

-- a finish was kept
abbrev pub kept_end : answer.Finishing → Bool
kept_end ends.Kept = true
kept_end (ends.Stale state) = false
kept_end ends.Other = false
kept_end ends.Unmarked = false

abbrev pub kept_reply : Reply → Bool
kept_reply (reply.Finish end) = kept_end end
kept_reply _ = false

-- a move that is a finish was kept
abbrev pub kept_if_finish : TableMove → Reply → Bool
kept_if_finish (moves.Finish j asked document) said = kept_reply said
kept_if_finish _ said = true

abbrev pub IsFinishKept : MoveEntry → Type 0
IsFinishKept e = kept_if_finish e.table_move e.reply ≡ true

-- every finish among these moves was kept
abbrev pub AreKept : List MoveEntry → Type 0
AreKept entries = All IsFinishKept entries

-- the same, but where its effect wasn't stored
abbrev pub IsKeptIfStored : MoveEntry → Type 0
IsKeptIfStored e = IsFinishKept e ⊎ ((fault : NotStored) × (e.reply ≡ reply.NotStored fault))

-- every finish among these moves was kept, or its effect wasn't stored
abbrev pub AreKeptIfStored : List MoveEntry → Type 0
AreKeptIfStored entries = All IsKeptIfStored entries

-- the finish of a run that follows the claim or the enter that gave the job is kept, where it is stored
abbrev pub RunsAreKept : (List ℕ → List ℕ → List Bool → Option (List ℕ) → Type 0) → (List ℕ → List ℕ → Bool → Option (List ℕ) → Type 0) → Type 0
RunsAreKept made right =
    (start : Register) (j : Job) (move : TableMove) (fault : Option NotStored) (before run : List MoveEntry) (now : Register) → Rises start → IsGiving move → IsJobRun made j fault run
    → LeadsOn right start (before ++ entry_of_move move (reply.Gave (Some j)) ∷ run) now → AreKeptIfStored run
