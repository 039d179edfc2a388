-- A job that is entered, run and retrieved at once.
use Rattle.std.specs.Prelude.{◌≡◌, ◌⊎◌, ℕ, Bool, List, [], ◌∷◌, ◌++◌, Option, Some, None}
use Rattle.effects.specs.declared.store.NotStored.{NotStored}
use Rattle.job_table.specs.declared.job.Job.{Job}
use Rattle.job_table.specs.declared.entries.TableMove.TheVariants.{Enter, Retrieve}
use Rattle.job_table.specs.declared.entries.Reply.{Reply}
use Rattle.job_table.specs.declared.entries.Reply.TheVariants as reply
use Rattle.job_table.specs.declared.entries.Retrieved.{Retrieved}
use Rattle.job_table.specs.History.{MoveEntry, entry_of_move}
use Rattle.job_runs.specs.Runs.{IsJobRun}

module _ (made : List ℕ → List ℕ → List Bool → Option (List ℕ) → Type 0) where
  -- a job was run and then retrieved; or it was run, the effect of its finish wasn't stored, and that is the last reply
  abbrev pub RunsAndShows : Job → Reply → List MoveEntry → Type 0
  RunsAndShows j said entries =
      ((run : List MoveEntry) × (shown : Retrieved) × IsJobRun made j None run × (said ≡ reply.Retrieved shown)
      × (entries ≡ run ++ entry_of_move (Retrieve j.number) said ∷ []))
      ⊎ ((fault : NotStored) × IsJobRun made j (Some fault) entries × (said ≡ reply.NotStored fault))

  module _ (osil osol : List ℕ) where
    -- a job was entered with these texts, and run, and its finish was replied
    pub record EntersAndRuns (j : Job) (entries : List MoveEntry) : Type 0 where
      pub run : List MoveEntry
      pub is_run : IsJobRun made j None run
      pub are : entries ≡ entry_of_move (Enter osil osol) (reply.Gave (Some j)) ∷ run

    -- there is no room for a job, or no number, or the effect of the enter wasn't stored
    abbrev pub IsTurnedAway : Reply → List MoveEntry → Type 0
    IsTurnedAway said entries =
        (entries ≡ entry_of_move (Enter osil osol) said ∷ []) × ((said ≡ reply.Full) ⊎ ((said ≡ reply.Spent) ⊎ ((fault : NotStored) × (said ≡ reply.NotStored fault))))

    -- a job was entered, and run, and retrieved where its finish was stored
    pub record IsRetrieved (said : Reply) (entries : List MoveEntry) : Type 0 where
      pub job : Job
      pub later : List MoveEntry
      pub shows : RunsAndShows job said later
      pub are : entries ≡ entry_of_move (Enter osil osol) (reply.Gave (Some job)) ∷ later

    -- the moves of a request to solve, whose last reply is this one
    abbrev pub Solves : Reply → List MoveEntry → Type 0
    Solves said entries = IsTurnedAway said entries ⊎ IsRetrieved said entries

    -- the same until there was no memory: for the job, or for its document
    abbrev pub BeginsToSolve : List MoveEntry → Type 0
    BeginsToSolve entries = (entries ≡ []) ⊎ ((j : Job) × EntersAndRuns j entries)
