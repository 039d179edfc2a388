-- What a worker does from its coming to its leaving, as moves.
use Rattle.std.specs.Prelude.{◌≡◌, ℕ, Bool, true, List, [], ◌∷◌, ◌++◌, Option, None}
use Rattle.job_table.specs.declared.job.Job.{Job}
use Rattle.job_table.specs.declared.entries.TableMove.TheVariants.{Claim, Enlist, Leave}
use Rattle.job_table.specs.declared.entries.Reply.TheVariants as reply
use Rattle.job_table.specs.History.{MoveEntry, entry_of_move}
use Rattle.job_runs.specs.Runs.{Works}

-- which looks a run of a job's texts makes, with their answers, and which document comes of it, is given
module _ (made : List ℕ → List ℕ → List Bool → Option (List ℕ) → Type 0) where
  -- claims of a worker, which gave these jobs or none, each job with its run
  abbrev pub WorkOff : List (Option Job) → List MoveEntry → Type 0
  WorkOff [] entries = entries ≡ []
  WorkOff (given ∷ later) entries =
      (own : List MoveEntry) × (rest : List MoveEntry) × Works made true given own × WorkOff later rest × (entries ≡ own ++ rest)

  -- the same, up to a claim that gave none
  pub record WorksUntilNone (entries : List MoveEntry) : Type 0 where
    pub given : List (Option Job)
    pub before : List MoveEntry
    pub worked : WorkOff given before
    pub are : entries ≡ before ++ entry_of_move (Claim true) (reply.Gave None) ∷ []

  -- a worker enlists, works until a claim gives none, and leaves
  pub record WorksThrough (entries : List MoveEntry) : Type 0 where
    pub shift : List MoveEntry
    pub rests : WorksUntilNone shift
    pub are : entries ≡ entry_of_move Enlist reply.Done ∷ shift ++ entry_of_move Leave reply.Done ∷ []
