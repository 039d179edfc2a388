-- A job that somebody runs: the looks at whether it is to stop, and its finish.
use Rattle.std.specs.Prelude.{◌≡◌, ℕ, Bool, true, false, List, [], ◌∷◌, ◌++◌, Option, Some, None}
use Rattle.os_io.specs.Looks.{stops_of}
use Rattle.job_table.specs.declared.job.Job.{Job}
use Rattle.job_table.specs.declared.entries.TableMove.TheVariants.{Claim, Finish}
use Rattle.job_table.specs.declared.entries.Finishing as answer
use Rattle.effects.specs.declared.store.NotStored.{NotStored}
use Rattle.job_table.specs.declared.entries.Reply.{Reply}
use Rattle.job_table.specs.declared.entries.Reply.TheVariants as reply
use Rattle.job_table.specs.History.{MoveEntry, entry_of_move}
use Rattle.job_table.specs.Looks.{looks}

-- the answer of a look that said to stop, where one did
abbrev pub stop_if : Bool → List Bool
stop_if true = true ∷ []
stop_if false = []

-- the looks of one run: each said to go on, but for the last one where the run was asked to stop
pub record AreLooks (asked : Bool) (answers : List Bool) : Type 0 where
  pub before : List Bool
  pub went_on : stops_of before ≡ 0
  pub are : answers ≡ before ++ stop_if asked

-- the reply of a finish that was answered so, or whose effect wasn't stored
abbrev pub end_reply : Option NotStored → answer.Finishing → Reply
end_reply None end = reply.Finish end
end_reply (Some fault) end = reply.NotStored fault

-- which looks a run of a job's texts makes, with their answers, and which document comes of it, is given
module _ (made : List ℕ → List ℕ → List Bool → Option (List ℕ) → Type 0) where
  -- the looks of a job's run, and its finish with the document that the run makes of its texts with these looks. It was asked to
  -- stop exactly where the last look said so. The finish is replied, or its effect wasn't stored
  pub record IsJobRun (j : Job) (fault : Option NotStored) (entries : List MoveEntry) : Type 0 where
    pub answers : List Bool
    pub asked : Bool
    pub document : Option (List ℕ)
    pub end : answer.Finishing
    pub looked : AreLooks asked answers
    pub is_made : made j.osil j.osol answers document
    pub are : entries ≡ looks j.number answers ++ entry_of_move (Finish j asked document) (end_reply fault end) ∷ []

  -- the run of a job that a claim gave, and nothing where it gave none
  abbrev pub RunsGiven : Option Job → List MoveEntry → Type 0
  RunsGiven None entries = entries ≡ []
  RunsGiven (Some j) entries = (fault : Option NotStored) × IsJobRun j fault entries

  -- one claim, and the run of the job that it gave
  pub record Works (worker : Bool) (given : Option Job) (entries : List MoveEntry) : Type 0 where
    pub run : List MoveEntry
    pub ran : RunsGiven given run
    pub are : entries ≡ entry_of_move (Claim worker) (reply.Gave given) ∷ run
