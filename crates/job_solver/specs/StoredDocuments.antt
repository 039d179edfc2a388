-- Which documents are shown in a history that goes on from a table that a journal gave.
use Rattle.std.specs.Prelude.{◌≡◌, ◌⊎◌, ℕ, List, ◌∷◌, ◌++◌, Some}
use Rattle.solve_run.specs.JobAnswers.{Right}
use Rattle.job_table.specs.declared.entries.TableMove.TheVariants.{Retrieve}
use Rattle.job_table.specs.declared.entries.Retrieved.TheVariants as shown
use Rattle.job_table.specs.declared.entries.Reply.TheVariants as reply
use Rattle.job_table.specs.declared.job.Phase.TheVariants.{Finished}
use Rattle.job_table.specs.Jobs.{Register, phase_of, Rises, NobodyRuns}
use Rattle.job_table.specs.History.{MoveEntry, entry_of_move, LeadsOn, HadTexts}
use Rattle.job_solver.specs.ProvedDocuments.{IsProvedBy}

-- a document that is shown of a job is proved by what stands before it, and answers texts that came under the job's number there, or that the job had when
-- it waited in the table at first; or it is the one that the table had of the job at first
abbrev pub IsShownFrom : Register → ℕ → List ℕ → List MoveEntry → Type 0
IsShownFrom start n document before =
    IsProvedBy (HadTexts start n) n document before ⊎ (phase_of n start.jobs ≡ Some (Finished (Some document)))

-- each document that is shown is such a one, by what stands before
abbrev pub AreShownFrom : Register → List MoveEntry → Type 0
AreShownFrom start entries =
    (n : ℕ) (document : List ℕ) (before after : List MoveEntry)
    → entries ≡ before ++ entry_of_move (Retrieve n) (reply.Retrieved (shown.Finished (Some document))) ∷ after
    → IsShownFrom start n document before

-- in every history of solved jobs from a table on whose numbers rise and in which no job runs, with moves that were made and others whose effects weren't stored
abbrev pub ShownAreProvedFrom : Type 0
ShownAreProvedFrom =
    (start : Register) (entries : List MoveEntry) (now : Register) → Rises start → NobodyRuns start
    → LeadsOn Right start entries now → AreShownFrom start entries
