-- Which documents of jobs that are solved are proved by what stands before them in a history.
use Rattle.std.specs.Prelude.{◌≡◌, ℕ, Bool, true, List, ◌∷◌, ◌++◌, Some}
use Rattle.evidence.specs.Claim.{IsTrueOf}
use Rattle.instance.specs.Parts.{Parts}
use Rattle.instance.specs.Program.{problem}
use Rattle.certificate.specs.Meanings as Means
use Rattle.certificate.specs.declared.claims.Claim.{Claim}
use Rattle.osil_grammar.specs.Reading.{IsInstanceText}
use Rattle.osrl_writing.specs.declared.report.Report.{Report}
use Rattle.document_checker.specs.declared.documents.Kind.{Kind}
use Rattle.document_checker.specs.Documents.{kind, IsAcceptedText}
use Rattle.solve_run.specs.JobAnswers.{AnswersJob, TellsReport, Right}
use Rattle.job_table.specs.declared.entries.TableMove.TheVariants.{Finish, Retrieve}
use Rattle.job_table.specs.declared.entries.Finishing.TheVariants.{Kept}
use Rattle.job_table.specs.declared.entries.Retrieved.TheVariants as shown
use Rattle.job_table.specs.declared.entries.Reply.TheVariants as reply
use Rattle.job_table.specs.Jobs.{Register, job}
use Rattle.job_table.specs.History.{MoveEntry, entry_of_move, LeadsTo, WasKilled, WasBrought}

-- a document that is shown of a job came with a finish of it that was kept. It answers texts that the job had before that finish: it is the result document of a report about them. A claim in it, that a point is optimal, that none is
-- feasible, that points have no best value, or of a point, is accepted by the checker from these bytes and those of the instance, and is true of
-- the instance. Only where a kill of the job stands before the finish was the job asked to stop
pub record IsProvedBy (had : List ℕ → List ℕ → List MoveEntry → Type 0) (n : ℕ) (document : List ℕ) (before : List MoveEntry) : Type 0 where
  pub osil : List ℕ
  pub osol : List ℕ
  pub asked : Bool
  pub report : Report
  pub until : List MoveEntry
  pub since : List MoveEntry
  pub finished : before ≡ until ++ entry_of_move (Finish (job n osil osol) asked (Some document)) (reply.Finish Kept) ∷ since
  pub brought : had osil osol until
  pub killed : asked ≡ true → WasKilled n until
  pub answers : AnswersJob osil osol asked report
  pub written : TellsReport osil osol report document
  pub accepted : (c : Claim) (k : Kind) → report.claim ≡ Some c → kind c ≡ Some k → IsAcceptedText osil document k
  pub is_true : (p : Parts) (c : Claim) (k : Kind) → IsInstanceText osil p → report.claim ≡ Some c → kind c ≡ Some k → IsTrueOf (problem p) (Means.claim c)

-- the same, where the texts were sent or entered under the job's number before that finish
abbrev pub IsProved : ℕ → List ℕ → List MoveEntry → Type 0
IsProved n document before = IsProvedBy (WasBrought n) n document before

-- each document that is shown is such a one, by what stands before
abbrev pub AreProved : List MoveEntry → Type 0
AreProved entries =
    (n : ℕ) (document : List ℕ) (before after : List MoveEntry)
    → entries ≡ before ++ entry_of_move (Retrieve n) (reply.Retrieved (shown.Finished (Some document))) ∷ after
    → IsProved n document before

-- in every history of solved jobs from an empty table on, whatever its numbers begin with, each document that is shown is such a one
abbrev pub ShownAreProved : Type 0
ShownAreProved = (entries : List MoveEntry) (now : Register) → LeadsTo Right entries now → AreProved entries
