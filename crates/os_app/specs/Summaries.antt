-- What is written of a generated instance.
use Rattle.std.specs.Prelude.{◌≡◌, ℕ, Bool, true, false, Some, List, []}
use Rattle.certificate.specs.declared.causes.Cause.{Cause}
use Rattle.certificate.specs.declared.causes.Cause.TheVariants as causes
use Rattle.certificate.specs.declared.claims.Claim.{Claim}
use Rattle.branch_bound.specs.Claims.{claims_for}
use Rattle.osil_grammar.specs.Writing.{IsWrittenText}
use Rattle.osrl_writing.specs.declared.report.Report.{Report}
use Rattle.osrl_grammar.specs.Reading.{IsReportText}
use Rattle.document_checker.specs.declared.documents.Kind.{Kind}
use Rattle.document_checker.specs.declared.fault.CheckFault.{CheckFault as Refused}
use Rattle.document_checker.specs.declared.fault.CheckFault.TheVariants as reasons
use Rattle.document_checker.specs.Documents.{IsAcceptedText, DocsRefuse}
use Rattle.generator.specs.Instances.{generated}
use Rattle.generator.specs.Lines.{summary}
use Rattle.solve_run.specs.JobAnswers.{Right}
use Rattle.os_app.specs.Statuses.{check_status}

-- there was no memory
abbrev pub is_memory : Cause → Bool
is_memory causes.Killed = false
is_memory (causes.NodeLimit n) = false
is_memory (causes.TurnLimit n) = false
is_memory causes.Gap = false
is_memory (causes.TimeLimit x) = false
is_memory (causes.Wide place) = false
is_memory causes.Length = false
is_memory causes.Memory = true

-- the search stopped for want of memory
abbrev pub wanted_memory : Claim → Bool
wanted_memory c = claims_for is_memory c

-- the checker accepts what the documents claim, or it doesn't; want of memory decides neither
abbrev pub IsDecided : (osil osrl : List ℕ) → (is_accepted : Bool) → Type 0
IsDecided osil osrl true = (k : Kind) × IsAcceptedText osil osrl k
IsDecided osil osrl false = (r : Refused) × DocsRefuse osil osrl r × (r ≡ reasons.Memory → ⊥)

-- the line that says what a result document claims of the instance of so many variables, whose text this is, and whether the checker
-- accepts it; and its status. A document that was stopped for want of memory has no line
pub record IsSummaryAbout (n : ℕ) (osil osrl : List ℕ) (status : ℕ) (line : List ℕ) : Type 0 where
  pub report : Report
  pub says : IsReportText osrl report
  pub claim : Claim
  pub claims : report.claim ≡ Some claim
  pub goes_on : wanted_memory claim ≡ false
  pub is_accepted : Bool
  pub decided : IsDecided osil osrl is_accepted
  pub line_is : line ≡ summary n claim is_accepted
  pub status_is : status ≡ check_status is_accepted

-- the line about the generated instance of so many variables: its text is written, and a result document answers it, with empty options,
-- that nobody stops
pub record IsSummaryOf (n : ℕ) (status : ℕ) (line : List ℕ) : Type 0 where
  pub osil : List ℕ
  pub osrl : List ℕ
  pub written : IsWrittenText (generated n) osil
  pub right : Right osil [] false (Some osrl)
  pub about : IsSummaryAbout n osil osrl status line
