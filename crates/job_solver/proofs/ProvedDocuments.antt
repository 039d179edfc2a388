-- What is shown in a history is proved.
use Rattle.std.proofs.Common.{◌≡◌, inl, inr, ⊎_elim, ℕ, Bool, List, ◌∷◌, Some, subst, arith}
use Rattle.evidence.specs.Claim.{IsTrueOf}
use Rattle.instance.specs.Parts.{Parts}
use Rattle.instance.specs.Program.{problem}
use Rattle.certificate.specs.Meanings as Means
use Rattle.certificate.specs.declared.claims.Claim.{Claim}
use Rattle.osil_grammar.specs.Reading.{IsInstanceText}
use Rattle.osrl_writing.specs.declared.report.Report.{Report}
use Rattle.document_checker.specs.declared.documents.Kind.{Kind}
use Rattle.document_checker.specs.Documents.{kind, IsAcceptedText}
use Rattle.solve_run.specs.JobAnswers.{AnswersJob, TellsReport, Right}
use Rattle.job_table.specs.declared.entries.TableMove.TheVariants.{Retrieve}
use Rattle.job_table.specs.declared.entries.Retrieved.TheVariants as shown
use Rattle.job_table.specs.declared.entries.Reply.TheVariants as reply
use Rattle.job_table.specs.Jobs.{Register, beginning, NobodyRuns}
use Rattle.job_table.specs.Steps.{Step}
use Rattle.job_table.specs.History.{MoveEntry, entry_of_move, LeadsOn, MovesOn, on_stepwise, HadTexts, WasBrought, CameRight}
use Rattle.job_table.specs.Laws.{RetrievedDocumentsAreRight}
use Rattle.job_table.proofs.Histories.{chains_split}
use Rattle.job_solver.specs.ProvedDocuments.{IsProved, IsProvedBy, ShownAreProved}
use Rattle.job_solver.specs.StoredDocuments.{IsShownFrom, ShownAreProvedFrom}

-- what an answer claims is accepted
abbrev Accepted : Type 0
Accepted =
    (osil osol : List ℕ) (asked : Bool) (r : Report) (text : List ℕ) (c : Claim) (k : Kind) → AnswersJob osil osol asked r → TellsReport osil osol r text → r.claim ≡ Some c → kind c ≡ Some k
    → IsAcceptedText osil text k

-- and true
abbrev IsTrue : Type 0
IsTrue =
    (osil osol : List ℕ) (asked : Bool) (p : Parts) (r : Report) (c : Claim) (k : Kind) → IsInstanceText osil p → AnswersJob osil osol asked r
    → r.claim ≡ Some c → kind c ≡ Some k → IsTrueOf (problem p) (Means.claim c)

proved_of : Accepted → IsTrue → (start : Register) (n : ℕ) (document : List ℕ) (before : List MoveEntry) → CameRight Right start n (Some document) before
    → IsProvedBy (HadTexts start n) n document before
proved_of accepted is_true start n document before came =
    let (report, answers, written) = came.is_right in
    record {
      osil = came.osil;
      osol = came.osol;
      asked = came.asked;
      report = report;
      until = came.before;
      since = came.after;
      finished = came.are;
      brought = came.had;
      killed = came.killed;
      answers = answers;
      written = written;
      accepted = λ c k claims is. accepted came.osil came.osol came.asked report document c k answers written claims is;
      is_true = λ p c k reads claims is. is_true came.osil came.osol came.asked p report c k reads answers claims is;
    }

-- what is shown was asked for, and not refused
shown_made : (n : ℕ) (said : shown.the_data) (now after : Register) → MovesOn Right now (Retrieve n) (reply.Retrieved said) after → Step Right now (Retrieve n) (reply.Retrieved said) after
shown_made n said now after (inl step) = step
shown_made n said now after (inr (fault, says, may, same)) = absurd cc

-- what is shown in a history is proved, or the table had it at first
pub shown_from : RetrievedDocumentsAreRight Right → Accepted → IsTrue → ShownAreProvedFrom
shown_from right accepted is_true start entries now rises nobody runs n document before after are =
    let last : MoveEntry = entry_of_move (Retrieve n) (reply.Retrieved (shown.Finished (Some document))) in
    let (mid, first, (next, shows, rest)) = chains_split (MovesOn Right) start now before (last ∷ after) (subst (λ (es : List MoveEntry). LeadsOn Right start es now) are runs) in
    ⊎_elim (λ (came : CameRight Right start n (Some document) before). inl (proved_of accepted is_true start n document before came)) (λ had. inr had)
    (right start n (Some document) before mid next rises nobody first (shown_made n (shown.Finished (Some document)) mid next shows))

-- an empty table has no job
nobody_at_first : (first : ℕ) → NobodyRuns (beginning first)
nobody_at_first first n osil osol marked there = cc

brought_at_first : (first n : ℕ) (osil osol : List ℕ) (es : List MoveEntry) → HadTexts (beginning first) n osil osol es → WasBrought n osil osol es
brought_at_first first n osil osol es (inl brought) = brought
brought_at_first first n osil osol es (inr there) = absurd cc

proved_at_first : (first n : ℕ) (document : List ℕ) (before : List MoveEntry) → IsShownFrom (beginning first) n document before → IsProved n document before
proved_at_first first n document before (inl p) = record {
  osil = p.osil;
  osol = p.osol;
  asked = p.asked;
  report = p.report;
  until = p.until;
  since = p.since;
  finished = p.finished;
  brought = brought_at_first first n p.osil p.osol p.until p.brought;
  killed = p.killed;
  answers = p.answers;
  written = p.written;
  accepted = p.accepted;
  is_true = p.is_true;
}
proved_at_first first n document before (inr there) = absurd cc

-- the same from an empty table on
pub shown_proved : RetrievedDocumentsAreRight Right → Accepted → IsTrue → ShownAreProved
shown_proved right accepted is_true entries now runs n document before after are =
    proved_at_first now.first n document before
    (shown_from right accepted is_true (beginning now.first) entries now (omega arith) (nobody_at_first now.first) (on_stepwise Right (beginning now.first) now entries runs) n document before after are)
