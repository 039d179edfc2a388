-- How a run ends that solves a generated instance.
use Rattle.std.proofs.Common.{◌≡◌, ℕ, false, List, [], Some, subst}
use Rattle.instance.specs.Parts.{Parts}
use Rattle.osil_grammar.specs.Writing.{IsWrittenText}
use Rattle.generator.specs.Instances.{generated}
use Rattle.solve_run.specs.declared.document.Document.{Document}
use Rattle.solve_run.specs.JobAnswers.{Right}
use Rattle.solve_run.specs.Runs.{IsRight}
use Rattle.command_line.specs.Words.{Generate, asks}
use Rattle.os_app.specs.Summaries.{IsSummaryAbout, IsSummaryOf}
use Rattle.os_app.specs.Runs.{ProgramRun, IsUntaken, EndsSo}
use Rattle.os_app.proofs.Words.{no_check}
use Rattle.os_app.proofs.Ends.{EndsText, text_runs}

-- a document that answers a job, by its text
right_text : (osil osol : List ℕ) (doc : Document) → IsRight osil osol false doc → Right osil osol false (Some doc.text)
right_text osil osol doc (r, answers, is) = (r, answers, is.text)

-- the line about it is one of the generated instance
pub summary_is : (n : ℕ) (p : Parts) (osil a b c : List ℕ) (doc : Document) (status : ℕ) (line : List ℕ) → p ≡ generated n → a ≡ osil → b ≡ osil → c ≡ doc.text → IsWrittenText p osil → IsRight a [] false doc
    → IsSummaryAbout n b c status line → IsSummaryOf n status line
summary_is n p osil a b c doc status line is first second third written right about = record {
  osil = osil;
  osrl = doc.text;
  written = subst (λ (q : Parts). IsWrittenText q osil) is written;
  right = right_text osil [] doc (subst (λ (t : List ℕ). IsRight t [] false doc) first right);
  about = subst (λ (t : List ℕ). IsSummaryAbout n osil t status line) third (subst (λ (t : List ℕ). IsSummaryAbout n t c status line) second about);
}

pub generate_runs : {Untouched Stored : Type 0} (same : Untouched) (status : ℕ) (run : ProgramRun) (variables : ℕ) → asks run.words ≡ Some (Generate variables) → EndsText status run (Generate variables) → IsUntaken run → EndsSo Untouched Stored status run
generate_runs same status run variables asked ends untaken = text_runs same status run (Generate variables) asked ends untaken (no_check status run (Generate variables) asked tt)
