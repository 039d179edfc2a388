-- How a command ends that writes a text.
use Rattle.std.proofs.Common.{◌≡◌, ◌≤◌, ℕ, inl, inr, Bool, true, false, List, Result, Ok, Err, Some, arith, refl, sym, subst}
use Rattle.std.specs.Prelude.{IfOk}
use Rattle.os_io.specs.declared.files.FileFault.{FileFault}
use Rattle.os_io.specs.declared.files.FileFault.TheVariants.{Failed, Memory}
use Rattle.os_io.specs.Files.{CountsFiles}
use Rattle.os_io.specs.Streams.{Tells}
use Rattle.command_answers.specs.declared.answer.StatusText.{StatusText}
use Rattle.command_answers.specs.Outputs.{IsTold}
use Rattle.command_line.specs.Words.{Command, Session, Check, Solve, Generate, Call, Compact, Serve, asks, names_files, IsCheck, NamesNoFile}
use Rattle.os_app.specs.Checks.{IsAnswerTo, accepted, refused}
use Rattle.os_app.specs.Statuses.{check_status, solve_status}
use Rattle.os_app.specs.Ends.{AnswerEnds, FilesEnd, from_memory, in_full, unread, unwritten, unmade}
use Rattle.os_app.specs.Runs.{ProgramRun, Checks, IsDue, IsUntaken, RunEnds, EndsSo, answered, file_fault, unsent, unheard}
use Rattle.os_app.proofs.Words.{command_runs, names_none}

-- an answer that was told
pub told_of : (answer : Result StatusText FileFault) (a : StatusText) (status : ℕ) (output output_after : Tells) → answer ≡ Ok a → IsTold a.status a.text status output output_after → AnswerEnds answer status output output_after
told_of answer a status output output_after is told = subst (λ (r : Result StatusText FileFault). AnswerEnds r status output output_after) (sym is) told

pub told_from : {E : Type 0} (answer : Result StatusText FileFault) (made : Result StatusText E) (status : ℕ) (output output_after : Tells) → answer ≡ from_memory made → AnswerEnds answer status output output_after → AnswerEnds (from_memory made) status output output_after
told_from {E} answer made status output output_after is told = subst (λ (r : Result StatusText FileFault). AnswerEnds r status output output_after) is told

-- it ends the command
module _ (Due : ℕ → List ℕ → Type 0) (status : ℕ) (output output_after : Tells) where
  text_told : (Named : Type 0) (a : StatusText) (files files_after : ℕ) → Due a.status a.text → files_after ≡ files → IsTold a.status a.text status output output_after → FilesEnd Named Due status files files_after output output_after
  text_told Named a files files_after due same (inl (is, sent)) = in_full a.text (subst (λ (s : ℕ). Due s a.text) (sym is) due) same sent
  text_told Named a files files_after due same (inr (is, off)) = unwritten a.status a.text is due same off

  pub ends_of : (answer : Result StatusText FileFault) (files files_after : ℕ) → IfOk answer (λ a. Due a.status a.text) → CountsFiles answer files files_after → AnswerEnds answer status output output_after
      → FilesEnd (true ≡ true) Due status files files_after output output_after
  ends_of (Ok a) files files_after due counted told = text_told (true ≡ true) a files files_after due counted told
  ends_of (Err Failed) files files_after due counted (is, same) = unread refl is counted same
  ends_of (Err Memory) files files_after due counted (is, same) = unmade is counted same

  -- where no file is read
  pub made_ends : {E : Type 0} (made : Result StatusText E) (files : ℕ) → IfOk made (λ a. Due a.status a.text) → AnswerEnds (from_memory made) status output output_after → FilesEnd (false ≡ true) Due status files files output output_after
  made_ends (Ok a) files due told = text_told (false ≡ true) a files files due refl told
  made_ends (Err e) files due (is, same) = unmade is refl same

-- ---- a run

abbrev pub EndsText : ℕ → ProgramRun → Command → Type 0
EndsText status run it = FilesEnd (names_files it ≡ true) (IsDue run.held it) status run.file_faults run.file_faults_after run.output run.output_after

run_ends : (status : ℕ) (run : ProgramRun) (it : Command) → asks run.words ≡ Some it → EndsText status run it → IsUntaken run → RunEnds status run
run_ends status run it asked (in_full text due files sent) untaken =
    answered (record { text = text; asked = record { command = it; asked = asked; due = due }; sent = sent; untaken = untaken; all_files_read = files })
run_ends status run it asked (unread named is risen same) untaken = file_fault is (record { named = (it, asked, named); failed = risen; untaken = untaken; unwritten = same })
run_ends status run it asked (unwritten due text is asked_for files off) untaken = unsent is (record {
  text = text;
  due = inr (record { status = due; asked = record { command = it; asked = asked; due = asked_for }; all_files_read = files });
  breaks_off = off;
  untaken = untaken;
})
run_ends status run it asked (unmade is files same) untaken = unheard is (record { untaken = untaken; unwritten = same; all_files_read = files })

-- ---- a text's status is 0 or 1

check_small : (b : Bool) → check_status b ≤ 1
check_small true = omega arith
check_small false = omega arith

solve_small : (b : Bool) → solve_status b ≤ 1
solve_small true = omega arith
solve_small false = omega arith

answer_small : (osil osrl : List ℕ) (due : ℕ) (line : List ℕ) → IsAnswerTo osil osrl due line → due ≤ 1
answer_small osil osrl due line (accepted k is all says) = omega (arith, is)
answer_small osil osrl due line (refused r is why says) = omega (arith, is)

due_small : (run : ProgramRun) (it : Command) (due : ℕ) (text : List ℕ) → IsDue run.held it due text → due ≤ 1
due_small run (Check osil osrl) due text is = answer_small _ _ due text is.answers
due_small run (Solve osil options handed halt seconds safe) due text is = omega (arith, is.status_is, solve_small is.report.error)
due_small run (Generate variables) due text is = omega (arith, is.about.status_is, check_small is.about.is_accepted)
due_small run (Session journal) due text is = absurd is
due_small run (Call kind host port osil osol ospl) due text is = absurd is
due_small run (Compact old new) due text is = absurd is
due_small run (Serve host port workers servers connections patience first journal) due text is = absurd is

never_two : (status : ℕ) (run : ProgramRun) (it : Command) → EndsText status run it → status ≡ 2 → ⊥
never_two status run it (in_full text due files sent) two = omega (arith, two, due_small run it status text due)
never_two status run it (unread named is risen same) two = omega (arith, is, two)
never_two status run it (unwritten due text is about files off) two = omega (arith, is, two)
never_two status run it (unmade is files same) two = omega (arith, is, two)

files_read : (status : ℕ) (run : ProgramRun) (it : Command) → asks run.words ≡ Some it → EndsText status run it → NamesNoFile run.words → run.file_faults_after ≡ run.file_faults
files_read status run it asked (in_full text due files sent) none = files
files_read status run it asked (unread named is risen same) none = absurd (names_none run.words it asked named none)
files_read status run it asked (unwritten due text is about files off) none = files
files_read status run it asked (unmade is files same) none = files

-- a command that writes a text
pub text_runs : {Untouched Stored : Type 0} (same : Untouched) (status : ℕ) (run : ProgramRun) (it : Command) → asks run.words ≡ Some it → EndsText status run it → IsUntaken run
    → ((a b : List ℕ) → IsCheck run.words a b → Checks status run a b) → EndsSo Untouched Stored status run
text_runs same status run it asked ends untaken checks =
    command_runs status run it asked (inl (run_ends status run it asked ends untaken, same)) (never_two status run it ends) (files_read status run it asked ends) checks
