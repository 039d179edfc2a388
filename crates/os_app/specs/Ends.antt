-- How a command ends that writes a text, for which it may read files.
use Rattle.std.specs.Prelude.{◌≡◌, ℕ, Result, Ok, Err, List}
use Rattle.os_io.specs.declared.files.FileFault.{FileFault}
use Rattle.os_io.specs.declared.files.FileFault.TheVariants.{Failed, Memory}
use Rattle.os_io.specs.Streams.{Tells, HasRisen}
use Rattle.command_answers.specs.declared.answer.StatusText.{StatusText}
use Rattle.command_answers.specs.Outputs.{IsSent, BreaksOff, IsTold}

-- what becomes of an answer: its text is sent, with its status, or a write fails; where there is none, nothing is written
abbrev pub AnswerEnds : Result StatusText FileFault → (status : ℕ) → (output output_after : Tells) → Type 0
AnswerEnds (Ok a) status output output_after = IsTold a.status a.text status output output_after
AnswerEnds (Err Failed) status output output_after = (status ≡ 3) × (output_after ≡ output)
AnswerEnds (Err Memory) status output output_after = (status ≡ 5) × (output_after ≡ output)

-- an answer for which no file is read
abbrev pub from_memory : {E : Type 0} → Result StatusText E → Result StatusText FileFault
from_memory (Ok a) = Ok a
from_memory (Err e) = Err Memory

-- how it ends, where these texts are due with these statuses, by its status, by how often a file wasn't read and by what the output
-- tells, before and after it: a text was sent; or a file wasn't read, only where files are named; or a write failed, or there was no memory
pub data FilesEnd (Named : Type 0) (Due : ℕ → List ℕ → Type 0) (status files files_after : ℕ) (output output_after : Tells) : Type 0 where
  in_full : (text : List ℕ) → Due status text → files_after ≡ files → IsSent text output output_after → FilesEnd Named Due status files files_after output output_after
  unread : Named → status ≡ 3 → HasRisen files files_after → output_after ≡ output → FilesEnd Named Due status files files_after output output_after
  unwritten : (due : ℕ) (text : List ℕ) → status ≡ 4 → Due due text → files_after ≡ files → BreaksOff text output output_after → FilesEnd Named Due status files files_after output output_after
  unmade : status ≡ 5 → files_after ≡ files → output_after ≡ output → FilesEnd Named Due status files files_after output output_after
