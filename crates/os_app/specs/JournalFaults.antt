-- What is said of a journal that isn't opened, or isn't written again, and with which status.
use Rattle.std.specs.Prelude.{◌≡◌, ℕ, List, Result, Ok, Err, codes}
use Rattle.os_io.specs.declared.files.FileFault.{FileFault}
use Rattle.os_io.specs.declared.files.FileFault.TheVariants as files
use Rattle.os_io.specs.Streams.{Tells}
use Rattle.job_journal.specs.declared.faults.CompactFault.{CompactFault}
use Rattle.job_journal.specs.declared.faults.CompactFault.TheVariants.{Old, NewFault, Taken, Long}
use Rattle.job_journal.specs.declared.scanning.OpenFault.{OpenFault}
use Rattle.job_journal.specs.declared.scanning.OpenFault.TheVariants.{ReadFault, WriteFault, Damaged, Memory}
use Rattle.command_answers.specs.Outputs.{IsTold, number_line}

-- the line that says where a journal is damaged
abbrev pub damaged_line : ℕ → List ℕ
damaged_line place = number_line (codes "damaged at ") place

-- what is said of a journal that isn't opened, and with which status
abbrev pub IsSaidOf : OpenFault → (status : ℕ) → (old new : Tells) → Type 0
IsSaidOf ReadFault status old new = (status ≡ 3) × (new ≡ old)
IsSaidOf WriteFault status old new = (status ≡ 4) × (new ≡ old)
IsSaidOf (Damaged place) status old new = IsTold 9 (damaged_line place) status old new
IsSaidOf Memory status old new = (status ≡ 5) × (new ≡ old)

-- what is said of a journal that was to be written again: nothing where it was, or why the old one wasn't opened or read; 4 where the new one wasn't written, has
-- something in it, or has no room for all
abbrev pub IsSaidOfCopy : Result (Unit {0}) CompactFault → (status : ℕ) → (old new : Tells) → Type 0
IsSaidOfCopy (Ok done) status old new = (status ≡ 0) × (new ≡ old)
IsSaidOfCopy (Err (Old fault)) status old new = IsSaidOf fault status old new
IsSaidOfCopy (Err NewFault) status old new = (status ≡ 4) × (new ≡ old)
IsSaidOfCopy (Err Taken) status old new = (status ≡ 4) × (new ≡ old)
IsSaidOfCopy (Err Long) status old new = (status ≡ 4) × (new ≡ old)

-- the status where a file isn't opened: the one of that, or 5 where there was no memory
abbrev pub unopened_status : (failed : ℕ) → FileFault → ℕ
unopened_status failed files.Failed = failed
unopened_status failed files.Memory = 5
