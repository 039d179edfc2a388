-- What the answer of a compaction says of the two files.
use Rattle.std.specs.Prelude.{◌≡◌, ℕ, List, Result, Ok, Err}
use Rattle.os_io.specs.Streams.{HasRisen}
use Rattle.job_journal.specs.declared.faults.CompactFault.{CompactFault}
use Rattle.job_journal.specs.declared.faults.CompactFault.TheVariants.{Old, NewFault, Taken, Long}
use Rattle.job_journal.specs.declared.scanning.OpenFault.TheVariants.{ReadFault, WriteFault, Damaged}
use Rattle.job_journal.specs.Opening.{DamagedIn}

-- where it says that the old file is damaged, that is
abbrev pub OldIsDamaged : (List ℕ → List ℕ → Type 0) → List ℕ → CompactFault → Type 0
OldIsDamaged accepted file (Old fault) = DamagedIn accepted file fault
OldIsDamaged accepted file _ = Unit {0}

-- where that is answered the old file wasn't touched
abbrev pub LeavesOld : CompactFault → Type 0
LeavesOld (Old (Damaged place)) = Unit {0}
LeavesOld Taken = Unit {0}
LeavesOld _ = ⊥

-- a failed call of the old disk was counted where that is answered, and else its count stays
abbrev pub CountsOld : {X : Type 0} → Result X CompactFault → ℕ → ℕ → Type 0
CountsOld (Err (Old ReadFault)) before after = HasRisen before after
CountsOld (Err (Old WriteFault)) before after = HasRisen before after
CountsOld _ before after = after ≡ before

-- and so of the new disk
abbrev pub CountsNew : {X : Type 0} → Result X CompactFault → ℕ → ℕ → Type 0
CountsNew (Err NewFault) before after = HasRisen before after
CountsNew _ before after = after ≡ before

-- the new file was looked at, and no more was done
abbrev pub IsOfLook : CompactFault → Type 0
IsOfLook Taken = Unit {0}
IsOfLook NewFault = Unit {0}
IsOfLook _ = ⊥

abbrev pub EndsAtLook : {X : Type 0} → Result X CompactFault → Type 0
EndsAtLook (Ok x) = ⊥
EndsAtLook (Err fault) = IsOfLook fault

-- the fault isn't that the new file has more than one byte
abbrev pub IsOfCopy : CompactFault → Type 0
IsOfCopy Taken = ⊥
IsOfCopy _ = Unit {0}

-- the fault is that the new file wasn't written
abbrev pub IsOfWrite : CompactFault → Type 0
IsOfWrite NewFault = Unit {0}
IsOfWrite _ = ⊥

-- the same, or that what is written has no room
abbrev pub IsUnwritten : CompactFault → Type 0
IsUnwritten NewFault = Unit {0}
IsUnwritten Long = Unit {0}
IsUnwritten _ = ⊥
