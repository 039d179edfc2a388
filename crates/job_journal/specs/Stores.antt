-- A journal as a store of effects.
use Rattle.std.specs.Prelude.{◌≡◌, ℕ, ◌+◌, Bool, true, false, List, length}
use Rattle.disks.specs.Disks.{LeavesOnly}
use Rattle.effects.specs.Records.{Deed, records, body}
use Rattle.job_journal.specs.declared.journal.Journal.{Journal}
use Rattle.job_journal.specs.Journal.{IsBeforeOrAfter, is_too_long}
use Rattle.job_journal.specs.Ready.{KeepsDeeds}

-- where the disk tells what it holds, the file stands for these, and after a crash for one more at most
abbrev pub keeps_these : {D : Type 0} {g : _} → (told : D → Bool) (seen : D → List ℕ) (may_leave : D → List ℕ → Type 0) → Journal D g → List Deed → Type 0
keeps_these told seen may_leave j deeds = KeepsDeeds told seen may_leave j.disk j.end j.broken deeds

-- unless a put had answered Disk before, a crash at any moment between the two leaves these, or these and that one
abbrev pub passes_between : {D : Type 0} {g : _} → (told : D → Bool) (moment : D → ℕ) (left_since : D → ℕ → List ℕ → Type 0) → Journal D g → Journal D g → List Deed → Deed → Type 0
passes_between told moment left_since j k deeds d = told j.disk ≡ true → j.broken ≡ false → LeavesOnly moment left_since j.disk k.disk (IsBeforeOrAfter deeds d)

-- an effect is too long once these more are stored
abbrev pub too_long_behind : {D : Type 0} {g : _} → Journal D g → List Deed → Deed → Bool
too_long_behind j more d = is_too_long (j.end + length (records more)) (length (body d))
