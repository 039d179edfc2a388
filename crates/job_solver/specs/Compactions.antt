-- What it comes to that a journal of jobs that are solved is written again.
use Rattle.std.specs.Prelude.{◌≡◌, ◌⊎◌, ◌<◌, ◌≤◌, ℕ, true, List, [], length, Result, OnOk, IfErr, IsErrOf}
use Rattle.effects.specs.Records.{Deed, AllFit}
use Rattle.effects.specs.Fold.{Ledger}
use Rattle.disks.specs.declared.disk.Disk.{Ghosts}
use Rattle.disks.specs.Disks.{LeavesOnly}
use Rattle.job_table.specs.Jobs.{Register}
use Rattle.job_journal.specs.declared.faults.CompactFault.{CompactFault}
use Rattle.job_journal.specs.declared.faults.CompactFault.TheVariants.{Taken, Long}
use Rattle.job_journal.specs.Journal.{FileRests, FileStandsFor}
use Rattle.job_journal.specs.Opening.{Calm, IsDamaged}
use Rattle.job_journal.specs.Compacting.{HasNoRoom, IsShortOf}
use Rattle.job_journal.specs.CompactFaults.{CountsNew, CountsOld, EndsAtLook, LeavesOld, OldIsDamaged}
use Rattle.job_solver.specs.Sieves.{Sifts}
use Rattle.job_solver.specs.Openings.{OpensAs}

-- where no number was given, numbers begin with the one that was asked for
abbrev pub BeginsAsAsked : (asked : ℕ) → Register → Type 0
BeginsAsAsked asked table = (1 ≤ table.issued) ⊎ (table.first ≡ asked)

-- the file isn't damaged, and opened it gives the table that the other one gives, whatever number is asked for, unless one of them has no room to say with which
-- number numbers begin
pub record GivesSameTable (file other : List ℕ) : Type 0 where
  pub undamaged : (place : ℕ) → IsDamaged Sifts file place → ⊥
  pub same : (asked : ℕ) (table of_other : Register) → OpensAs file asked table → OpensAs other asked of_other → BeginsAsAsked asked table → BeginsAsAsked asked of_other → table ≡ of_other

-- the other file has what the first one comes to without what jobs that are gone had: it gives the same table
pub record IsWrittenAgain (file again : List ℕ) : Type 0 where
  pub ledger : Ledger
  pub short : List Deed
  pub is : IsShortOf Sifts file ledger short
  pub stands : FileStandsFor short again
  pub gives : GivesSameTable again file

-- the journal on the old disk was written again on the new one, or why it wasn't, and what is left of both
pub record Compacts {D E : Type 0} (g : Ghosts D) (h : Ghosts E) (how : Result (Unit {0}) CompactFault) (old : D) (new : E) (old_left : D) (new_left : E) : Type 0 where
  -- the new file is the old one, written again, and nothing else, and is at rest
  pub written : OnOk how (g.told old ≡ true → h.told new ≡ true → (again : IsWrittenAgain (g.seen old) (h.seen new_left)) × ((place : ℕ) × FileRests h.seen h.may_leave new_left place again.short))
  -- a crash at any moment leaves of the new file what it might have left before, no effect, or all of them; and of the old one the effects that it stood for
  pub any_moment : g.told old ≡ true → h.told new ≡ true → LeavesOnly h.moment h.left_since new new_left (λ c. (h.may_leave new c ⊎ FileStandsFor [] c) ⊎ IsWrittenAgain (g.seen old) c)
  pub old_at_any_moment : (deeds : List Deed) → g.told old ≡ true → AllFit deeds → FileStandsFor deeds (g.seen old)
      → LeavesOnly g.moment g.left_since old old_left (λ c. g.may_leave old c ⊎ FileStandsFor deeds c)
  -- a new file of more than one byte is only looked at, and the old one isn't touched then; and only of such a new one it is said that it is taken
  pub taken : h.told new ≡ true → 1 < length (h.seen new) → EndsAtLook how × (old_left ≡ old) × Calm h.told h.seen h.may_leave h.moment h.left_since new new_left
  pub untaken : IfErr how (λ f. f ≡ Taken → h.told new ≡ true → 1 < length (h.seen new))
  -- it is said to be too long only where one of the effects that would be written has no room behind those before it
  pub long : IsErrOf how Long → g.told old ≡ true → h.told new ≡ true → (ledger : Ledger) × (short : List Deed) × IsShortOf Sifts (g.seen old) ledger short × HasNoRoom [] short
  -- the old one is said to be damaged only where it is, and stays as it was then; and a fault of a disk is said exactly where that disk counted one
  pub damaged : IfErr how (λ f. g.told old ≡ true → OldIsDamaged Sifts (g.seen old) f)
  pub stays : IfErr how (λ f. LeavesOld f → g.told old ≡ true → Calm g.told g.seen g.may_leave g.moment g.left_since old old_left)
  pub old_cause : CountsOld how (g.faults old) (g.faults old_left)
  pub new_cause : CountsNew how (h.faults new) (h.faults new_left)
