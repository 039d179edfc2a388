-- The table that a journal keeps when it is opened.
use Rattle.std.specs.Prelude.{◌≡◌, ◌⊎◌, ℕ, ◌≤◌, Bool, true, List, [], ◌∷◌, ◌++◌, length, Some}
use Rattle.effects.specs.Records.{Deed, Begin, Finish, AllFit, body}
use Rattle.effects.specs.Fold.{Ledger, nothing, after, osil_in, stage_of}
use Rattle.job_table.specs.declared.job.Phase.TheVariants.{Finished}
use Rattle.job_table.specs.Jobs.{Register, phase_of}
use Rattle.job_table.specs.Remade.{table_of}
use Rattle.job_journal.specs.Journal.{FileStandsFor, FileRests, is_too_long}
use Rattle.job_journal.specs.declared.scanning.OpenFault.{OpenFault}
use Rattle.job_journal.specs.declared.scanning.OpenFault.TheVariants.{ReadFault, WriteFault, Damaged, Memory}
use Rattle.job_journal.specs.Opening.{FoldsTo}
use Rattle.job_solver.specs.Sieves.{Sifts}

-- a finish of the job among these effects brought the document, which is accepted for the text of the instance that the job had by the effects before it
pub record IsBrought (n : ℕ) (document : List ℕ) (deeds : List Deed) : Type 0 where
  pub until : List Deed
  pub since : List Deed
  pub are : deeds ≡ until ++ Finish n (Some document) ∷ since
  pub ledger : Ledger
  pub folds : FoldsTo Sifts nothing until ledger
  pub osil : List ℕ
  pub text : osil_in (stage_of n ledger) ≡ Some osil
  pub accepted : Sifts osil document

-- the table is the one that goes on from what these effects leave, each possible and accepted after those before: a job that ran waits again, and each document
-- of a job was brought so
pub record TableGoesOn (deeds : List Deed) (table : Register) : Type 0 where
  pub ledger : Ledger
  pub folds : FoldsTo Sifts nothing deeds ledger
  pub table_is : table ≡ table_of ledger
  pub documents : (n : ℕ) (document : List ℕ) → phase_of n table.jobs ≡ Some (Finished (Some document)) → IsBrought n document deeds

-- the table that an opening gives of a file that stood for effects, each possible and accepted after those before: it goes on from these, or from them and one more, by
-- which numbers begin with this one
pub record OpensAs (file : List ℕ) (first : ℕ) (table : Register) : Type 0 where
  pub deeds : List Deed
  pub fit : AllFit deeds
  pub stands : FileStandsFor deeds file
  pub kept : List Deed
  pub kept_is : (kept ≡ deeds) ⊎ (kept ≡ deeds ++ Begin first ∷ [])
  pub goes_on : TableGoesOn kept table

-- that numbers begin with this one is possible behind these effects, each possible and accepted after those before
abbrev pub MayBegin : (first : ℕ) → List Deed → Type 0
MayBegin first deeds = (ledger : Ledger) × FoldsTo Sifts nothing (deeds ++ Begin first ∷ []) ledger

-- the file stands for these; or, where that is possible behind them, for these and that numbers begin with this one
abbrev pub StandsOrBegins : (first : ℕ) → List Deed → List ℕ → Type 0
StandsOrBegins first deeds file = FileStandsFor deeds file ⊎ (MayBegin first deeds × FileStandsFor (deeds ++ Begin first ∷ []) file)

-- so many numbers were given, the first of which is that; where none was, it is the one that was asked for, unless the file, which ends there, has no room to say so
abbrev pub NumbersBeginWith : (asked end first issued : ℕ) → Type 0
NumbersBeginWith asked end first issued = (1 ≤ issued) ⊎ (first ≡ asked) ⊎ (is_too_long end (length (body (Begin asked))) ≡ true)

-- the fault is said of the file, which wasn't read or is damaged
abbrev pub IsOfFile : OpenFault → Type 0
IsOfFile ReadFault = Unit {0}
IsOfFile (Damaged place) = Unit {0}
IsOfFile _ = ⊥

-- or of the number that is put behind a file that was opened
abbrev pub IsOfNumber : OpenFault → Type 0
IsOfNumber WriteFault = Unit {0}
IsOfNumber Memory = Unit {0}
IsOfNumber _ = ⊥

module _ {D : Type 0} (seen : D → List ℕ) (may_leave : D → List ℕ → Type 0) where
  -- the file and what its effects leave stay; or that numbers begin with this one was put, and is so
  abbrev pub BegunWith : (told : D → Bool) (first : ℕ) (disk : D) (end : ℕ) → Ledger → (disk' : D) (end' : ℕ) → Ledger → Type 0
  BegunWith told first disk end l disk' end' l' =
      ((disk' ≡ disk) × (end' ≡ end) × (l' ≡ l))
      ⊎ ((after (Begin first) l ≡ Some l')
      × ((deeds : List Deed) → told disk ≡ true → FileRests seen may_leave disk end deeds → FileRests seen may_leave disk' end' (deeds ++ Begin first ∷ [])))

  -- the file gives the table; the disk is at rest with the effects from which that goes on, behind a gate at that place
  pub record IsTableOf (file : List ℕ) (first : ℕ) (table : Register) (disk : D) (end : ℕ) : Type 0 where
    pub gives : OpensAs file first table
    pub rests : FileRests seen may_leave disk end gives.kept
