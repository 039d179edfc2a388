-- What a file that is opened stands for, and where it is damaged.
use Rattle.std.specs.Prelude.{◌≡◌, ℕ, ◌<◌, Bool, true, false, List, [], ◌∷◌, ◌++◌, length, drop, Option, Some, None, Result, Ok, Err}
use Rattle.effects.specs.Records.{Deed, Finish, body, records, Fits, AllFit, EndsBehindGate}
use Rattle.effects.specs.Fold.{Ledger, nothing, osil_in, stage_of}
use Rattle.effects.specs.Fold as fold
use Rattle.disks.specs.Disks.{LeavesOnly}
use Rattle.job_journal.specs.Journal.{FileRests, FileStandsFor}
use Rattle.job_journal.specs.declared.scanning.OpenFault.{OpenFault}
use Rattle.job_journal.specs.declared.scanning.OpenFault.TheVariants.{ReadFault, WriteFault, Damaged, Memory}
use Rattle.os_io.specs.Streams.{HasRisen}

-- the calls between the two read and brought to rest, and changed nothing else
pub record Calm {D : Type 0} (told : D → Bool) (seen : D → List ℕ) (may_leave : D → List ℕ → Type 0) (moment : D → ℕ) (left_since : D → ℕ → List ℕ → Type 0) (old new : D) : Type 0 where
  pub same_told : told new ≡ told old
  pub same_seen : seen new ≡ seen old
  pub crash : (c : List ℕ) → may_leave new c → may_leave old c
  pub moments : LeavesOnly moment left_since old new (may_leave old)

-- by what says of an instance's text and a document whether the document is accepted
module _ (accepted : List ℕ → List ℕ → Type 0) where
  -- the document is accepted for a text that is there
  abbrev pub IsAcceptedFor : Option (List ℕ) → List ℕ → Type 0
  IsAcceptedFor (Some osil) document = accepted osil document
  IsAcceptedFor None document = ⊥

  -- a document that the effect brings is accepted for the text of the job's instance
  abbrev pub IsAdmitted : Ledger → Deed → Type 0
  IsAdmitted l (Finish n (Some document)) = IsAcceptedFor (osil_in (stage_of n l)) document
  IsAdmitted l _ = Unit {0}

  -- what the effect leaves, or none where it isn't possible there or its document isn't accepted
  abbrev pub StepsTo : Deed → Ledger → Option Ledger → Type 0
  StepsTo d old (Some new) = IsAdmitted old d × (fold.after d old ≡ Some new)
  StepsTo d old None = IsAdmitted old d → fold.after d old ≡ None

  -- effects lead from one ledger to another, each possible and accepted after those before
  abbrev pub FoldsTo : Ledger → List Deed → Ledger → Type 0
  FoldsTo old [] new = new ≡ old
  FoldsTo old (d ∷ deeds) new = (mid : Ledger) × StepsTo d old (Some mid) × FoldsTo mid deeds new

  -- some effects made this of an empty table
  abbrev pub WasMade : Ledger → Type 0
  WasMade ledger = (deeds : List Deed) × FoldsTo nothing deeds ledger

  -- the bytes are records of effects, each possible and accepted after those before, and a rest that isn't empty
  pub record IsReadUpTo (bytes rest : List ℕ) (ledger : Ledger) : Type 0 where
    pub deeds : List Deed
    pub fit : AllFit deeds
    pub folds : FoldsTo nothing deeds ledger
    pub is : bytes ≡ records deeds ++ rest
    pub some : 0 < length rest

  -- the records end at a gate at that place, which isn't 1
  pub record ReadsRecords (bytes : List ℕ) (place : ℕ) (ledger : Ledger) : Type 0 where
    pub deeds : List Deed
    pub fit : AllFit deeds
    pub folds : FoldsTo nothing deeds ledger
    pub ends : EndsBehindGate deeds bytes
    pub at : place ≡ length (records deeds)

  -- behind an open gate at that place, and records of effects, no record stands with a gate behind it that is possible and accepted
  pub record IsDamaged (bytes : List ℕ) (place : ℕ) : Type 0 where
    pub long : 1 < length bytes
    pub deeds : List Deed
    pub fit : AllFit deeds
    pub ledger : Ledger
    pub folds : FoldsTo nothing deeds ledger
    pub behind : List ℕ
    pub is : bytes ≡ records deeds ++ 1 ∷ behind
    pub at : place ≡ length (records deeds)
    pub none : (d : Deed) (gate : ℕ) (after : List ℕ) → Fits d → behind ≡ body d ++ gate ∷ after → StepsTo d ledger None

  -- the bytes begin with the record of an effect that leads from one ledger to the other, and this follows it, which isn't empty
  pub record CutsRecord (bytes : List ℕ) (old : Ledger) (after : List ℕ) (new : Ledger) : Type 0 where
    pub deed : Deed
    pub fits : Fits deed
    pub is : bytes ≡ body deed ++ after
    pub steps : StepsTo deed old (Some new)
    pub some : 0 < length after

  -- the same, or no record stands there with a gate behind it that is possible and accepted
  abbrev pub TakesRecord : List ℕ → Ledger → Option (List ℕ) → Ledger → Type 0
  TakesRecord bytes old (Some after) new = CutsRecord bytes old after new
  TakesRecord bytes old None new = (d : Deed) (gate : ℕ) (after : List ℕ) → Fits d → bytes ≡ body d ++ gate ∷ after → StepsTo d old None

  -- the effect of the record behind the open gate at that place was made, and the next gate is at the other place; or the gate isn't open
  abbrev pub TakesOn : List ℕ → ℕ → Ledger → Bool → ℕ → Ledger → Type 0
  TakesOn file place old true next new = (behind : List ℕ) × (drop place file ≡ 1 ∷ behind) × CutsRecord behind old (drop next file) new
  TakesOn file place old false next new = (next ≡ place) × (new ≡ old) × ((behind : List ℕ) → drop place file ≡ 1 ∷ behind → ⊥)

  -- where Damaged is answered at that place, its gate is open, and no record stands behind it with a gate behind it that is possible and accepted
  abbrev pub StopsAt : List ℕ → ℕ → Ledger → OpenFault → Type 0
  StopsAt file place old (Damaged at) = (at ≡ place) × ((behind : List ℕ) × (drop place file ≡ 1 ∷ behind) × TakesRecord behind old None old)
  StopsAt file place old _ = Unit {0}

  -- where the opening of a file that is told answers Damaged, it is
  abbrev pub DamagedIn : List ℕ → OpenFault → Type 0
  DamagedIn bytes (Damaged place) = IsDamaged bytes place
  DamagedIn bytes _ = Unit {0}

  -- the file stands for effects, each possible and accepted after those before, that made the table, and is at rest
  pub record IsOpened {D : Type 0} (seen : D → List ℕ) (may_leave : D → List ℕ → Type 0) (file : List ℕ) (disk : D) (end : ℕ) (ledger : Ledger) : Type 0 where
    pub deeds : List Deed
    pub fit : AllFit deeds
    pub folds : FoldsTo nothing deeds ledger
    pub stands : FileStandsFor deeds file
    pub rests : FileRests seen may_leave disk end deeds

-- a failed read, write, cut or sync was counted where that is answered, and else the count stays
abbrev pub CountsOpening : {X : Type 0} → Result X OpenFault → ℕ → ℕ → Type 0
CountsOpening (Err ReadFault) before after = HasRisen before after
CountsOpening (Err WriteFault) before after = HasRisen before after
CountsOpening _ before after = after ≡ before

-- the same, of a journal, or of a disk that is given back
abbrev pub CountsBack : {J D : Type 0} → (J → ℕ) → (D → ℕ) → Result J (OpenFault × D) → ℕ → Type 0
CountsBack of_journal faults (Ok j) before = of_journal j ≡ before
CountsBack of_journal faults (Err (ReadFault, disk)) before = HasRisen before (faults disk)
CountsBack of_journal faults (Err (WriteFault, disk)) before = HasRisen before (faults disk)
CountsBack of_journal faults (Err (_, disk)) before = faults disk ≡ before

-- the fault is one of reading
abbrev pub IsReadingFault : OpenFault → Type 0
IsReadingFault ReadFault = Unit {0}
IsReadingFault Memory = Unit {0}
IsReadingFault _ = ⊥

-- where that is answered nothing was written
abbrev pub LeavesFile : OpenFault → Type 0
LeavesFile WriteFault = ⊥
LeavesFile _ = Unit {0}

-- the fault isn't one of the file
abbrev pub IsUnfound : OpenFault → Type 0
IsUnfound (Damaged place) = ⊥
IsUnfound _ = Unit {0}
