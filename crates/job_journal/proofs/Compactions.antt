-- What the answer of a compaction says of its two files.
use Rattle.std.proofs.Common.{◌≡◌, ℕ, List, [], ◌∷◌, refl, sym, ◌∙◌, subst}
use Rattle.std.specs.Prelude.{Result, Ok, Err, IfErr}
use Rattle.effects.specs.Records.{Deed, EndsBehindGate}
use Rattle.effects.specs.Fold.{Ledger, nothing}
use Rattle.job_journal.specs.Journal.{FileRests, FileStandsFor}
use Rattle.job_journal.specs.Opening.{FoldsTo, IsOpened, LeavesFile}
use Rattle.job_journal.specs.Compacting.{GivesTable, IsShortOf, is_held, shortened}
use Rattle.job_journal.specs.CompactFaults.{CountsOld, IsOfCopy, IsOfLook, IsOfWrite, IsUnwritten, LeavesOld, OldIsDamaged}
use Rattle.job_journal.specs.Copies.{IsUndamaged}
use Rattle.job_journal.specs.declared.scanning.OpenFault.{OpenFault}
use Rattle.job_journal.specs.declared.scanning.OpenFault.TheVariants.{ReadFault, WriteFault, Damaged, Memory}
use Rattle.job_journal.specs.declared.faults.CompactFault.{CompactFault}
use Rattle.job_journal.specs.declared.faults.CompactFault.TheVariants.{Old, NewFault, Taken, Long}
use Rattle.job_journal.proofs.Crash.{stands_before}
use Rattle.job_journal.proofs.SoleMeanings.{stand_same}
use Rattle.job_journal.proofs.SoundFiles.{same_ledger}
use Rattle.job_journal.proofs.ShortTables.{same_table, short_fit}

module _ {D : Type 0} (seen : D → List ℕ) (may_leave : D → List ℕ → Type 0) (disk : D) (place : ℕ) where
  pub rest_stand : (deeds : List Deed) → FileRests seen may_leave disk place deeds → FileStandsFor deeds (seen disk)
  rest_stand deeds rests = stands_before deeds rests.gate [] (seen disk) rests.shut rests.file

  module _ (accepted : List ℕ → List ℕ → Type 0) (file : List ℕ) (ledger : Ledger) (opened : IsOpened accepted seen may_leave file disk place ledger) where
    pub opened_ends : EndsBehindGate opened.deeds (seen disk)
    opened_ends = record { gate = opened.rests.gate; after = []; shut = opened.rests.shut; is = opened.rests.file }

    pub short_of : IsShortOf accepted file ledger (shortened (is_held ledger) 1 opened.deeds)
    short_of = record {
      deeds = opened.deeds;
      fit = opened.fit;
      stands = opened.stands;
      folds = opened.folds;
      is = refl;
      fits = short_fit (is_held ledger) 1 opened.deeds opened.fit;
      same = same_table accepted opened.deeds ledger opened.folds;
    }

module _ (accepted : List ℕ → List ℕ → Type 0) where
  -- effects lead to one table
  folds_once : (start : Ledger) (deeds : List Deed) (one other : Ledger) → FoldsTo accepted start deeds one → FoldsTo accepted start deeds other → one ≡ other
  folds_once start [] one other p q = p ∙ sym q
  folds_once start (d ∷ deeds) one other p q =
      let next : q.0 ≡ p.0 = same_ledger q.0 p.0 (sym q.1.1 ∙ p.1.1) in
      folds_once p.0 deeds one other p.2 (subst (λ (l : Ledger). FoldsTo accepted l deeds other) next q.2)

  pub gives_table : (old file : List ℕ) (ledger : Ledger) (short : List Deed) → IsShortOf accepted old ledger short → FileStandsFor short file → GivesTable accepted file ledger
  gives_table old file ledger short is stands = record {
    deeds = short;
    fit = is.fits;
    stands = stands;
    folds = is.same;
    no_other = λ other some fit stood folds.
        folds_once nothing short other ledger (subst (λ (ds : List Deed). FoldsTo accepted nothing ds other) (stand_same some short file fit is.fits stood stands) folds) is.same;
  }

  pub looked_undamaged : (file : List ℕ) (fault : CompactFault) → IsOfLook fault → OldIsDamaged accepted file fault
  looked_undamaged file (Old fault) is = absurd is
  looked_undamaged file NewFault is = tt
  looked_undamaged file Taken is = tt
  looked_undamaged file Long is = absurd is

pub written_is : (fault : CompactFault) → IsOfWrite fault → IsUnwritten fault
written_is (Old fault) is = absurd is
written_is NewFault is = tt
written_is Taken is = absurd is
written_is Long is = absurd is

-- a fault of what is written says nothing of the old file
pub unwritten_undamaged : (fault : CompactFault) → IsUnwritten fault → IsUndamaged fault
unwritten_undamaged (Old fault) is = absurd is
unwritten_undamaged NewFault is = tt
unwritten_undamaged Taken is = tt
unwritten_undamaged Long is = tt

pub unwritten_copies : (fault : CompactFault) → IsUnwritten fault → IsOfCopy fault
unwritten_copies (Old fault) is = tt
unwritten_copies NewFault is = tt
unwritten_copies Taken is = absurd is
unwritten_copies Long is = tt

-- and leaves its count
pub unwritten_old : {X : Type 0} (r : Result X CompactFault) (before after : ℕ) → IfErr r IsUnwritten → after ≡ before → CountsOld r before after
unwritten_old (Ok x) before after is same = same
unwritten_old (Err (Old fault)) before after is same = absurd is
unwritten_old (Err NewFault) before after is same = same
unwritten_old (Err Taken) before after is same = absurd is
unwritten_old (Err Long) before after is same = same

pub looked_old : {X : Type 0} (r : Result X CompactFault) (before : ℕ) → IfErr r IsOfLook → CountsOld r before before
looked_old (Ok x) before is = refl
looked_old (Err (Old fault)) before is = absurd is
looked_old (Err NewFault) before is = refl
looked_old (Err Taken) before is = refl
looked_old (Err Long) before is = absurd is

pub leaves_file : (fault : OpenFault) → LeavesOld (Old fault) → LeavesFile fault
leaves_file (Damaged place) is = tt
leaves_file ReadFault is = absurd is
leaves_file WriteFault is = absurd is
leaves_file Memory is = absurd is

-- no fault of the copying says that the old file wasn't touched
pub leaves_none : (fault : CompactFault) → IsUndamaged fault → IsOfCopy fault → LeavesOld fault → ⊥
leaves_none (Old (Damaged place)) undamaged copy is = undamaged
leaves_none (Old ReadFault) undamaged copy is = is
leaves_none (Old WriteFault) undamaged copy is = is
leaves_none (Old Memory) undamaged copy is = is
leaves_none NewFault undamaged copy is = is
leaves_none Taken undamaged copy is = copy
leaves_none Long undamaged copy is = is

pub both_faults : {X E : Type 0} (r : Result X E) (P Q : E → Type 0) → IfErr r P → IfErr r Q → IfErr r (λ fault. P fault × Q fault)
both_faults (Ok x) P Q p q = tt
both_faults (Err fault) P Q p q = (p, q)
