-- A journal that is opened, with numbers that begin with one that is asked for.
use Rattle.std.proofs.Common.{◌≡◌, ◌⊎◌, inl, inr, ⊎_elim, ℕ, ◌≤◌, nat_eq, nat_le, nat_lt, Bool, true, false, ◌&&◌, if◌then◌else◌, List, [], ◌∷◌, ◌++◌, Option, Some, None, Err, refl, sym, ap, ◌∙◌, subst, arith}
use Rattle.std.proofs.lemmas.Bool.Decides.{nat_tests}
use Rattle.os_io.specs.Streams.{HasRisen}
use Rattle.effects.specs.Limits.{most_first}
use Rattle.effects.specs.Records.{Deed, AllFit, Begin}
use Rattle.effects.specs.Fold.{Ledger, nothing, begins}
use Rattle.job_table.specs.Jobs.{Register}
use Rattle.job_table.specs.Remade.{table_of}
use Rattle.job_journal.specs.declared.scanning.OpenFault.{OpenFault}
use Rattle.job_journal.specs.declared.scanning.OpenFault.TheVariants.{ReadFault, WriteFault, Damaged, Memory}
use Rattle.disks.specs.Disks.{LeavesOnly}
use Rattle.disks.proofs.Moments.{started}
use Rattle.job_journal.specs.Journal.{FileRests, FileStandsFor, IsBeforeOrAfter}
use Rattle.job_journal.specs.Opening.{FoldsTo, WasMade, IsOpened, LeavesFile, DamagedIn, CountsOpening, CountsBack}
use Rattle.job_journal.proofs.Calms.{runs_on}
use Rattle.job_journal.proofs.SoleMeanings.{stand_same, weaker}
use Rattle.job_journal.proofs.Scans.{folds_push}
use Rattle.job_solver.specs.Sieves.{Sifts}
use Rattle.job_solver.specs.Openings.{NumbersBeginWith, BegunWith, TableGoesOn, IsOfFile, IsOfNumber, IsTableOf, MayBegin, StandsOrBegins}
use Rattle.job_solver.proofs.StoredDocuments.{going_on}

pub some_same : (l m : Ledger) → Some l ≡ Some m → l ≡ m
some_same l m is = cc

-- numbers begin with this one where none was given
begins_so : (n : ℕ) (l : Ledger) → nat_lt 0 l.issued ≡ false → 1 ≤ n → n ≤ most_first → begins n l ≡ Some (record l { first = n })
begins_so n l none some within =
    let new : nat_eq l.issued 0 ≡ true = grind (arith, nat_tests) in
    let least : nat_le 1 n ≡ true = grind (arith, nat_tests) in
    let most : nat_le n most_first ≡ true = grind (arith, nat_tests) in
    λ i. if new i && least i && most i then Some (record l { first = n }) else None

-- and so they do once that was made
pub begins_then : (n end : ℕ) (l l' : Ledger) (made : Bool) → begins n l ≡ (if made then Some l' else None) → nat_lt 0 l.issued ≡ false → 1 ≤ n → n ≤ most_first → NumbersBeginWith n end l'.first l'.issued
begins_then n end l l' true is none some within =
    let same : record l { first = n } ≡ l' = some_same (record l { first = n }) l' (sym (begins_so n l none some within) ∙ is) in inr (inl (ap (λ (m : Ledger). m.first) (sym same)))
begins_then n end l l' false is none some within = let wrong : Some (record l { first = n }) ≡ None = sym (begins_so n l none some within) ∙ is in cc

-- an effect that is possible was made
made_so : (made : Bool) (m new : Ledger) (o : Option Ledger) → o ≡ (if made then Some new else None) → o ≡ Some m → o ≡ Some new
made_so true m new o is so = is
made_so false m new o is so = cc

module _ {D : Type 0} (seen : D → List ℕ) (may_leave : D → List ℕ → Type 0) (told : D → Bool) (first : ℕ) where
  abbrev Begun : (disk : D) (end : ℕ) → Ledger → (disk' : D) (end' : ℕ) → Ledger → Type 0
  Begun disk end l disk' end' l' = BegunWith seen may_leave told first disk end l disk' end' l'

  pub begun : (disk disk' : D) (end end' : ℕ) (l l' : Ledger) (made : Bool) → begins first l ≡ (if made then Some l' else None) → nat_lt 0 l.issued ≡ false → 1 ≤ first → first ≤ most_first
      → ((deeds : List Deed) → told disk ≡ true → FileRests seen may_leave disk end deeds → FileRests seen may_leave disk' end' (deeds ++ Begin first ∷ []))
      → Begun disk end l disk' end' l'
  begun disk disk' end end' l l' made is none some within rests =
      inr (made_so made (record l { first = first }) l' (begins first l) is (begins_so first l none some within), rests)

  still_folds : (deeds : List Deed) (l l' : Ledger) → l' ≡ l → FoldsTo Sifts nothing deeds l → FoldsTo Sifts nothing deeds l'
  still_folds deeds l l' still folds = subst (λ (m : Ledger). FoldsTo Sifts nothing deeds m) (sym still) folds

  -- the table goes on from effects
  pub made_on : (disk disk' : D) (end end' : ℕ) (l l' : Ledger) (table : Register) → WasMade Sifts l → Begun disk end l disk' end' l' → table ≡ table_of l' → (deeds : List Deed) × TableGoesOn deeds table
  made_on disk disk' end end' l l' table (deeds, folds) (inl (same, there, still)) is = (deeds, going_on deeds l' table (still_folds deeds l l' still folds) is)
  made_on disk disk' end end' l l' table (deeds, folds) (inr (leads, rests)) is =
      (deeds ++ Begin first ∷ [], going_on (deeds ++ Begin first ∷ []) l' table (folds_push Sifts nothing deeds l (Begin first) l' folds (tt, leads)) is)

  -- and from those that the file stood for
  pub table_on : (file : List ℕ) (disk disk' : D) (end end' : ℕ) (l l' : Ledger) (table : Register) → told disk ≡ true → IsOpened Sifts seen may_leave file disk end l → Begun disk end l disk' end' l'
      → table ≡ table_of l' → IsTableOf seen may_leave file first table disk' end'
  table_on file disk disk' end end' l l' table tells o (inl (same, there, still)) is = record {
    gives = record {
      deeds = o.deeds;
      fit = o.fit;
      stands = o.stands;
      kept = o.deeds;
      kept_is = inl refl;
      goes_on = going_on o.deeds l' table (still_folds o.deeds l l' still o.folds) is;
    };
    rests = subst (λ (z : D × ℕ). FileRests seen may_leave z.0 z.1 o.deeds) (λ i. (sym same i, sym there i)) o.rests;
  }
  table_on file disk disk' end end' l l' table tells o (inr (leads, rests)) is = record {
    gives = record {
      deeds = o.deeds;
      fit = o.fit;
      stands = o.stands;
      kept = o.deeds ++ Begin first ∷ [];
      kept_is = inr refl;
      goes_on = going_on (o.deeds ++ Begin first ∷ []) l' table (folds_push Sifts nothing o.deeds l (Begin first) l' o.folds (tt, leads)) is;
    };
    rests = rests o.deeds tells o.rests;
  }

-- ---- where it isn't opened

pub no_damage : (file : List ℕ) (fault : OpenFault) → IsOfNumber fault → DamagedIn Sifts file fault
no_damage file ReadFault un = tt
no_damage file WriteFault un = tt
no_damage file (Damaged place) un = absurd un
no_damage file Memory un = tt

pub not_of_file : (fault : OpenFault) → IsOfNumber fault → IsOfFile fault → ⊥
not_of_file ReadFault un of_file = un
not_of_file WriteFault un of_file = of_file
not_of_file (Damaged place) un of_file = un
not_of_file Memory un of_file = of_file

pub leaves_file : (fault : OpenFault) → IsOfFile fault → LeavesFile fault
leaves_file ReadFault of_file = tt
leaves_file WriteFault of_file = of_file
leaves_file (Damaged place) of_file = tt
leaves_file Memory of_file = tt

-- whatever is counted of a journal
pub counted_back : {D : Type 0} (faults : D → ℕ) (fault : OpenFault) (disk left : D) (before mid : ℕ) → mid ≡ before → left ≡ disk
    → CountsOpening {X = Unit {0}} (Err fault) mid (faults disk) → CountsBack {J = ℕ} (λ n. n) faults (Err (fault, left)) before
counted_back faults ReadFault disk left before mid same is counts = subst (λ (z : ℕ × ℕ). HasRisen z.0 z.1) (λ i. (same i, ap faults (sym is) i)) counts
counted_back faults WriteFault disk left before mid same is counts = subst (λ (z : ℕ × ℕ). HasRisen z.0 z.1) (λ i. (same i, ap faults (sym is) i)) counts
counted_back faults (Damaged place) disk left before mid same is counts = ap faults is ∙ counts ∙ same
counted_back faults Memory disk left before mid same is counts = ap faults is ∙ counts ∙ same

-- ---- what a crash leaves

-- where no number was given, that they begin with this one is possible
may_begin : (n : ℕ) (deeds : List Deed) (l : Ledger) → nat_lt 0 l.issued ≡ false → 1 ≤ n → n ≤ most_first → FoldsTo Sifts nothing deeds l → MayBegin n deeds
may_begin n deeds l none some within folds =
    (record l { first = n }, folds_push Sifts nothing deeds l (Begin n) (record l { first = n }) folds (tt, begins_so n l none some within))

module _ {D : Type 0} (may_leave : D → List ℕ → Type 0) (moment : D → ℕ) (left_since : D → ℕ → List ℕ → Type 0) (first : ℕ) where
  -- a journal that is at rest, and of which nothing was called
  pub stays_so : (seen : D → List ℕ) (disk : D) (end : ℕ) (deeds : List Deed) → ((c : List ℕ) → left_since disk (moment disk) c → may_leave disk c) → FileRests seen may_leave disk end deeds
      → LeavesOnly moment left_since disk disk (StandsOrBegins first deeds)
  stays_so seen disk end deeds only rests =
      started moment left_since disk (StandsOrBegins first deeds) (λ c left. inl (inl (record { gate = rests.gate; after = []; shut = rests.shut; is = rests.durable c (only c left) ∙ rests.file })))

  -- the number was put, or wasn't, where none was given
  pub puts_so : (a b : D) (deeds : List Deed) (l : Ledger) → nat_lt 0 l.issued ≡ false → 1 ≤ first → first ≤ most_first → FoldsTo Sifts nothing deeds l → LeavesOnly moment left_since a b (IsBeforeOrAfter deeds (Begin first))
      → LeavesOnly moment left_since a b (StandsOrBegins first deeds)
  puts_so a b deeds l none some within folds puts =
      weaker moment left_since a b (IsBeforeOrAfter deeds (Begin first)) (StandsOrBegins first deeds) puts
      (λ c left. ⊎_elim {C = StandsOrBegins first deeds c} (λ before. inl before) (λ behind. inr (may_begin first deeds l none some within folds, behind)) left)

  module _ (deeds : List Deed) (a : D) where
    abbrev WasOrStands : List ℕ → Type 0
    WasOrStands c = may_leave a c ⊎ FileStandsFor deeds c

    abbrev pub WasOrBegins : List ℕ → Type 0
    WasOrBegins c = may_leave a c ⊎ StandsOrBegins first deeds c

    begins_or_was : (c : List ℕ) → WasOrStands c → WasOrBegins c
    begins_or_was c left = ⊎_elim {C = WasOrBegins c} (λ was. inl was) (λ stands. inr (inl stands)) left

    -- one that was opened, and then put one effect more
    pub opened_on : (seen : D → List ℕ) (b e : D) (end : ℕ) (l : Ledger) (file : List ℕ) → AllFit deeds → FileStandsFor deeds file → IsOpened Sifts seen may_leave file b end l → LeavesOnly moment left_since a b WasOrStands
        → (FoldsTo Sifts nothing deeds l → LeavesOnly moment left_since b e (StandsOrBegins first deeds)) → LeavesOnly moment left_since a e WasOrBegins
    opened_on seen b e end l file fit stands o opens puts =
        let folds : FoldsTo Sifts nothing deeds l = subst (λ (ds : List Deed). FoldsTo Sifts nothing ds l) (sym (stand_same deeds o.deeds file fit o.fit stands o.stands)) o.folds in
        runs_on moment left_since a b e WasOrStands (StandsOrBegins first deeds) WasOrBegins opens (puts folds) begins_or_was (λ c now. inr now)

    -- or wasn't opened
    pub not_opened : (b : D) → LeavesOnly moment left_since a b WasOrStands → LeavesOnly moment left_since a b WasOrBegins
    not_opened b opens = weaker moment left_since a b WasOrStands WasOrBegins opens begins_or_was
