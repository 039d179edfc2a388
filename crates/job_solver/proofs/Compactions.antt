-- A journal that is written again gives the same table.
use Rattle.std.proofs.Common.{◌≡◌, ◌⊎◌, inl, inr, ⊎_elim, ℕ, ◌≤◌, nat_eq, nat_le, nat_lt, Bool, true, false, ◌&&◌, cond, if◌then◌else◌, List, [], ◌∷◌, ◌++◌, Some, None, refl, sym, ap, ◌∙◌, subst, arith}
use Rattle.std.specs.Prelude.{Result, Ok, Err, OnOk}
use Rattle.std.proofs.lemmas.Bool.Decides.{nat_tests}
use Rattle.effects.specs.Limits.{most_first}
use Rattle.effects.specs.Records.{Deed, Begin, AllFit}
use Rattle.effects.specs.Fold.{Ledger, nothing, begins}
use Rattle.disks.specs.declared.disk.Disk.{Ghosts}
use Rattle.disks.specs.Disks.{LeavesOnly}
use Rattle.job_table.specs.Jobs.{Register}
use Rattle.job_table.specs.Remade.{table_of}
use Rattle.job_journal.specs.declared.faults.CompactFault.{CompactFault}
use Rattle.job_journal.specs.Journal.{FileRests, FileStandsFor}
use Rattle.job_journal.specs.Opening.{StepsTo, FoldsTo}
use Rattle.job_journal.specs.Compacting.{IsShortOf}
use Rattle.job_journal.proofs.SoleMeanings.{stand_same, weaker}
use Rattle.job_journal.proofs.SoundFiles.{undamaged}
use Rattle.job_solver.specs.Sieves.{Sifts}
use Rattle.job_solver.specs.Openings.{OpensAs}
use Rattle.job_solver.specs.Compactions.{BeginsAsAsked, GivesSameTable, IsWrittenAgain}
use Rattle.job_solver.proofs.Openings.{some_same}

-- ---- effects lead to one ledger

folds_once : (start : Ledger) (deeds : List Deed) (l m : Ledger) → FoldsTo Sifts start deeds l → FoldsTo Sifts start deeds m → l ≡ m
folds_once start [] l m one other = one ∙ sym other
folds_once start (d ∷ deeds) l m (mid, steps, rest) (mid', steps', rest') =
    let same : mid ≡ mid' = some_same mid mid' (sym steps.1 ∙ steps'.1) in
    folds_once mid deeds l m rest (subst (λ (k : Ledger). FoldsTo Sifts k deeds m) (sym same) rest')

-- the last of them is made in the ledger that those before lead to
folds_before : (start : Ledger) (deeds : List Deed) (d : Deed) (m : Ledger) → FoldsTo Sifts start (deeds ++ d ∷ []) m → (l : Ledger) × FoldsTo Sifts start deeds l × StepsTo Sifts d l (Some m)
folds_before start [] d m (mid, steps, same) = (start, refl, subst (λ (k : Ledger). StepsTo Sifts d start (Some k)) (sym same) steps)
folds_before start (e ∷ deeds) d m (mid, steps, rest) =
    let before = folds_before mid deeds d m rest in (before.0, (mid, steps, before.1), before.2)

-- ---- with which number numbers begin

none_given : (issued : ℕ) → nat_eq issued 0 ≡ true → nat_lt 0 issued ≡ false
none_given issued is = grind (arith, nat_tests)

some_given : (issued : ℕ) → 1 ≤ issued → nat_lt 0 issued ≡ true
some_given issued is = grind (arith, nat_tests)

-- they do so where none was given
begun_at : (n : ℕ) (l m : Ledger) → begins n l ≡ Some m → (nat_lt 0 l.issued ≡ false) × (m ≡ record l { first = n })
begun_at n l m is = by (nat_eq l.issued 0) (nat_le 1 n) (nat_le n most_first) refl is
  where
    by : (new least most : Bool) → nat_eq l.issued 0 ≡ new → (if new && least && most then Some (record l { first = n }) else None) ≡ Some m → (nat_lt 0 l.issued ≡ false) × (m ≡ record l { first = n })
    by true true true new e = (none_given l.issued new, sym (some_same (record l { first = n }) m e))
    by true true false new e = absurd cc
    by true false most new e = absurd cc
    by false least most new e = absurd cc

module _ (asked : ℕ) (l : Ledger) where
  -- the table that goes on from a ledger, where numbers begin with the one that was asked for if none was given
  abbrev asked_if : Bool → Register
  asked_if given = cond given (table_of l) (table_of (record l { first = asked }))

  abbrev asked_table : Register
  asked_table = asked_if (nat_lt 0 l.issued)

  -- it goes on from the ledger as it is
  as_it_is : (table : Register) → table ≡ table_of l → BeginsAsAsked asked (table_of l) → table ≡ asked_table
  as_it_is table is (inl given) = is ∙ sym (ap asked_if (some_given l.issued given))
  as_it_is table is (inr first) = is ∙ sym (both (nat_lt 0 l.issued))
    where
      both : (given : Bool) → asked_if given ≡ table_of l
      both true = refl
      both false = ap (λ (n : ℕ). table_of (record l { first = n })) (sym first)

  -- or from that with the number that was asked for
  with_first : (table : Register) (m : Ledger) → table ≡ table_of m → begins asked l ≡ Some m → table ≡ asked_table
  with_first table m is begun =
      let (none, begun_is) = begun_at asked l m begun in is ∙ ap table_of begun_is ∙ sym (ap asked_if none)

  -- so it is the same for each file that stands for effects that lead to the ledger
  given : (file : List ℕ) (table : Register) (deeds : List Deed) → AllFit deeds → FileStandsFor deeds file → FoldsTo Sifts nothing deeds l → OpensAs file asked table → BeginsAsAsked asked table → table ≡ asked_table
  given file table deeds fit stands folds opens begins_so = ⊎_elim {C = table ≡ asked_table} as_kept as_begun opens.kept_is
    where
      same : opens.deeds ≡ deeds
      same = stand_same opens.deeds deeds file opens.fit fit opens.stands stands

      as_kept : opens.kept ≡ opens.deeds → table ≡ asked_table
      as_kept kept =
          let m = opens.goes_on.ledger in
          let still : m ≡ l = folds_once nothing deeds m l (subst (λ (ds : List Deed). FoldsTo Sifts nothing ds m) (kept ∙ same) opens.goes_on.folds) folds in
          let is : table ≡ table_of l = opens.goes_on.table_is ∙ ap table_of still in
          as_it_is table is (subst (λ (r : Register). BeginsAsAsked asked r) is begins_so)

      as_begun : opens.kept ≡ opens.deeds ++ Begin asked ∷ [] → table ≡ asked_table
      as_begun more =
          let m = opens.goes_on.ledger in
          let before = folds_before nothing deeds (Begin asked) m (subst (λ (ds : List Deed). FoldsTo Sifts nothing ds m) (more ∙ ap (λ (ds : List Deed). ds ++ Begin asked ∷ []) same) opens.goes_on.folds) in
          with_first table m opens.goes_on.table_is (subst (λ (k : Ledger). begins asked k ≡ Some m) (folds_once nothing deeds before.0 l before.1 folds) before.2.1)

-- ---- what is written again

pub gives_same : (file again : List ℕ) (l : Ledger) (short : List Deed) → IsShortOf Sifts file l short → FileStandsFor short again → GivesSameTable again file
gives_same file again l short is stands = record {
  undamaged = λ place damaged. undamaged Sifts again place short l damaged is.fits is.same stands;
  same = λ asked table of_file gives gives_file begins_so file_begins.
      given asked l again table short is.fits stands is.same gives begins_so ∙ sym (given asked l file of_file is.deeds is.fit is.stands is.folds gives_file file_begins);
}

abbrev pub written_again : (file again : List ℕ) (l : Ledger) (short : List Deed) → IsShortOf Sifts file l short → FileStandsFor short again → IsWrittenAgain file again
written_again file again l short is stands = record { ledger = l; short = short; is = is; stands = stands; gives = gives_same file again l short is stands }

module _ {E : Type 0} (h : Ghosts E) (file : List ℕ) (l : Ledger) (new left : E) where
  -- what a crash leaves that comes before all records stand
  abbrev IsBefore : List ℕ → Type 0
  IsBefore c = h.may_leave new c ⊎ FileStandsFor [] c

  abbrev StandsShort : List ℕ → Type 0
  StandsShort c = (short : List Deed) × IsShortOf Sifts file l short × FileStandsFor short c

  -- a file at rest stands for its effects
  at_rest : (place : ℕ) (short : List Deed) → FileRests h.seen h.may_leave left place short → FileStandsFor short (h.seen left)
  at_rest place short rests = inl (record { gate = rests.gate; after = []; shut = rests.shut; is = rests.file })

  pub rests_again : (Told : Type 0) (how : Result (Unit {0}) CompactFault)
      → OnOk how (Told → h.told new ≡ true → (short : List Deed) × IsShortOf Sifts file l short × ((place : ℕ) × FileRests h.seen h.may_leave left place short))
      → OnOk how (Told → h.told new ≡ true → (again : IsWrittenAgain file (h.seen left)) × ((place : ℕ) × FileRests h.seen h.may_leave left place again.short))
  rests_again Told (Ok done) written = λ t u.
      let (short, is, (place, rests)) = written t u in (written_again file (h.seen left) l short is (at_rest place short rests), (place, rests))
  rests_again Told (Err fault) written = tt

  pub leaves_again : LeavesOnly h.moment h.left_since new left (λ c. IsBefore c ⊎ StandsShort c) → LeavesOnly h.moment h.left_since new left (λ c. IsBefore c ⊎ IsWrittenAgain file c)
  leaves_again run = weaker h.moment h.left_since new left (λ c. IsBefore c ⊎ StandsShort c) (λ c. IsBefore c ⊎ IsWrittenAgain file c) run all_again
    where
      all_again : (c : List ℕ) → IsBefore c ⊎ StandsShort c → IsBefore c ⊎ IsWrittenAgain file c
      all_again c (inl before) = inl before
      all_again c (inr (short, is, stands)) = inr (written_again file c l short is stands)
