-- Each document of a table that goes on from effects was brought by one of them, and accepted.
use Rattle.std.proofs.Common.{◌≡◌, ℕ, ◌+◌, nat_eq, Bool, true, false, cond, if◌then◌else◌, List, [], ◌∷◌, ◌++◌, map, Option, Some, None, refl, sym, ap, ◌∙◌, subst, append_assoc, append-nil}
use Rattle.std.specs.Map.{set_value, remove_entry}
use Rattle.effects.specs.Records.{Deed, Issue, Send, Enter, Finish, Killed, Marked, GivenUp, Begin}
use Rattle.effects.specs.Fold.{Stage, Given, Sent, Asked, Over, Stopped, Ledger, nothing, next_of, stage_of, osil_in}
use Rattle.effects.specs.Fold as fold
use Rattle.job_table.specs.declared.job.Phase.{Phase}
use Rattle.job_table.specs.declared.job.Phase.TheVariants.{Finished}
use Rattle.job_table.specs.Jobs.{Register, phase_of}
use Rattle.job_table.specs.Remade.{phase_from, table_of}
use Rattle.job_table.proofs.JobLists.{same_number}
use Rattle.job_journal.specs.Opening.{IsAcceptedFor, StepsTo, FoldsTo}
use Rattle.job_journal.proofs.Scans.{folds_push}
use Rattle.job_solver.specs.Sieves.{Sifts}
use Rattle.job_solver.specs.Openings.{IsBrought, TableGoesOn}

abbrev Held : Type 0
Held = ℕ × Stage

-- a document of a job was brought by these
abbrev Has : List Deed → ℕ → Stage → Type 0
Has deeds n (Over (Some document)) = IsBrought n document deeds
Has deeds n _ = Unit {0}

abbrev AllHave : List Deed → List Held → Type 0
AllHave deeds [] = Unit {0}
AllHave deeds (held ∷ jobs) = Has deeds held.0 held.1 × AllHave deeds jobs

-- ---- one effect more

module _ (deeds : List Deed) (d : Deed) where
  has_more : (n : ℕ) (s : Stage) → Has deeds n s → Has (deeds ++ d ∷ []) n s
  has_more n (Over (Some document)) b = record {
    until = b.until;
    since = b.since ++ d ∷ [];
    are = ap (λ (l : List Deed). l ++ d ∷ []) b.are ∙ append_assoc b.until (Finish n (Some document) ∷ b.since) (d ∷ []);
    ledger = b.ledger;
    folds = b.folds;
    osil = b.osil;
    text = b.text;
    accepted = b.accepted;
  }
  has_more n _ b = tt

  all_more : (jobs : List Held) → AllHave deeds jobs → AllHave (deeds ++ d ∷ []) jobs
  all_more [] all = tt
  all_more (e ∷ es) all = (has_more e.0 e.1 all.0, all_more es all.1)

module _ (deeds : List Deed) where
  all_with : (n : ℕ) (s : Stage) (jobs : List Held) → Has deeds n s → AllHave deeds jobs → AllHave deeds (set_value (nat_eq n) jobs s)
  all_with n s [] has all = tt
  all_with n s (e ∷ es) has all = at_test (all_with n s es has all.1) (nat_eq n e.0) refl
    where
      at_test : AllHave deeds (set_value (nat_eq n) es s) → (b : Bool) → nat_eq n e.0 ≡ b → AllHave deeds (if b then (e.0, s) ∷ es else e ∷ set_value (nat_eq n) es s)
      at_test more true is = (subst (λ (k : ℕ). Has deeds k s) (same_number n e.0 is) has, all.1)
      at_test more false is = (all.0, more)

  all_without : (n : ℕ) (jobs : List Held) → AllHave deeds jobs → AllHave deeds (remove_entry (nat_eq n) jobs)
  all_without n [] all = tt
  all_without n (e ∷ es) all = at_test (all_without n es all.1) (nat_eq n e.0)
    where
      at_test : AllHave deeds (remove_entry (nat_eq n) es) → (b : Bool) → AllHave deeds (if b then es else e ∷ remove_entry (nat_eq n) es)
      at_test more true = all.1
      at_test more false = (all.0, more)

  all_and : (n : ℕ) (s : Stage) (jobs : List Held) → Has deeds n s → AllHave deeds jobs → AllHave deeds (jobs ++ (n, s) ∷ [])
  all_and n s [] has all = (has, tt)
  all_and n s (e ∷ es) has all = (all.0, all_and n s es has all.1)

-- ---- what each effect leaves

module _ (deeds : List Deed) (l mid : Ledger) (all : AllHave deeds l.jobs) where
  abbrev Keeps : Type 0
  Keeps = AllHave deeds mid.jobs

  kept_as : (x : Ledger) → AllHave deeds x.jobs → ◌≡◌ {A = Option Ledger} (Some x) (Some mid) → Keeps
  kept_as x have is = let same : x ≡ mid = cc in subst (λ (y : Ledger). AllHave deeds y.jobs) same have

  kept_moved : (n : ℕ) (s : Stage) → Has deeds n s → ◌≡◌ {A = Option Ledger} (Some (fold.moved n s l)) (Some mid) → Keeps
  kept_moved n s has is = kept_as (fold.moved n s l) (all_with deeds n s l.jobs has all) is

  kept_forgotten : (n : ℕ) → ◌≡◌ {A = Option Ledger} (Some (fold.forgotten n l)) (Some mid) → Keeps
  kept_forgotten n is = kept_as (fold.forgotten n l) (all_without deeds n l.jobs all) is

  kept_if : (x : Ledger) (b : Bool) → AllHave deeds x.jobs → (if b then None else Some x) ≡ Some mid → Keeps
  kept_if x true have is = cc
  kept_if x false have is = kept_as x have is

  kept_new : (s : Stage) → Has deeds (next_of l) s → fold.with_job s l ≡ Some mid → Keeps
  kept_new s has is = kept_if (record l { jobs = l.jobs ++ (next_of l, s) ∷ []; issued = l.issued + 1 }) _ (all_and deeds (next_of l) s l.jobs has all) is

  kept_begun : (n : ℕ) (b : Bool) → (if b then Some (record l { first = n }) else None) ≡ Some mid → Keeps
  kept_begun n true is = kept_as (record l { first = n }) all is
  kept_begun n false is = cc

  kept_sent : (n : ℕ) (osil osol : List ℕ) (q : Option Stage) → fold.sends n osil osol q l ≡ Some mid → Keeps
  kept_sent n osil osol (Some Given) is = kept_moved n (Sent osil osol) tt is
  kept_sent n osil osol _ is = cc

  kept_over : (n : ℕ) (document : Option (List ℕ)) → Has deeds n (Over document) → (q : Option Stage) → fold.finishes n document q l ≡ Some mid → Keeps
  kept_over n document has (Some (Sent osil osol)) is = kept_moved n (Over document) has is
  kept_over n document has (Some (Asked osil osol)) is = kept_moved n (Over document) has is
  kept_over n document has _ is = cc

  kept_stopped : (n : ℕ) (q : Option Stage) → fold.kills n q l ≡ Some mid → Keeps
  kept_stopped n (Some Given) is = kept_moved n Stopped tt is
  kept_stopped n (Some (Sent osil osol)) is = kept_moved n Stopped tt is
  kept_stopped n _ is = cc

  kept_asked : (n : ℕ) (q : Option Stage) → fold.marks n q l ≡ Some mid → Keeps
  kept_asked n (Some (Sent osil osol)) is = kept_moved n (Asked osil osol) tt is
  kept_asked n _ is = cc

  kept_given_up : (n : ℕ) (q : Option Stage) → fold.gives_up n q l ≡ Some mid → Keeps
  kept_given_up n (Some Stopped) is = kept_forgotten n is
  kept_given_up n (Some (Over document)) is = kept_forgotten n is
  kept_given_up n (Some (Asked osil osol)) is = kept_forgotten n is
  kept_given_up n _ is = cc

-- a finish brings a document that is accepted
brought : (deeds : List Deed) (l : Ledger) (n : ℕ) (document : List ℕ) → FoldsTo Sifts nothing deeds l → (o : Option (List ℕ)) → osil_in (stage_of n l) ≡ o → IsAcceptedFor Sifts o document
    → IsBrought n document (deeds ++ Finish n (Some document) ∷ [])
brought deeds l n document folds None is accepted = absurd accepted
brought deeds l n document folds (Some osil) is accepted =
    record { until = deeds; since = []; are = refl; ledger = l; folds = folds; osil = osil; text = is; accepted = accepted }

step_keeps : (deeds : List Deed) (d : Deed) (l mid : Ledger) → FoldsTo Sifts nothing deeds l → AllHave deeds l.jobs → StepsTo Sifts d l (Some mid) → AllHave (deeds ++ d ∷ []) mid.jobs
step_keeps deeds d l mid folds all steps = by d refl steps
  where
    more : AllHave (deeds ++ d ∷ []) l.jobs
    more = all_more deeds d l.jobs all

    by : (e : Deed) → d ≡ e → StepsTo Sifts e l (Some mid) → AllHave (deeds ++ d ∷ []) mid.jobs
    by Issue same s = kept_new (deeds ++ d ∷ []) l mid more Given tt s.1
    by (Send n osil osol) same s = kept_sent (deeds ++ d ∷ []) l mid more n osil osol (stage_of n l) s.1
    by (Enter osil osol) same s = kept_new (deeds ++ d ∷ []) l mid more (Sent osil osol) tt s.1
    by (Finish n None) same s = kept_over (deeds ++ d ∷ []) l mid more n None tt (stage_of n l) s.1
    by (Finish n (Some document)) same s =
        kept_over (deeds ++ d ∷ []) l mid more n (Some document)
        (subst (λ (e : Deed). IsBrought n document (deeds ++ e ∷ [])) (sym same) (brought deeds l n document folds (osil_in (stage_of n l)) refl s.0)) (stage_of n l) s.1
    by (Killed n) same s = kept_stopped (deeds ++ d ∷ []) l mid more n (stage_of n l) s.1
    by (Marked n) same s = kept_asked (deeds ++ d ∷ []) l mid more n (stage_of n l) s.1
    by (GivenUp n) same s = kept_given_up (deeds ++ d ∷ []) l mid more n (stage_of n l) s.1
    by (Begin n) same s = kept_begun (deeds ++ d ∷ []) l mid more n _ s.1

-- and all effects, one after another
fold_keeps : (deeds rest : List Deed) (l new : Ledger) → FoldsTo Sifts nothing deeds l → AllHave deeds l.jobs → FoldsTo Sifts l rest new → AllHave (deeds ++ rest) new.jobs
fold_keeps deeds [] l new folds all same =
    subst (λ (m : Ledger). AllHave (deeds ++ []) m.jobs) (sym same) (subst (λ (ds : List Deed). AllHave ds l.jobs) (sym (append-nil deeds)) all)
fold_keeps deeds (d ∷ rest) l new folds all (mid, steps, later) =
    subst (λ (ds : List Deed). AllHave ds new.jobs) (append_assoc deeds (d ∷ []) rest)
    (fold_keeps (deeds ++ d ∷ []) rest mid new (folds_push Sifts nothing deeds l d mid folds steps) (step_keeps deeds d l mid folds all steps) later)

-- ---- the table

document_at : (deeds : List Deed) (n : ℕ) (s : Stage) (document : List ℕ) → Has deeds n s → ◌≡◌ {A = Option Phase} (Some (phase_from s)) (Some (Finished (Some document))) → IsBrought n document deeds
document_at deeds n (Over (Some held)) document has is = let same : held ≡ document = cc in subst (λ (text : List ℕ). IsBrought n text deeds) same has
document_at deeds n _ document has is = cc

document_in : (deeds : List Deed) (jobs : List Held) (n : ℕ) (document : List ℕ) → AllHave deeds jobs → phase_of n (map (λ held. (held.0, phase_from held.1)) jobs) ≡ Some (Finished (Some document))
    → IsBrought n document deeds
document_in deeds [] n document all is = cc
document_in deeds (e ∷ es) n document all is = by (document_in deeds es n document all.1) (nat_eq n e.0) refl is
  where
    by : (phase_of n (map (λ (held : Held). (held.0, phase_from held.1)) es) ≡ Some (Finished (Some document)) → IsBrought n document deeds) → (b : Bool) → nat_eq n e.0 ≡ b
        → cond b (Some (phase_from e.1)) (phase_of n (map (λ (held : Held). (held.0, phase_from held.1)) es)) ≡ Some (Finished (Some document)) → IsBrought n document deeds
    by later true same here = subst (λ (k : ℕ). IsBrought k document deeds) (sym (same_number n e.0 same)) (document_at deeds e.0 e.1 document all.0 here)
    by later false same here = later here

-- the table that goes on
pub going_on : (deeds : List Deed) (l : Ledger) (table : Register) → FoldsTo Sifts nothing deeds l → table ≡ table_of l → TableGoesOn deeds table
going_on deeds l table folds is = record {
  ledger = l;
  folds = folds;
  table_is = is;
  documents = λ n document there. document_in deeds l.jobs n document (fold_keeps [] deeds nothing l refl tt folds) (subst (λ (r : Register). phase_of n r.jobs ≡ Some (Finished (Some document))) is there);
}
