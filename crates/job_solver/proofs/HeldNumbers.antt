-- The numbers of jobs that effects leave, and those that possible effects name, are of 64 bits.
use Rattle.std.proofs.Common.{◌≡◌, ℕ, ◌+◌, ◌^◌, ◌<◌, ◌≤◌, nat_eq, nat_le, nat_lt, ◌||◌, ◌&&◌, Bool, true, false, if◌then◌else◌, List, [], ◌∷◌, ◌++◌, length, Option, Some, None, refl, sym, subst, arith}
use Rattle.std.specs.Map.{lookup, set_value, remove_entry}
use Rattle.std.proofs.lemmas.Bool.Decides.{nat_tests}
use Rattle.effects.specs.Limits.{most_jobs, last_number, most_first}
use Rattle.effects.specs.Records.{Deed, Issue, Send, Enter, Finish, Killed, Marked, GivenUp, Begin, Fits, FitsPaper, most_text}
use Rattle.effects.specs.Fold.{Stage, Given, Sent, Asked, Over, Stopped, Ledger, next_of, stage_of, with_job, moved, forgotten, begins, sends, finishes, kills, marks, gives_up, after}
use Rattle.job_table.proofs.JobLists.{same_number}

abbrev Held : Type 0
Held = ℕ × Stage

abbrev pub AreNumbered : List Held → Type 0
AreNumbered [] = Unit {0}
AreNumbered (held ∷ jobs) = (held.0 < 2 ^ 64) × AreNumbered jobs

-- the number that the effect names
abbrev pub IsNumbered : Deed → Type 0
IsNumbered (Send n osil osol) = n < 2 ^ 64
IsNumbered (Finish n d) = n < 2 ^ 64
IsNumbered (Killed n) = n < 2 ^ 64
IsNumbered (Marked n) = n < 2 ^ 64
IsNumbered (GivenUp n) = n < 2 ^ 64
IsNumbered (Begin n) = n < 2 ^ 64
IsNumbered _ = Unit {0}

-- no text of it is too long
abbrev pub HasShortTexts : Deed → Type 0
HasShortTexts (Send n osil osol) = (length osil ≤ most_text) × (length osol ≤ most_text)
HasShortTexts (Enter osil osol) = (length osil ≤ most_text) × (length osol ≤ most_text)
HasShortTexts (Finish n d) = FitsPaper d
HasShortTexts _ = Unit {0}

pub fits_so : (d : Deed) → IsNumbered d → HasShortTexts d → Fits d
fits_so Issue number short = tt
fits_so (Send n osil osol) number short = (number, short.0, short.1)
fits_so (Enter osil osol) number short = short
fits_so (Finish n d) number short = (number, short)
fits_so (Killed n) number short = number
fits_so (Marked n) number short = number
fits_so (GivenUp n) number short = number
fits_so (Begin n) number short = number

-- ---- lists of jobs

held_numbered : (n : ℕ) (s : Stage) (jobs : List Held) → AreNumbered jobs → lookup (nat_eq n) jobs ≡ Some s → n < 2 ^ 64
held_numbered n s [] all is = absurd (cc)
held_numbered n s (held ∷ jobs) all is = by (nat_eq n held.0) refl (held_numbered n s jobs all.1) is
  where
    by : (b : Bool) → nat_eq n held.0 ≡ b → (lookup (nat_eq n) jobs ≡ Some s → n < 2 ^ 64) → (if b then Some held.1 else lookup (nat_eq n) jobs) ≡ Some s → n < 2 ^ 64
    by true same later here = subst (λ (k : ℕ). k < 2 ^ 64) (sym (same_number n held.0 same)) all.0
    by false same later here = later here

set_numbered : (n : ℕ) (s : Stage) (jobs : List Held) → AreNumbered jobs → AreNumbered (set_value (nat_eq n) jobs s)
set_numbered n s [] all = tt
set_numbered n s (held ∷ jobs) all = by (set_numbered n s jobs all.1) (nat_eq n held.0)
  where
    by : AreNumbered (set_value (nat_eq n) jobs s) → (b : Bool) → AreNumbered (if b then (held.0, s) ∷ jobs else held ∷ set_value (nat_eq n) jobs s)
    by later true = all
    by later false = (all.0, later)

removed_numbered : (n : ℕ) (jobs : List Held) → AreNumbered jobs → AreNumbered (remove_entry (nat_eq n) jobs)
removed_numbered n [] all = tt
removed_numbered n (held ∷ jobs) all = by (removed_numbered n jobs all.1) (nat_eq n held.0)
  where
    by : AreNumbered (remove_entry (nat_eq n) jobs) → (b : Bool) → AreNumbered (if b then jobs else held ∷ remove_entry (nat_eq n) jobs)
    by later true = all.1
    by later false = (all.0, later)

pushed_numbered : (n : ℕ) (s : Stage) (jobs : List Held) → n < 2 ^ 64 → AreNumbered jobs → AreNumbered (jobs ++ (n, s) ∷ [])
pushed_numbered n s [] low all = (low, tt)
pushed_numbered n s (held ∷ jobs) low all = (all.0, pushed_numbered n s jobs low all.1)

-- ---- effects

module _ (l new : Ledger) (all : AreNumbered l.jobs) where
  leaves : (x : Ledger) → AreNumbered x.jobs → ◌≡◌ {A = Option Ledger} (Some x) (Some new) → AreNumbered new.jobs
  leaves x are is = let same : x ≡ new = cc in subst (λ (y : Ledger). AreNumbered y.jobs) same are

  -- of a job that is held
  abbrev Keeps : ℕ → Type 0
  Keeps n = (n < 2 ^ 64) × AreNumbered new.jobs

  moves : (n : ℕ) (s y : Stage) → stage_of n l ≡ Some y → ◌≡◌ {A = Option Ledger} (Some (moved n s l)) (Some new) → Keeps n
  moves n s y held is = (held_numbered n y l.jobs all held, leaves (moved n s l) (set_numbered n s l.jobs all) is)

  forgets : (n : ℕ) (y : Stage) → stage_of n l ≡ Some y → ◌≡◌ {A = Option Ledger} (Some (forgotten n l)) (Some new) → Keeps n
  forgets n y held is = (held_numbered n y l.jobs all held, leaves (forgotten n l) (removed_numbered n l.jobs all) is)

  adds : (s : Stage) → with_job s l ≡ Some new → AreNumbered new.jobs
  adds s is = by (nat_le most_jobs (length l.jobs)) (nat_lt last_number (next_of l)) refl is
    where
      low : nat_lt last_number (next_of l) ≡ false → next_of l < 2 ^ 64
      low e = grind (arith, nat_tests)

      by : (b c : Bool) → nat_lt last_number (next_of l) ≡ c → (if b || c then None else Some (record l { jobs = l.jobs ++ (next_of l, s) ∷ []; issued = l.issued + 1 })) ≡ Some new → AreNumbered new.jobs
      by true c e is = absurd (cc)
      by false true e is = absurd (cc)
      by false false e is = leaves _ (pushed_numbered (next_of l) s l.jobs (low e) all) is

  begun : (n : ℕ) → begins n l ≡ Some new → Keeps n
  begun n is = by (nat_eq l.issued 0) (nat_le 1 n) (nat_le n most_first) refl is
    where
      low : nat_le n most_first ≡ true → n < 2 ^ 64
      low e = grind (arith, nat_tests)

      by : (a b c : Bool) → nat_le n most_first ≡ c → (if a && b && c then Some (record l { first = n }) else None) ≡ Some new → Keeps n
      by false b c e is = absurd (cc)
      by true false c e is = absurd (cc)
      by true true false e is = absurd (cc)
      by true true true e is = (low e, leaves (record l { first = n }) all is)

  sent : (n : ℕ) (a b : List ℕ) (q : Option Stage) → stage_of n l ≡ q → sends n a b q l ≡ Some new → Keeps n
  sent n a b (Some Given) held is = moves n (Sent a b) Given held is
  sent n a b _ held is = absurd (cc)

  over : (n : ℕ) (d : Option (List ℕ)) (q : Option Stage) → stage_of n l ≡ q → finishes n d q l ≡ Some new → Keeps n
  over n d (Some (Sent a b)) held is = moves n (Over d) (Sent a b) held is
  over n d (Some (Asked a b)) held is = moves n (Over d) (Asked a b) held is
  over n d _ held is = absurd (cc)

  killed : (n : ℕ) (q : Option Stage) → stage_of n l ≡ q → kills n q l ≡ Some new → Keeps n
  killed n (Some Given) held is = moves n Stopped Given held is
  killed n (Some (Sent a b)) held is = moves n Stopped (Sent a b) held is
  killed n _ held is = absurd (cc)

  marked : (n : ℕ) (q : Option Stage) → stage_of n l ≡ q → marks n q l ≡ Some new → Keeps n
  marked n (Some (Sent a b)) held is = moves n (Asked a b) (Sent a b) held is
  marked n _ held is = absurd (cc)

  given_up : (n : ℕ) (q : Option Stage) → stage_of n l ≡ q → gives_up n q l ≡ Some new → Keeps n
  given_up n (Some Stopped) held is = forgets n Stopped held is
  given_up n (Some (Over d)) held is = forgets n (Over d) held is
  given_up n (Some (Asked a b)) held is = forgets n (Asked a b) held is
  given_up n _ held is = absurd (cc)

  pub numbered_after : (d : Deed) → after d l ≡ Some new → IsNumbered d × AreNumbered new.jobs
  numbered_after Issue is = (tt, adds Given is)
  numbered_after (Send n a b) is = sent n a b (stage_of n l) refl is
  numbered_after (Enter a b) is = (tt, adds (Sent a b) is)
  numbered_after (Finish n d) is = over n d (stage_of n l) refl is
  numbered_after (Killed n) is = killed n (stage_of n l) refl is
  numbered_after (Marked n) is = marked n (stage_of n l) refl is
  numbered_after (GivenUp n) is = given_up n (stage_of n l) refl is
  numbered_after (Begin n) is = begun n is
