-- What effects leave, and what effects see of a table that went on from it: a job that was asked to stop before is killed in the table. What is possible in the second is possible in the first.
use Rattle.std.proofs.Common.{◌≡◌, ◌⊎◌, inl, inr, ℕ, suc, ◌+◌, nat_eq, nat_le, nat_lt, ◌||◌, ◌&&◌, Bool, true, false, if◌then◌else◌, List, [], ◌∷◌, ◌++◌, length, map, Option, Some, None, refl, sym, ap, subst}
use Rattle.std.specs.Map.{lookup, set_value, remove_entry}
use Rattle.effects.specs.Limits.{most_jobs, last_number, most_first}
use Rattle.effects.specs.Records.{Deed, Issue, Send, Enter, Finish, Killed, Marked, GivenUp, Begin}
use Rattle.effects.specs.Fold.{Stage, Given, Sent, Asked, Over, Stopped, Ledger, next_of, stage_of, with_job, moved, forgotten, begins, sends, finishes, kills, marks, gives_up, after}
use Rattle.job_table.specs.Plans.{stage, seen_as, ledger_of}
use Rattle.job_table.specs.Remade.{phase_from, table_of}

abbrev Held : Type 0
Held = ℕ × Stage

abbrev IsAsked : Stage → Type 0
IsAsked (Asked osil osol) = Unit {0}
IsAsked _ = ⊥

abbrev pub IsLike : Stage → Stage → Type 0
IsLike x y = (x ≡ y) ⊎ (IsAsked x × (y ≡ Stopped))

abbrev pub IsLikeIn : Option Stage → Option Stage → Type 0
IsLikeIn None None = Unit {0}
IsLikeIn (Some x) (Some y) = IsLike x y
IsLikeIn _ _ = ⊥

-- the same numbers in the same order, and the stage of each is like the other
abbrev AreLike : List Held → List Held → Type 0
AreLike [] [] = Unit {0}
AreLike (a ∷ as') (b ∷ bs) = (a.0 ≡ b.0) × IsLike a.1 b.1 × AreLike as' bs
AreLike _ _ = ⊥

pub record GoesAlike (l m : Ledger) : Type 0 where
  pub first : l.first ≡ m.first
  pub issued : l.issued ≡ m.issued
  pub jobs : AreLike l.jobs m.jobs

-- ---- lists of jobs

as_many : (as' bs : List Held) → AreLike as' bs → length as' ≡ length bs
as_many [] [] like = refl
as_many [] (b ∷ bs) like = absurd like
as_many (a ∷ as') [] like = absurd like
as_many (a ∷ as') (b ∷ bs) like = ap suc (as_many as' bs like.2)

found_alike : (n : ℕ) (as' bs : List Held) → AreLike as' bs → IsLikeIn (lookup (nat_eq n) as') (lookup (nat_eq n) bs)
found_alike n [] [] like = tt
found_alike n [] (b ∷ bs) like = absurd like
found_alike n (a ∷ as') [] like = absurd like
found_alike n (a ∷ as') (b ∷ bs) like = by (nat_eq n a.0) (nat_eq n b.0) (ap (λ (k : ℕ). nat_eq n k) like.0) (found_alike n as' bs like.2)
  where
    by : (x y : Bool) → x ≡ y → IsLikeIn (lookup (nat_eq n) as') (lookup (nat_eq n) bs)
        → IsLikeIn (if x then Some a.1 else lookup (nat_eq n) as') (if y then Some b.1 else lookup (nat_eq n) bs)
    by true true same later = like.1
    by false false same later = later
    by true false same later = absurd (cc)
    by false true same later = absurd (cc)

set_alike : (n : ℕ) (s : Stage) (as' bs : List Held) → AreLike as' bs → AreLike (set_value (nat_eq n) as' s) (set_value (nat_eq n) bs s)
set_alike n s [] [] like = tt
set_alike n s [] (b ∷ bs) like = absurd like
set_alike n s (a ∷ as') [] like = absurd like
set_alike n s (a ∷ as') (b ∷ bs) like = by (nat_eq n a.0) (nat_eq n b.0) (ap (λ (k : ℕ). nat_eq n k) like.0) (set_alike n s as' bs like.2)
  where
    by : (x y : Bool) → x ≡ y → AreLike (set_value (nat_eq n) as' s) (set_value (nat_eq n) bs s)
        → AreLike (if x then (a.0, s) ∷ as' else a ∷ set_value (nat_eq n) as' s) (if y then (b.0, s) ∷ bs else b ∷ set_value (nat_eq n) bs s)
    by true true same later = (like.0, inl refl, like.2)
    by false false same later = (like.0, like.1, later)
    by true false same later = absurd (cc)
    by false true same later = absurd (cc)

removed_alike : (n : ℕ) (as' bs : List Held) → AreLike as' bs → AreLike (remove_entry (nat_eq n) as') (remove_entry (nat_eq n) bs)
removed_alike n [] [] like = tt
removed_alike n [] (b ∷ bs) like = absurd like
removed_alike n (a ∷ as') [] like = absurd like
removed_alike n (a ∷ as') (b ∷ bs) like = by (nat_eq n a.0) (nat_eq n b.0) (ap (λ (k : ℕ). nat_eq n k) like.0) (removed_alike n as' bs like.2)
  where
    by : (x y : Bool) → x ≡ y → AreLike (remove_entry (nat_eq n) as') (remove_entry (nat_eq n) bs)
        → AreLike (if x then as' else a ∷ remove_entry (nat_eq n) as') (if y then bs else b ∷ remove_entry (nat_eq n) bs)
    by true true same later = like.2
    by false false same later = (like.0, like.1, later)
    by true false same later = absurd (cc)
    by false true same later = absurd (cc)

pushed_alike : (k n : ℕ) (s : Stage) (as' bs : List Held) → k ≡ n → AreLike as' bs → AreLike (as' ++ (k, s) ∷ []) (bs ++ (n, s) ∷ [])
pushed_alike k n s [] [] same like = (same, inl refl, tt)
pushed_alike k n s [] (b ∷ bs) same like = absurd like
pushed_alike k n s (a ∷ as') [] same like = absurd like
pushed_alike k n s (a ∷ as') (b ∷ bs) same like = (like.0, like.1, pushed_alike k n s as' bs same like.2)

-- ---- effects

module _ (l m : Ledger) (alike : GoesAlike l m) (m' : Ledger) where
  -- the same is possible, and leads to the like
  abbrev Follows : Option Ledger → Type 0
  Follows o = (l' : Ledger) × (o ≡ Some l') × GoesAlike l' m'

  leads : (x y : Ledger) → GoesAlike x y → ◌≡◌ {A = Option Ledger} (Some y) (Some m') → Follows (Some x)
  leads x y like is = let same : y ≡ m' = cc in (x, refl, subst (GoesAlike x) same like)

  moves_on : (n : ℕ) (s : Stage) → ◌≡◌ {A = Option Ledger} (Some (moved n s m)) (Some m') → Follows (Some (moved n s l))
  moves_on n s is = leads (moved n s l) (moved n s m) (record { first = alike.first; issued = alike.issued; jobs = set_alike n s l.jobs m.jobs alike.jobs }) is

  forgets : (n : ℕ) → ◌≡◌ {A = Option Ledger} (Some (forgotten n m)) (Some m') → Follows (Some (forgotten n l))
  forgets n is = leads (forgotten n l) (forgotten n m) (record { first = alike.first; issued = alike.issued; jobs = removed_alike n l.jobs m.jobs alike.jobs }) is

  same_next : next_of l ≡ next_of m
  same_next = λ i. alike.first i + alike.issued i

  abbrev with_new : Stage → Ledger → Ledger
  with_new s k = record k { jobs = k.jobs ++ (next_of k, s) ∷ []; issued = k.issued + 1 }

  adds : (s : Stage) → with_job s m ≡ Some m' → Follows (with_job s l)
  adds s is = by (nat_le most_jobs (length m.jobs) || nat_lt last_number (next_of m)) tests is
    where
      tests : (nat_le most_jobs (length l.jobs) || nat_lt last_number (next_of l)) ≡ (nat_le most_jobs (length m.jobs) || nat_lt last_number (next_of m))
      tests = λ i. nat_le most_jobs (as_many l.jobs m.jobs alike.jobs i) || nat_lt last_number (same_next i)

      by : (b : Bool) → (nat_le most_jobs (length l.jobs) || nat_lt last_number (next_of l)) ≡ b → (if b then None else Some (with_new s m)) ≡ Some m' → Follows (with_job s l)
      by true e is = absurd (cc)
      by false e is =
          subst Follows (ap (λ (b : Bool). if b then None else Some (with_new s l)) (sym e))
          (leads (with_new s l) (with_new s m) (record { first = alike.first; issued = ap (λ (n : ℕ). n + 1) alike.issued; jobs = pushed_alike (next_of l) (next_of m) s l.jobs m.jobs same_next alike.jobs }) is)

  -- by the stage of the job
  rows : (row : Option Stage → Ledger → Option Ledger) → (row None m ≡ Some m' → ⊥) → ((y : Stage) → row (Some y) m ≡ Some m' → Follows (row (Some y) l))
      → ((x : Stage) → IsAsked x → row (Some Stopped) m ≡ Some m' → Follows (row (Some x) l)) → (p q : Option Stage) → IsLikeIn p q → row q m ≡ Some m' → Follows (row p l)
  rows row no_job same stopped None None like is = absurd (no_job is)
  rows row no_job same stopped (Some x) None like is = absurd like
  rows row no_job same stopped None (Some y) like is = absurd like
  rows row no_job same stopped (Some x) (Some y) (inl e) is = subst (λ (z : Stage). Follows (row (Some z) l)) (sym e) (same y is)
  rows row no_job same stopped (Some x) (Some y) (inr (asked, e)) is = stopped x asked (subst (λ (z : Stage). row (Some z) m ≡ Some m') e is)

  sent : (n : ℕ) (a b : List ℕ) (y : Stage) → sends n a b (Some y) m ≡ Some m' → Follows (sends n a b (Some y) l)
  sent n a b Given is = moves_on n (Sent a b) is
  sent n a b _ is = absurd (cc)

  over : (n : ℕ) (d : Option (List ℕ)) (y : Stage) → finishes n d (Some y) m ≡ Some m' → Follows (finishes n d (Some y) l)
  over n d (Sent a b) is = moves_on n (Over d) is
  over n d (Asked a b) is = moves_on n (Over d) is
  over n d _ is = absurd (cc)

  killed : (n : ℕ) (y : Stage) → kills n (Some y) m ≡ Some m' → Follows (kills n (Some y) l)
  killed n Given is = moves_on n Stopped is
  killed n (Sent a b) is = moves_on n Stopped is
  killed n _ is = absurd (cc)

  marked : (n : ℕ) (y : Stage) → marks n (Some y) m ≡ Some m' → Follows (marks n (Some y) l)
  marked n (Sent a b) is = moves_on n (Asked a b) is
  marked n _ is = absurd (cc)

  given_up : (n : ℕ) (y : Stage) → gives_up n (Some y) m ≡ Some m' → Follows (gives_up n (Some y) l)
  given_up n Stopped is = forgets n is
  given_up n (Over d) is = forgets n is
  given_up n (Asked a b) is = forgets n is
  given_up n _ is = absurd (cc)

  given_up_asked : (n : ℕ) (x : Stage) → IsAsked x → gives_up n (Some Stopped) m ≡ Some m' → Follows (gives_up n (Some x) l)
  given_up_asked n (Asked a b) asked is = forgets n is
  given_up_asked n _ asked is = absurd asked

  begun : (n : ℕ) → begins n m ≡ Some m' → Follows (begins n l)
  begun n is = by (nat_eq m.issued 0 && nat_le 1 n && nat_le n most_first) (λ i. nat_eq (alike.issued i) 0 && nat_le 1 n && nat_le n most_first) is
    where
      by : (b : Bool) → (nat_eq l.issued 0 && nat_le 1 n && nat_le n most_first) ≡ b → (if b then Some (record m { first = n }) else None) ≡ Some m' → Follows (begins n l)
      by false e is = absurd (cc)
      by true e is =
          subst Follows (ap (λ (b : Bool). if b then Some (record l { first = n }) else None) (sym e))
          (leads (record l { first = n }) (record m { first = n }) (record { first = refl; issued = alike.issued; jobs = alike.jobs }) is)

  pub follows : (d : Deed) → after d m ≡ Some m' → Follows (after d l)
  follows Issue is = adds Given is
  follows (Send n a b) is = rows (sends n a b) (λ e. cc) (sent n a b) (λ x asked e. absurd (cc)) (stage_of n l) (stage_of n m) (found_alike n l.jobs m.jobs alike.jobs) is
  follows (Enter a b) is = adds (Sent a b) is
  follows (Finish n d) is = rows (finishes n d) (λ e. cc) (over n d) (λ x asked e. absurd (cc)) (stage_of n l) (stage_of n m) (found_alike n l.jobs m.jobs alike.jobs) is
  follows (Killed n) is = rows (kills n) (λ e. cc) (killed n) (λ x asked e. absurd (cc)) (stage_of n l) (stage_of n m) (found_alike n l.jobs m.jobs alike.jobs) is
  follows (Marked n) is = rows (marks n) (λ e. cc) (marked n) (λ x asked e. absurd (cc)) (stage_of n l) (stage_of n m) (found_alike n l.jobs m.jobs alike.jobs) is
  follows (GivenUp n) is = rows (gives_up n) (λ e. cc) (given_up n) (given_up_asked n) (stage_of n l) (stage_of n m) (found_alike n l.jobs m.jobs alike.jobs) is
  follows (Begin n) is = begun n is

pub stage_alike : (l m : Ledger) (n : ℕ) → GoesAlike l m → IsLikeIn (stage_of n l) (stage_of n m)
stage_alike l m n alike = found_alike n l.jobs m.jobs alike.jobs

-- ---- a table that goes on

stage_on : (s : Stage) → IsLike s (stage (phase_from s))
stage_on (Asked a b) = inr (tt, refl)
stage_on _ = inl refl

jobs_on : (jobs : List Held) → AreLike jobs (map seen_as (map (λ (held : Held). (held.0, phase_from held.1)) jobs))
jobs_on [] = tt
jobs_on (held ∷ jobs) = (refl, stage_on held.1, jobs_on jobs)

pub goes_alike : (l : Ledger) → GoesAlike l (ledger_of (table_of l))
goes_alike l = record { first = refl; issued = refl; jobs = jobs_on l.jobs }
