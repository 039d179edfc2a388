-- The effects that a compaction keeps lead to the same table.
use Rattle.std.proofs.Common.{◌≡◌, ◌⊎◌, inl, inr, ⊎_elim, ℕ, ◌+◌, ◌-◌, ◌^◌, min, ◌<◌, ◌≤◌, nat_eq, nat_le, nat_lt, Bool, true, false, ◌||◌, ◌&&◌, if◌then◌else◌, List, [], ◌∷◌, ◌++◌, length, map, Option, Some, None, refl, sym, ◌∙◌, ap, subst, arith}
use Rattle.std.specs.Prelude.{is_some}
use Rattle.std.specs.Option.{option_map}
use Rattle.std.specs.Map.{lookup, set_value, remove_entry}
use Rattle.std.proofs.lemmas.Bool.{cases_lt}
use Rattle.std.proofs.lemmas.Bool.Decides.{nat_tests}
use Rattle.effects.specs.Limits.{most_jobs, last_number, most_first}
use Rattle.effects.specs.Records.{Deed, Issue, Send, Enter, Finish, Killed, Marked, GivenUp, Begin, Fits, AllFit}
use Rattle.effects.specs.Fold.{Stage, Given, Sent, Asked, Over, Stopped, Ledger, nothing, next_of, stage_of, with_job, moved, forgotten, begins, sends, finishes, kills, marks, gives_up, osil_in}
use Rattle.effects.specs.Fold as fold
use Rattle.job_journal.specs.Opening.{IsAcceptedFor, IsAdmitted, StepsTo, FoldsTo}
use Rattle.job_journal.specs.Compacting.{is_held, next_behind, shortened_one, shortened}
use Rattle.job_journal.proofs.ShortHistories.{dim_entry, dimmed, dim_held, dim_dark, stage_held, stage_dark, moved_held, moved_dark, gone_dark, with_dim}

abbrev Entries : Type 0
Entries = List (ℕ × Stage)

the : Ledger → Option Ledger → Ledger
the l (Some m) = m
the l None = l

some_is : (l m : Ledger) → Some l ≡ Some m → m ≡ l
unfolding the
some_is l m e = sym (ap (λ (o : Option Ledger). the l o) e)

is_there : Option Ledger → Bool
is_there (Some m) = true
is_there None = false

no_some : (m : Ledger) → None ≡ Some m → ⊥
unfolding is_there
no_some m e = let wrong : false ≡ true = ap is_there e in absurd cc

nat_self : (n : ℕ) → nat_eq n n ≡ true
nat_self n = grind (arith, nat_tests)

-- ---- what a row makes of a job's stage: to which one the job goes, where it may

abbrev sent_by : List ℕ → List ℕ → Option Stage → Option Stage
sent_by a b (Some Given) = Some (Sent a b)
sent_by a b _ = None

abbrev finished_by : Option (List ℕ) → Option Stage → Option Stage
finished_by document (Some (Sent a b)) = Some (Over document)
finished_by document (Some (Asked a b)) = Some (Over document)
finished_by document _ = None

abbrev killed_by : Option Stage → Option Stage
killed_by (Some Given) = Some Stopped
killed_by (Some (Sent a b)) = Some Stopped
killed_by _ = None

abbrev marked_by : Option Stage → Option Stage
marked_by (Some (Sent a b)) = Some (Asked a b)
marked_by _ = None

abbrev goes : ℕ → Option Stage → Ledger → Option Ledger
goes n w l = option_map (λ (x : Stage). moved n x l) w

sent_row : (n : ℕ) (a b : List ℕ) (q : Option Stage) (l : Ledger) → sends n a b q l ≡ goes n (sent_by a b q) l
sent_row n a b (Some Given) l = refl
sent_row n a b (Some (Sent c d)) l = refl
sent_row n a b (Some (Asked c d)) l = refl
sent_row n a b (Some (Over c)) l = refl
sent_row n a b (Some Stopped) l = refl
sent_row n a b None l = refl

finished_row : (n : ℕ) (document : Option (List ℕ)) (q : Option Stage) (l : Ledger) → finishes n document q l ≡ goes n (finished_by document q) l
finished_row n document (Some Given) l = refl
finished_row n document (Some (Sent c d)) l = refl
finished_row n document (Some (Asked c d)) l = refl
finished_row n document (Some (Over c)) l = refl
finished_row n document (Some Stopped) l = refl
finished_row n document None l = refl

killed_row : (n : ℕ) (q : Option Stage) (l : Ledger) → kills n q l ≡ goes n (killed_by q) l
killed_row n (Some Given) l = refl
killed_row n (Some (Sent c d)) l = refl
killed_row n (Some (Asked c d)) l = refl
killed_row n (Some (Over c)) l = refl
killed_row n (Some Stopped) l = refl
killed_row n None l = refl

marked_row : (n : ℕ) (q : Option Stage) (l : Ledger) → marks n q l ≡ goes n (marked_by q) l
marked_row n (Some Given) l = refl
marked_row n (Some (Sent c d)) l = refl
marked_row n (Some (Asked c d)) l = refl
marked_row n (Some (Over c)) l = refl
marked_row n (Some Stopped) l = refl
marked_row n None l = refl

-- what is given up has some stage, and goes
gone : (n : ℕ) (q : Option Stage) (l m : Ledger) → gives_up n q l ≡ Some m → (w : Stage) × (q ≡ Some w) × (m ≡ forgotten n l)
gone n (Some Given) l m is = absurd (no_some m is)
gone n (Some (Sent c d)) l m is = absurd (no_some m is)
gone n (Some (Asked c d)) l m is = (Asked c d, refl, some_is _ m is)
gone n (Some (Over c)) l m is = (Over c, refl, some_is _ m is)
gone n (Some Stopped) l m is = (Stopped, refl, some_is _ m is)
gone n None l m is = absurd (no_some m is)

-- a job that is there has the stage that was set
set_there : (n : ℕ) (w v : Stage) (jobs : Entries) → lookup (nat_eq n) jobs ≡ Some v → lookup (nat_eq n) (set_value (nat_eq n) jobs w) ≡ Some w
set_there n w v [] at = absurd cc
set_there n w v (e ∷ jobs) at = by (λ later. set_there n w v jobs later) (nat_eq n e.0) refl at
  where
    by : (lookup (nat_eq n) jobs ≡ Some v → lookup (nat_eq n) (set_value (nat_eq n) jobs w) ≡ Some w) → (b : Bool) → nat_eq n e.0 ≡ b → (if b then Some e.1 else lookup (nat_eq n) jobs) ≡ Some v → lookup (nat_eq n) (if b then (e.0, w) ∷ jobs else e ∷ set_value (nat_eq n) jobs w) ≡ Some w
    by more true same here = ap (λ (c : Bool). if c then Some w else lookup (nat_eq n) jobs) same
    by more false same later = ap (λ (c : Bool). if c then Some e.1 else lookup (nat_eq n) (set_value (nat_eq n) jobs w)) same ∙ more later

module _ (accepted : List ℕ → List ℕ → Type 0) where
  folds_then : (a b c : Ledger) (one other : List Deed) → FoldsTo accepted a one b → FoldsTo accepted b other c → FoldsTo accepted a (one ++ other) c
  folds_then a b c [] other is more = subst (λ (l : Ledger). FoldsTo accepted l other c) is more
  folds_then a b c (d ∷ one) other (mid, first, rest) more = (mid, first, folds_then mid b c one other rest more)

  one_step : (d : Deed) (l m : Ledger) → IsAdmitted accepted l d → fold.after d l ≡ Some m → FoldsTo accepted l (d ∷ []) m
  one_step d l m admits is = (m, (admits, is), refl)

  module _ (held : ℕ → Bool) where
    -- a job's move, which stays where the job is held
    stays : (n : ℕ) (w : Option Stage) (l m : Ledger) → held n ≡ true → goes n w l ≡ Some m → goes n w (dimmed held l) ≡ Some (dimmed held m)
    stays n None l m is e = absurd (no_some m e)
    stays n (Some x) l m is e = ap (λ (k : Ledger). Some k) (sym (moved_held held n x l is) ∙ ap (λ (k : Ledger). dimmed held k) (sym (some_is (moved n x l) m e)))

    -- and changes nothing else
    is_left_out : (n : ℕ) (w : Option Stage) (l m : Ledger) → held n ≡ false → goes n w l ≡ Some m → dimmed held m ≡ dimmed held l
    is_left_out n None l m is e = absurd (no_some m e)
    is_left_out n (Some x) l m is e = ap (λ (k : Ledger). dimmed held k) (some_is (moved n x l) m e) ∙ moved_dark held n x l is

    -- one effect of a job, kept or left out
    kept_or_not : (n : ℕ) (d : Deed) (row : Option Stage → Option Stage) (l m : Ledger) → ((k : Ledger) → fold.after d k ≡ goes n (row (stage_of n k)) k) → (held n ≡ true → IsAdmitted accepted (dimmed held l) d) → fold.after d l ≡ Some m
        → (b : Bool) → held n ≡ b → FoldsTo accepted (dimmed held l) (if b then d ∷ [] else []) (dimmed held m)
    kept_or_not n d row l m rows admits is true bright_is =
        one_step d (dimmed held l) (dimmed held m) (admits bright_is)
        (rows (dimmed held l) ∙ ap (λ (q : Option Stage). goes n (row q) (dimmed held l)) (stage_held held n l bright_is) ∙ stays n (row (stage_of n l)) l m bright_is (sym (rows l) ∙ is))
    kept_or_not n d row l m rows admits is false dark_is = is_left_out n (row (stage_of n l)) l m dark_is (sym (rows l) ∙ is)

    -- an effect that gives up no job that is held
    abbrev pub KeepsHeld : Deed → Type 0
    KeepsHeld (GivenUp n) = held n ≡ false
    KeepsHeld d = Unit {0}

    admits_on : (n : ℕ) (document : Option (List ℕ)) (l : Ledger) → IsAdmitted accepted l (Finish n document) → held n ≡ true → IsAdmitted accepted (dimmed held l) (Finish n document)
    admits_on n None l admits bright_is = tt
    admits_on n (Some document) l admits bright_is = subst (λ (q : Option Stage). IsAcceptedFor accepted (osil_in q) document) (sym (stage_held held n l bright_is)) admits

    new_given : (l m : Ledger) → with_job Given l ≡ Some m → with_job Given (dimmed held l) ≡ Some (dimmed held m)
    new_given l m is = ap (λ (w : Stage). with_job w (dimmed held l)) (sym (plain (held (next_of l)))) ∙ with_dim held Given l m is
      where
        plain : (b : Bool) → (if b then Given else Given) ≡ Given
        plain true = refl
        plain false = refl

    new_sent : (a b : List ℕ) (l m : Ledger) → with_job (Sent a b) l ≡ Some m → (c : Bool) → held (next_of l) ≡ c → FoldsTo accepted (dimmed held l) ((if c then Enter a b else Issue) ∷ []) (dimmed held m)
    new_sent a b l m is true bright_is =
        one_step (Enter a b) (dimmed held l) (dimmed held m) tt (ap (λ (w : Stage). with_job w (dimmed held l)) (sym (dim_held held (next_of l) (Sent a b) bright_is)) ∙ with_dim held (Sent a b) l m is)
    new_sent a b l m is false dark_is =
        one_step Issue (dimmed held l) (dimmed held m) tt (ap (λ (w : Stage). with_job w (dimmed held l)) (sym (dim_dark held (next_of l) (Sent a b) dark_is)) ∙ with_dim held (Sent a b) l m is)

    begun : (n : ℕ) (l m : Ledger) → begins n l ≡ Some m → begins n (dimmed held l) ≡ Some (dimmed held m)
    begun n l m is = by (nat_eq l.issued 0 && nat_le 1 n && nat_le n most_first) refl is
      where
        by : (b : Bool) → (nat_eq l.issued 0 && nat_le 1 n && nat_le n most_first) ≡ b → (if b then Some (record l { first = n }) else None) ≡ Some m → begins n (dimmed held l) ≡ Some (dimmed held m)
        by true may e = ap (λ (c : Bool). if c then Some (record (dimmed held l) { first = n }) else None) may ∙ ap (λ (k : Ledger). Some (dimmed held k)) (sym (some_is _ m e))
        by false may e = absurd (no_some m e)

    -- a job that is given up was killed before
    given_up : (n : ℕ) (l m : Ledger) → held n ≡ false → gives_up n (stage_of n l) l ≡ Some m → FoldsTo accepted (dimmed held l) (Killed n ∷ GivenUp n ∷ []) (dimmed held m)
    given_up n l m dark_is is =
        let (w, at, gone_is) = gone n (stage_of n l) l m is in
        let k = dimmed held l in
        let dark : stage_of n k ≡ Some Given = stage_dark held n w l dark_is at in
        let stopped : stage_of n (moved n Stopped k) ≡ Some Stopped = set_there n Stopped Given k.jobs dark in (
          moved n Stopped k,
          (tt, ap (λ (q : Option Stage). kills n q k) dark),
          one_step (GivenUp n) (moved n Stopped k) (dimmed held m) tt
              (ap (λ (q : Option Stage). gives_up n q (moved n Stopped k)) stopped ∙ ap (λ (x : Ledger). Some x) (sym (gone_dark held n l) ∙ ap (λ (x : Ledger). dimmed held x) (sym gone_is))),
        )

    -- what an effect comes to leads on as it did
    pub short_step : (d : Deed) (l m : Ledger) → KeepsHeld d → StepsTo accepted d l (Some m) → FoldsTo accepted (dimmed held l) (shortened_one held (next_of l) d) (dimmed held m)
    short_step Issue l m keeps (admits, is) = one_step Issue (dimmed held l) (dimmed held m) tt (new_given l m is)
    short_step (Enter a b) l m keeps (admits, is) = new_sent a b l m is (held (next_of l)) refl
    short_step (Send n a b) l m keeps (admits, is) = kept_or_not n (Send n a b) (sent_by a b) l m (λ k. sent_row n a b (stage_of n k) k) (λ _. tt) is (held n) refl
    short_step (Finish n document) l m keeps (admits, is) = kept_or_not n (Finish n document) (finished_by document) l m (λ k. finished_row n document (stage_of n k) k) (admits_on n document l admits) is (held n) refl
    short_step (Killed n) l m keeps (admits, is) = kept_or_not n (Killed n) killed_by l m (λ k. killed_row n (stage_of n k) k) (λ _. tt) is (held n) refl
    short_step (Marked n) l m keeps (admits, is) = kept_or_not n (Marked n) marked_by l m (λ k. marked_row n (stage_of n k) k) (λ _. tt) is (held n) refl
    short_step (GivenUp n) l m keeps (admits, is) = given_up n l m keeps is
    short_step (Begin n) l m keeps (admits, is) = one_step (Begin n) (dimmed held l) (dimmed held m) tt (begun n l m is)

-- ---- which number is given next

record IsNew (w : Stage) (l m : Ledger) : Type 0 where
  jobs : m.jobs ≡ l.jobs ++ (next_of l, w) ∷ []
  issued : m.issued ≡ l.issued + 1
  first : m.first ≡ l.first
  small : next_of l ≤ last_number

new_next : (w : Stage) (l m : Ledger) → with_job w l ≡ Some m → IsNew w l m
new_next w l m is = by (nat_le most_jobs (length l.jobs)) (nat_lt last_number (next_of l)) refl is
  where
    by : (a b : Bool) → nat_lt last_number (next_of l) ≡ b → (if a || b then None else Some (record l { jobs = l.jobs ++ (next_of l, w) ∷ []; issued = l.issued + 1 })) ≡ Some m → IsNew w l m
    by true b low e = absurd (no_some m e)
    by false true low e = absurd (no_some m e)
    by false false low e =
        let is = some_is _ m e in
        record { jobs = ap (λ (k : Ledger). k.jobs) is; issued = ap (λ (k : Ledger). k.issued) is; first = ap (λ (k : Ledger). k.first) is; small = grind (arith, nat_tests) }

-- a move of a job that was there: some stage was set, or it went; numbers stay
record Moves (n : ℕ) (l m : Ledger) : Type 0 where
  jobs : ((w : Stage) × (m.jobs ≡ set_value (nat_eq n) l.jobs w)) ⊎ (m.jobs ≡ remove_entry (nat_eq n) l.jobs)
  issued : m.issued ≡ l.issued
  first : m.first ≡ l.first

moves_by : (n : ℕ) (w : Option Stage) (l m : Ledger) → goes n w l ≡ Some m → Moves n l m
moves_by n None l m e = absurd (no_some m e)
moves_by n (Some x) l m e =
    let is = some_is (moved n x l) m e in
    record { jobs = inl (x, ap (λ (k : Ledger). k.jobs) is); issued = ap (λ (k : Ledger). k.issued) is; first = ap (λ (k : Ledger). k.first) is }

goes_by : (n : ℕ) (l m : Ledger) → gives_up n (stage_of n l) l ≡ Some m → Moves n l m
goes_by n l m e =
    let is = (gone n (stage_of n l) l m e).2 in
    record { jobs = inr (ap (λ (k : Ledger). k.jobs) is); issued = ap (λ (k : Ledger). k.issued) is; first = ap (λ (k : Ledger). k.first) is }

-- an effect makes a new job, moves one, or says with which number they begin, while none was given
data Did (d : Deed) (l m : Ledger) : Type 0 where
  made : (w : Stage) → with_job w l ≡ Some m → next_behind (next_of l) d ≡ min (next_of l + 1) (2 ^ 64 - 1) → Did d l m
  went : (n : ℕ) → Moves n l m → next_behind (next_of l) d ≡ next_of l → Did d l m
  began : (n : ℕ) → l.issued ≡ 0 → m ≡ record l { first = n } → next_behind (next_of l) d ≡ n → Did d l m

did : (d : Deed) (l m : Ledger) → fold.after d l ≡ Some m → Did d l m
did Issue l m is = made Given is refl
did (Enter a b) l m is = made (Sent a b) is refl
did (Send n a b) l m is = went n (moves_by n _ l m (sym (sent_row n a b (stage_of n l) l) ∙ is)) refl
did (Finish n document) l m is = went n (moves_by n _ l m (sym (finished_row n document (stage_of n l) l) ∙ is)) refl
did (Killed n) l m is = went n (moves_by n _ l m (sym (killed_row n (stage_of n l) l) ∙ is)) refl
did (Marked n) l m is = went n (moves_by n _ l m (sym (marked_row n (stage_of n l) l) ∙ is)) refl
did (GivenUp n) l m is = went n (goes_by n l m is) refl
did (Begin n) l m is = by (nat_eq l.issued 0) refl is
  where
    by : (b : Bool) → nat_eq l.issued 0 ≡ b → (if b && nat_le 1 n && nat_le n most_first then Some (record l { first = n }) else None) ≡ Some m → Did (Begin n) l m
    by false dark_is e = absurd (no_some m e)
    by true bright_is e = at (nat_le 1 n && nat_le n most_first) e
      where
        at : (c : Bool) → (if c then Some (record l { first = n }) else None) ≡ Some m → Did (Begin n) l m
        at true e = began n (grind (arith, nat_tests)) (some_is _ m e) refl
        at false e = absurd (no_some m e)

pub next_on : (d : Deed) (l m : Ledger) → fold.after d l ≡ Some m → next_of m ≡ next_behind (next_of l) d
next_on d l m is = by (did d l m is)
  where
    by : Did d l m → next_of m ≡ next_behind (next_of l) d
    by (made w e next) = let n = new_next w l m e in omega (arith, n.issued, n.first, n.small, next)
    by (went n moves next) = omega (arith, moves.issued, moves.first, next)
    by (began n none same next) = omega (arith, none, ap (λ (k : Ledger). k.first) same, ap (λ (k : Ledger). k.issued) same, next)

-- ---- a number that is gone never comes back

-- numbers are held once
abbrev AllOnce : Entries → Type 0
AllOnce [] = Unit {0}
AllOnce (e ∷ jobs) = (lookup (nat_eq e.0) jobs ≡ None) × AllOnce jobs

-- of a number that isn't there nothing is there
abbrev Absent : ℕ → Entries → Type 0
Absent n jobs = lookup (nat_eq n) jobs ≡ None

absent_rest : (n : ℕ) (e : ℕ × Stage) (jobs : Entries) → Absent n (e ∷ jobs) → (nat_eq n e.0 ≡ false) × Absent n jobs
absent_rest n e jobs none = by (nat_eq n e.0) refl none
  where
    by : (b : Bool) → nat_eq n e.0 ≡ b → (if b then Some e.1 else lookup (nat_eq n) jobs) ≡ None → (nat_eq n e.0 ≡ false) × Absent n jobs
    by true same e = absurd cc
    by false same e = (same, e)

absent_cons : (n : ℕ) (e : ℕ × Stage) (jobs : Entries) → nat_eq n e.0 ≡ false → Absent n jobs → Absent n (e ∷ jobs)
absent_cons n e jobs other none = ap (λ (b : Bool). if b then Some e.1 else lookup (nat_eq n) jobs) other ∙ none

absent_set : (n k : ℕ) (w : Stage) (jobs : Entries) → Absent n jobs → Absent n (set_value (nat_eq k) jobs w)
absent_set n k w [] none = refl
absent_set n k w (e ∷ jobs) none =
    let (other, later) = absent_rest n e jobs none in
    by (absent_set n k w jobs later) (nat_eq k e.0) other later
  where
    by : Absent n (set_value (nat_eq k) jobs w) → (b : Bool) → nat_eq n e.0 ≡ false → Absent n jobs → Absent n (if b then (e.0, w) ∷ jobs else e ∷ set_value (nat_eq k) jobs w)
    by more true other later = absent_cons n (e.0, w) jobs other later
    by more false other later = absent_cons n e (set_value (nat_eq k) jobs w) other more

absent_removed : (n k : ℕ) (jobs : Entries) → Absent n jobs → Absent n (remove_entry (nat_eq k) jobs)
absent_removed n k [] none = refl
absent_removed n k (e ∷ jobs) none =
    let (other, later) = absent_rest n e jobs none in
    by (absent_removed n k jobs later) (nat_eq k e.0) other later
  where
    by : Absent n (remove_entry (nat_eq k) jobs) → (b : Bool) → nat_eq n e.0 ≡ false → Absent n jobs → Absent n (if b then jobs else e ∷ remove_entry (nat_eq k) jobs)
    by more true other later = later
    by more false other later = absent_cons n e (remove_entry (nat_eq k) jobs) other more

absent_push : (n k : ℕ) (w : Stage) (jobs : Entries) → nat_eq n k ≡ false → Absent n jobs → Absent n (jobs ++ (k, w) ∷ [])
absent_push n k w [] other none = absent_cons n (k, w) [] other refl
absent_push n k w (e ∷ jobs) other none =
    let (here, later) = absent_rest n e jobs none in absent_cons n e (jobs ++ (k, w) ∷ []) here (absent_push n k w jobs other later)

once_set : (k : ℕ) (w : Stage) (jobs : Entries) → AllOnce jobs → AllOnce (set_value (nat_eq k) jobs w)
once_set k w [] all = tt
once_set k w (e ∷ jobs) all = by (once_set k w jobs all.1) (nat_eq k e.0)
  where
    by : AllOnce (set_value (nat_eq k) jobs w) → (b : Bool) → AllOnce (if b then (e.0, w) ∷ jobs else e ∷ set_value (nat_eq k) jobs w)
    by more true = all
    by more false = (absent_set e.0 k w jobs all.0, more)

once_removed : (k : ℕ) (jobs : Entries) → AllOnce jobs → AllOnce (remove_entry (nat_eq k) jobs)
once_removed k [] all = tt
once_removed k (e ∷ jobs) all = by (once_removed k jobs all.1) (nat_eq k e.0)
  where
    by : AllOnce (remove_entry (nat_eq k) jobs) → (b : Bool) → AllOnce (if b then jobs else e ∷ remove_entry (nat_eq k) jobs)
    by more true = all.1
    by more false = (absent_removed e.0 k jobs all.0, more)

once_push : (k : ℕ) (w : Stage) (jobs : Entries) → Absent k jobs → AllOnce jobs → AllOnce (jobs ++ (k, w) ∷ [])
once_push k w [] none all = (refl, tt)
once_push k w (e ∷ jobs) none all =
    let (other, later) = absent_rest k e jobs none in
    let apart : nat_eq e.0 k ≡ false = turned e.0 k other in
    (absent_push e.0 k w jobs apart all.0, once_push k w jobs later all.1)
  where
    turned : (n m : ℕ) → nat_eq m n ≡ false → nat_eq n m ≡ false
    turned n m apart = grind (arith, nat_tests)

-- a number that goes is gone
gone_once : (k : ℕ) (jobs : Entries) → AllOnce jobs → Absent k (remove_entry (nat_eq k) jobs)
gone_once k [] all = refl
gone_once k (e ∷ jobs) all = by (gone_once k jobs all.1) (nat_eq k e.0) refl
  where
    same_as : (n m : ℕ) → nat_eq n m ≡ true → m ≡ n
    same_as n m same = grind (arith, nat_tests)

    by : Absent k (remove_entry (nat_eq k) jobs) → (b : Bool) → nat_eq k e.0 ≡ b → Absent k (if b then jobs else e ∷ remove_entry (nat_eq k) jobs)
    by more true same = subst (λ (n : ℕ). Absent n jobs) (same_as k e.0 same) all.0
    by more false other = absent_cons k e (remove_entry (nat_eq k) jobs) other more

-- numbers are held once, those that come are new, and before the first one there is none
record Orderly (l : Ledger) : Type 0 where
  once : AllOnce l.jobs
  fresh : (n : ℕ) → next_of l ≤ n → Absent n l.jobs
  none : l.issued ≡ 0 → l.jobs ≡ []

orderly_start : Orderly nothing
orderly_start = record { once = tt; fresh = λ n le. refl; none = λ e. refl }

apart : (n k : ℕ) → k < n → nat_eq n k ≡ false
apart n k lt = grind (arith, nat_tests)

apart_below : (n k : ℕ) → n < k → nat_eq n k ≡ false
apart_below n k lt = grind (arith, nat_tests)

-- where a job was moved, nothing comes
absent_moved : (n k : ℕ) (l m : Ledger) → Moves k l m → Absent n l.jobs → Absent n m.jobs
absent_moved n k l m moves none =
    ⊎_elim
    (λ (set : (w : Stage) × (m.jobs ≡ set_value (nat_eq k) l.jobs w)). subst (λ (jobs : Entries). Absent n jobs) (sym set.1) (absent_set n k set.0 l.jobs none))
    (λ (is : m.jobs ≡ remove_entry (nat_eq k) l.jobs). subst (λ (jobs : Entries). Absent n jobs) (sym is) (absent_removed n k l.jobs none))
    moves.jobs

empty_moved : (k : ℕ) (l m : Ledger) → Moves k l m → l.jobs ≡ [] → m.jobs ≡ []
empty_moved k l m moves none =
    ⊎_elim
    (λ (set : (w : Stage) × (m.jobs ≡ set_value (nat_eq k) l.jobs w)). set.1 ∙ ap (λ (jobs : Entries). set_value (nat_eq k) jobs set.0) none)
    (λ (is : m.jobs ≡ remove_entry (nat_eq k) l.jobs). is ∙ ap (λ (jobs : Entries). remove_entry (nat_eq k) jobs) none)
    moves.jobs

orderly_on : (d : Deed) (l m : Ledger) → Orderly l → Did d l m → Orderly m
orderly_on d l m o (made w e next) =
    let n = new_next w l m e in
    record {
      once = subst AllOnce (sym n.jobs) (once_push (next_of l) w l.jobs (o.fresh (next_of l) (omega arith)) o.once);
      fresh = λ k le. subst (λ (jobs : Entries). Absent k jobs) (sym n.jobs) (absent_push k (next_of l) w l.jobs (apart k (next_of l) (omega (arith, le, n.issued, n.first))) (o.fresh k (omega (arith, le, n.issued, n.first))));
      none = λ z. absurd (omega (arith, z, n.issued));
    }
orderly_on d l m o (went k moves next) = record {
  once = ⊎_elim
      (λ (set : (w : Stage) × (m.jobs ≡ set_value (nat_eq k) l.jobs w)). subst AllOnce (sym set.1) (once_set k set.0 l.jobs o.once))
      (λ (is : m.jobs ≡ remove_entry (nat_eq k) l.jobs). subst AllOnce (sym is) (once_removed k l.jobs o.once))
      moves.jobs;
  fresh = λ n le. absent_moved n k l m moves (o.fresh n (omega (arith, le, moves.issued, moves.first)));
  none = λ z. empty_moved k l m moves (o.none (sym moves.issued ∙ z));
}
orderly_on d l m o (began k zero same next) =
    let empty : m.jobs ≡ [] = ap (λ (x : Ledger). x.jobs) same ∙ o.none zero in
    record { once = subst AllOnce (sym empty) tt; fresh = λ n le. subst (λ (jobs : Entries). Absent n jobs) (sym empty) refl; none = λ z. empty }

-- a number that was given and isn't held
record IsGone (n : ℕ) (l : Ledger) : Type 0 where
  past : n < next_of l
  given : 0 < l.issued
  absent : Absent n l.jobs

gone_on : (d : Deed) (n : ℕ) (l m : Ledger) → IsGone n l → Did d l m → IsGone n m
gone_on d n l m g (made w e next) =
    let k = new_next w l m e in
    record {
      past = omega (arith, g.past, k.issued, k.first);
      given = omega (arith, k.issued);
      absent = subst (λ (jobs : Entries). Absent n jobs) (sym k.jobs) (absent_push n (next_of l) w l.jobs (apart_below n (next_of l) g.past) g.absent);
    }
gone_on d n l m g (went k moves next) = record {
  past = omega (arith, g.past, moves.issued, moves.first);
  given = omega (arith, g.given, moves.issued);
  absent = absent_moved n k l m moves g.absent;
}
gone_on d n l m g (began k zero same next) = absurd (omega (arith, g.given, zero))

module _ (accepted : List ℕ → List ℕ → Type 0) where
  gone_stays : (n : ℕ) (deeds : List Deed) (l m : Ledger) → IsGone n l → FoldsTo accepted l deeds m → is_held m n ≡ false
  gone_stays n [] l m g is = ap (λ (k : Ledger). is_held k n) is ∙ ap (λ (q : Option Stage). is_some q) g.absent
  gone_stays n (d ∷ deeds) l m g (mid, step, rest) = gone_stays n deeds mid m (gone_on d n l mid g (did d l mid step.1)) rest

  -- what was given up isn't held at the end
  keeps_held : (d : Deed) (deeds : List Deed) (l mid m : Ledger) → Orderly l → StepsTo accepted d l (Some mid) → FoldsTo accepted mid deeds m → KeepsHeld accepted (is_held m) d
  keeps_held (GivenUp n) deeds l mid m o (admits, is) rest =
      let (w, at, gone_is) = gone n (stage_of n l) l mid is in
      let jobs_are : mid.jobs ≡ remove_entry (nat_eq n) l.jobs = ap (λ (k : Ledger). k.jobs) gone_is in
      let moves = goes_by n l mid is in
      gone_stays n deeds mid m (record {
        past = below n w at;
        given = some n w at;
        absent = subst (λ (jobs : Entries). Absent n jobs) (sym jobs_are) (gone_once n l.jobs o.once);
      }) rest
    where
      not_none : (w : Stage) (q : Option Stage) → q ≡ Some w → q ≡ None → ⊥
      not_none w q here none = absurd cc

      below : (k : ℕ) (w : Stage) → stage_of k l ≡ Some w → k < next_of mid
      below k w here = ⊎_elim
          (λ (lt : k < next_of l). let moves = goes_by n l mid is in omega (arith, lt, moves.issued, moves.first))
          (λ (le : next_of l ≤ k). absurd (not_none w (stage_of k l) here (o.fresh k le)))
          (cases_lt k (next_of l))

      some : (k : ℕ) (w : Stage) → stage_of k l ≡ Some w → 0 < mid.issued
      some k w here = ⊎_elim
          (λ (none : l.issued < 1). absurd (not_none w (stage_of k l) here (ap (λ (jobs : Entries). lookup (nat_eq k) jobs) (o.none (omega (arith, none))))))
          (λ (le : 1 ≤ l.issued). let moves = goes_by n l mid is in omega (arith, le, moves.issued))
          (cases_lt l.issued 1)
  keeps_held Issue deeds l mid m o step rest = tt
  keeps_held (Enter a b) deeds l mid m o step rest = tt
  keeps_held (Send n a b) deeds l mid m o step rest = tt
  keeps_held (Finish n document) deeds l mid m o step rest = tt
  keeps_held (Killed n) deeds l mid m o step rest = tt
  keeps_held (Marked n) deeds l mid m o step rest = tt
  keeps_held (Begin n) deeds l mid m o step rest = tt

  short_on : (deeds : List Deed) (l m : Ledger) → Orderly l → FoldsTo accepted l deeds m
      → FoldsTo accepted (dimmed (is_held m) l) (shortened (is_held m) (next_of l) deeds) (dimmed (is_held m) m)
  short_on [] l m o is = ap (λ (k : Ledger). dimmed (is_held m) k) is
  short_on (d ∷ deeds) l m o (mid, step, rest) =
      let held = is_held m in
      let here = short_step accepted held d l mid (keeps_held d deeds l mid m o step rest) step in
      let later = short_on deeds mid m (orderly_on d l mid o (did d l mid step.1)) rest in
      folds_then accepted (dimmed held l) (dimmed held mid) (dimmed held m) (shortened_one held (next_of l) d) (shortened held (next_behind (next_of l) d) deeds) here
      (subst (λ (n : ℕ). FoldsTo accepted (dimmed held mid) (shortened held n deeds) (dimmed held m)) (next_on d l mid step.1) later)

  -- jobs that are held stay as they are
  bright : (held : ℕ → Bool) (jobs : Entries) → ((n : ℕ) → is_some (lookup (nat_eq n) jobs) ≡ true → held n ≡ true) → map (dim_entry held) jobs ≡ jobs
  bright held [] all = refl
  bright held (e ∷ jobs) all =
      let here : held e.0 ≡ true = all e.0 (ap (λ (b : Bool). is_some (if b then Some e.1 else lookup (nat_eq e.0) jobs)) (nat_self e.0)) in
      ap (λ (w : Stage). (e.0, w) ∷ map (dim_entry held) jobs) (dim_held held e.0 e.1 here)
      ∙ ap (λ (l : Entries). e ∷ l) (bright held jobs (λ n there. all n (by n (nat_eq n e.0) there)))
    where
      by : (n : ℕ) (b : Bool) → is_some (lookup (nat_eq n) jobs) ≡ true → is_some (if b then Some e.1 else lookup (nat_eq n) jobs) ≡ true
      by n true there = refl
      by n false there = there

  -- so what a compaction keeps makes the same table
  pub same_table : (deeds : List Deed) (l : Ledger) → FoldsTo accepted nothing deeds l → FoldsTo accepted nothing (shortened (is_held l) 1 deeds) l
  same_table deeds l folds =
      let whole : dimmed (is_held l) l ≡ l = ap (λ (jobs : Entries). record { first = l.first; jobs = jobs; issued = l.issued }) (bright (is_held l) l.jobs (λ n there. there)) in
      subst (λ (k : Ledger). FoldsTo accepted nothing (shortened (is_held l) 1 deeds) k) whole (short_on deeds nothing l orderly_start folds)

-- its effects fit a record as those from which they come
pub short_fit : (held : ℕ → Bool) (next : ℕ) (deeds : List Deed) → AllFit deeds → AllFit (shortened held next deeds)
short_fit held next [] fit = tt
short_fit held next (d ∷ deeds) (here, later) = joined (shortened_one held next d) (one d here) (short_fit held (next_behind next d) deeds later)
  where
    joined : (ds : List Deed) → AllFit ds → AllFit (shortened held (next_behind next d) deeds) → AllFit (ds ++ shortened held (next_behind next d) deeds)
    joined [] fit more = more
    joined (e ∷ ds) fit more = (fit.0, joined ds fit.1 more)

    kept : (b : Bool) (e : Deed) → Fits e → AllFit (if b then e ∷ [] else [])
    kept true e fit = (fit, tt)
    kept false e fit = tt

    entered : (b : Bool) (x y : List ℕ) → Fits (Enter x y) → AllFit ((if b then Enter x y else Issue) ∷ [])
    entered true x y fit = (fit, tt)
    entered false x y fit = (tt, tt)

    one : (e : Deed) → Fits e → AllFit (shortened_one held next e)
    one Issue fit = (tt, tt)
    one (Enter x y) fit = entered (held next) x y fit
    one (Send n x y) fit = kept (held n) (Send n x y) fit
    one (Finish n document) fit = kept (held n) (Finish n document) fit
    one (Killed n) fit = kept (held n) (Killed n) fit
    one (Marked n) fit = kept (held n) (Marked n) fit
    one (GivenUp n) fit = (fit, (fit, tt))
    one (Begin n) fit = (fit, tt)
