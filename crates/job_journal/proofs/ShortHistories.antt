-- Effects lead to the same where what jobs had is left out that aren't held at the end.
use Rattle.std.proofs.Common.{◌≡◌, ℕ, ◌+◌, nat_eq, nat_le, nat_lt, Bool, true, false, ◌||◌, if◌then◌else◌, List, [], ◌∷◌, ◌++◌, length, map, Option, Some, None, refl, sym, ◌∙◌, ap, arith}
use Rattle.std.specs.Option.{option_map}
use Rattle.std.specs.Map.{lookup, set_value, remove_entry}
use Rattle.std.proofs.lemmas.List.{map-append, length-map}
use Rattle.std.proofs.lemmas.Bool.Decides.{nat_tests}
use Rattle.effects.specs.Limits.{most_jobs, last_number}
use Rattle.effects.specs.Fold.{Stage, Given, Stopped, Ledger, next_of, stage_of, with_job, moved, forgotten}

abbrev Entries : Type 0
Entries = List (ℕ × Stage)

same_as : (n m : ℕ) → nat_eq n m ≡ true → n ≡ m
same_as n m same = grind (arith, nat_tests)

-- a stage that was set goes with its entry
drop_set : (n : ℕ) (w : Stage) (jobs : Entries) → remove_entry (nat_eq n) (set_value (nat_eq n) jobs w) ≡ remove_entry (nat_eq n) jobs
drop_set n w [] = refl
drop_set n w (e ∷ jobs) = at_test (drop_set n w jobs) (nat_eq n e.0) refl
  where
    at_test : remove_entry (nat_eq n) (set_value (nat_eq n) jobs w) ≡ remove_entry (nat_eq n) jobs → (b : Bool) → nat_eq n e.0 ≡ b
        → remove_entry (nat_eq n) (if b then (e.0, w) ∷ jobs else e ∷ set_value (nat_eq n) jobs w) ≡ (if b then jobs else e ∷ remove_entry (nat_eq n) jobs)
    at_test more true same = ap (λ (c : Bool). if c then jobs else (e.0, w) ∷ remove_entry (nat_eq n) jobs) same
    at_test more false same =
        ap (λ (c : Bool). if c then set_value (nat_eq n) jobs w else e ∷ remove_entry (nat_eq n) (set_value (nat_eq n) jobs w)) same
        ∙ ap (λ (l : Entries). e ∷ l) more

module _ (held : ℕ → Bool) where
  -- a job that isn't held is as if it had its number alone
  abbrev pub dim : ℕ → Stage → Stage
  dim n w = if held n then w else Given

  abbrev pub dim_entry : ℕ × Stage → ℕ × Stage
  dim_entry e = (e.0, dim e.0 e.1)

  abbrev pub dimmed : Ledger → Ledger
  dimmed l = record l { jobs = map dim_entry l.jobs }

  pub dim_held : (n : ℕ) (w : Stage) → held n ≡ true → dim n w ≡ w
  dim_held n w is = ap (λ (b : Bool). if b then w else Given) is

  pub dim_dark : (n : ℕ) (w : Stage) → held n ≡ false → dim n w ≡ Given
  dim_dark n w is = ap (λ (b : Bool). if b then w else Given) is

  stage_dim : (n : ℕ) (jobs : Entries) → lookup (nat_eq n) (map dim_entry jobs) ≡ option_map (dim n) (lookup (nat_eq n) jobs)
  stage_dim n [] = refl
  stage_dim n (e ∷ jobs) = at_test (stage_dim n jobs) (nat_eq n e.0) refl
    where
      at_test : lookup (nat_eq n) (map dim_entry jobs) ≡ option_map (dim n) (lookup (nat_eq n) jobs) → (b : Bool) → nat_eq n e.0 ≡ b
          → (if b then Some (dim e.0 e.1) else lookup (nat_eq n) (map dim_entry jobs)) ≡ option_map (dim n) (if b then Some e.1 else lookup (nat_eq n) jobs)
      at_test more true same = ap (λ (k : ℕ). Some (dim k e.1)) (sym (same_as n e.0 same))
      at_test more false same = more

  all_dim : (n : ℕ) (q : Option Stage) → held n ≡ true → option_map (dim n) q ≡ q
  all_dim n (Some w) is = ap (λ (x : Stage). Some x) (dim_held n w is)
  all_dim n None is = refl

  pub stage_held : (n : ℕ) (l : Ledger) → held n ≡ true → stage_of n (dimmed l) ≡ stage_of n l
  stage_held n l is = stage_dim n l.jobs ∙ all_dim n (stage_of n l) is

  pub stage_dark : (n : ℕ) (w : Stage) (l : Ledger) → held n ≡ false → stage_of n l ≡ Some w → stage_of n (dimmed l) ≡ Some Given
  stage_dark n w l is at = stage_dim n l.jobs ∙ ap (λ (q : Option Stage). option_map (dim n) q) at ∙ ap (λ (x : Stage). Some x) (dim_dark n w is)

  set_held : (n : ℕ) (w : Stage) (jobs : Entries) → held n ≡ true → set_value (nat_eq n) (map dim_entry jobs) w ≡ map dim_entry (set_value (nat_eq n) jobs w)
  set_held n w [] is = refl
  set_held n w (e ∷ jobs) is = at_test (set_held n w jobs is) (nat_eq n e.0) refl
    where
      at_test : set_value (nat_eq n) (map dim_entry jobs) w ≡ map dim_entry (set_value (nat_eq n) jobs w) → (b : Bool) → nat_eq n e.0 ≡ b
          → (if b then (e.0, w) ∷ map dim_entry jobs else dim_entry e ∷ set_value (nat_eq n) (map dim_entry jobs) w) ≡ map dim_entry (if b then (e.0, w) ∷ jobs else e ∷ set_value (nat_eq n) jobs w)
      at_test more true same = ap (λ (x : Stage). (e.0, x) ∷ map dim_entry jobs) (sym (dim_held e.0 w (ap held (sym (same_as n e.0 same)) ∙ is)))
      at_test more false same = ap (λ (l : Entries). dim_entry e ∷ l) more

  set_dark : (n : ℕ) (w : Stage) (jobs : Entries) → held n ≡ false → map dim_entry (set_value (nat_eq n) jobs w) ≡ map dim_entry jobs
  set_dark n w [] is = refl
  set_dark n w (e ∷ jobs) is = at_test (set_dark n w jobs is) (nat_eq n e.0) refl
    where
      at_test : map dim_entry (set_value (nat_eq n) jobs w) ≡ map dim_entry jobs → (b : Bool) → nat_eq n e.0 ≡ b
          → map dim_entry (if b then (e.0, w) ∷ jobs else e ∷ set_value (nat_eq n) jobs w) ≡ dim_entry e ∷ map dim_entry jobs
      at_test more true same =
          let dark = ap held (sym (same_as n e.0 same)) ∙ is in
          ap (λ (x : Stage). (e.0, x) ∷ map dim_entry jobs) (dim_dark e.0 w dark ∙ sym (dim_dark e.0 e.1 dark))
      at_test more false same = ap (λ (l : Entries). dim_entry e ∷ l) more

  drop_dim : (n : ℕ) (jobs : Entries) → remove_entry (nat_eq n) (map dim_entry jobs) ≡ map dim_entry (remove_entry (nat_eq n) jobs)
  drop_dim n [] = refl
  drop_dim n (e ∷ jobs) = at_test (drop_dim n jobs) (nat_eq n e.0)
    where
      at_test : remove_entry (nat_eq n) (map dim_entry jobs) ≡ map dim_entry (remove_entry (nat_eq n) jobs) → (b : Bool)
          → (if b then map dim_entry jobs else dim_entry e ∷ remove_entry (nat_eq n) (map dim_entry jobs)) ≡ map dim_entry (if b then jobs else e ∷ remove_entry (nat_eq n) jobs)
      at_test more true = refl
      at_test more false = ap (λ (l : Entries). dim_entry e ∷ l) more

  -- ---- of ledgers

  with_jobs : Ledger → Entries → Ledger
  with_jobs l jobs = record { first = l.first; jobs = jobs; issued = l.issued }

  pub moved_held : (n : ℕ) (w : Stage) (l : Ledger) → held n ≡ true → dimmed (moved n w l) ≡ moved n w (dimmed l)
  unfolding with_jobs
  moved_held n w l is = ap (λ (jobs : Entries). with_jobs l jobs) (sym (set_held n w l.jobs is))

  pub moved_dark : (n : ℕ) (w : Stage) (l : Ledger) → held n ≡ false → dimmed (moved n w l) ≡ dimmed l
  unfolding with_jobs
  moved_dark n w l is = ap (λ (jobs : Entries). with_jobs l jobs) (set_dark n w l.jobs is)

  -- a job that is given up was killed before, for the shortened effects
  pub gone_dark : (n : ℕ) (l : Ledger) → dimmed (forgotten n l) ≡ forgotten n (moved n Stopped (dimmed l))
  unfolding with_jobs
  gone_dark n l = ap (λ (jobs : Entries). with_jobs l jobs) (sym (drop_set n Stopped (map dim_entry l.jobs) ∙ drop_dim n l.jobs))

  some_is : (l m : Ledger) → Some l ≡ Some m → m ≡ l
  some_is l m e = sym (ap (λ (o : Option Ledger). or_this l o) e)
    where
      or_this : Ledger → Option Ledger → Ledger
      or_this k (Some x) = x
      or_this k None = k

  -- a new job
  pub with_dim : (w : Stage) (l m : Ledger) → with_job w l ≡ Some m → with_job (dim (next_of l) w) (dimmed l) ≡ Some (dimmed m)
  with_dim w l m is = go (nat_le most_jobs (length l.jobs) || nat_lt last_number (next_of l)) refl is
    where
      go : (b : Bool) → (nat_le most_jobs (length l.jobs) || nat_lt last_number (next_of l)) ≡ b
          → (if b then None else Some (record l { jobs = l.jobs ++ (next_of l, w) ∷ []; issued = l.issued + 1 })) ≡ Some m
          → with_job (dim (next_of l) w) (dimmed l) ≡ Some (dimmed m)
      go true full none = absurd cc
      go false room some =
          let same : (nat_le most_jobs (length (map dim_entry l.jobs)) || nat_lt last_number (next_of l)) ≡ false =
          ap (λ (k : ℕ). nat_le most_jobs k || nat_lt last_number (next_of l)) (length-map l.jobs dim_entry) ∙ room in
          let grown : Ledger = record l { jobs = map dim_entry l.jobs ++ (next_of l, dim (next_of l) w) ∷ []; issued = l.issued + 1 } in
          ap (λ (b : Bool). if b then None else Some grown) same
          ∙ ap (λ (jobs : Entries). Some (record { first = l.first; jobs = jobs; issued = l.issued + 1 })) (sym (map-append dim_entry l.jobs ((next_of l, w) ∷ [])))
          ∙ ap (λ (x : Ledger). Some (dimmed x)) (sym (some_is _ m some))
