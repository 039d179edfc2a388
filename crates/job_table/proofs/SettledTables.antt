-- The table that goes on from what effects left.
use Rattle.std.proofs.Common.{◌≡◌, ℕ, ◌+◌, ◌≤◌, nat_eq, Bool, true, false, cond, if◌then◌else◌, List, [], ◌∷◌, map, Option, Some, None, IfSome, IfNone, refl, sym, ◌∙◌, ap, subst, arith}
use Rattle.std.proofs.lemmas.List.Sums.{sum_by-cons}
use Rattle.effects.specs.Fold.{Stage, Given, Sent, Asked, Over, Stopped, Ledger}
use Rattle.job_table.specs.declared.job.Phase.{Phase}
use Rattle.job_table.specs.declared.job.Phase.TheVariants.{Issued, Waiting, Running, Finished, Killed}
use Rattle.job_table.specs.Jobs.{Register, HeldJobs, NobodyRuns, phase_of, with_phase, Rise, is_running, running_jobs}
use Rattle.job_table.specs.Steps.{is_marked, moved}
use Rattle.job_table.specs.Plans.{seen_as, ledger_of}
use Rattle.job_table.specs.Remade.{AllAtRest, IsAtRest, IsRemade, number_if_marked, first_marked, settled_phase, settled, phase_from, table_of}
use Rattle.job_table.proofs.JobLists.{is_itself, above_apart}

abbrev settle : ℕ × Phase → ℕ × Phase
settle held = (held.0, settled_phase held.1)

-- a job that runs and was asked to stop
pub record Runs (n : ℕ) (jobs : HeldJobs) : Type 0 where
  pub osil : List ℕ
  pub osol : List ℕ
  pub is : phase_of n jobs ≡ Some (Running osil osol true)

runs_by : (n : ℕ) (jobs : HeldJobs) (q : Option Phase) → phase_of n jobs ≡ q → is_marked q ≡ true → Runs n jobs
runs_by n jobs None at marked = cc
runs_by n jobs (Some Issued) at marked = cc
runs_by n jobs (Some (Waiting a b)) at marked = cc
runs_by n jobs (Some (Running a b true)) at marked = record { osil = a; osol = b; is = at }
runs_by n jobs (Some (Running a b false)) at marked = cc
runs_by n jobs (Some (Finished d)) at marked = cc
runs_by n jobs (Some Killed) at marked = cc

pub runs : (n : ℕ) (jobs : HeldJobs) → is_marked (phase_of n jobs) ≡ true → Runs n jobs
runs n jobs marked = runs_by n jobs (phase_of n jobs) refl marked

abbrev phase_or : Phase → Option Phase → Phase
phase_or p None = p
phase_or p (Some q) = q

abbrev number_or : ℕ → Option ℕ → ℕ
number_or n None = n
number_or n (Some m) = m

pub marked_first : (n : ℕ) (p : Phase) (other : Option ℕ) → is_marked (Some p) ≡ true → number_if_marked n p other ≡ Some n
marked_first n (Running a b true) other marked = refl
marked_first n (Running a b false) other marked = cc
marked_first n Issued other marked = cc
marked_first n (Waiting a b) other marked = cc
marked_first n (Finished d) other marked = cc
marked_first n Killed other marked = cc

pub unmarked_first : (n : ℕ) (p : Phase) (other : Option ℕ) → is_marked (Some p) ≡ false → number_if_marked n p other ≡ other
unmarked_first n (Running a b true) other marked = cc
unmarked_first n (Running a b false) other marked = refl
unmarked_first n Issued other marked = refl
unmarked_first n (Waiting a b) other marked = refl
unmarked_first n (Finished d) other marked = refl
unmarked_first n Killed other marked = refl

-- the first one is one, where numbers rise
pub first_is_marked : (low : ℕ) (jobs : HeldJobs) (high n : ℕ) → Rise low jobs high → first_marked jobs ≡ Some n → (is_marked (phase_of n jobs) ≡ true) × (low ≤ n)
first_is_marked low [] high n rise is = cc
first_is_marked low (e ∷ es) high n rise is = by (first_is_marked (e.0 + 1) es high n rise.1) e.1 refl is
  where
    later : (is_marked (phase_of n es) ≡ true) × (e.0 + 1 ≤ n) → (is_marked (phase_of n (e ∷ es)) ≡ true) × (low ≤ n)
    later more = (ap (λ b. is_marked (if b then Some e.1 else phase_of n es)) (above_apart n e.0 (omega (arith, more.1))) ∙ more.0, omega (arith, rise.0, more.1))

    by : (first_marked es ≡ Some n → (is_marked (phase_of n es) ≡ true) × (e.0 + 1 ≤ n)) → (p : Phase) → e.1 ≡ p → number_if_marked e.0 p (first_marked es) ≡ Some n
        → (is_marked (phase_of n (e ∷ es)) ≡ true) × (low ≤ n)
    by more (Running a b true) same next =
        let here : e.0 ≡ n = ap (λ (o : Option ℕ). number_or e.0 o) next in (
          subst (λ (k : ℕ). is_marked (if nat_eq k e.0 then Some e.1 else phase_of k es) ≡ true) here
              (ap (λ b. is_marked (if b then Some e.1 else phase_of e.0 es)) (is_itself e.0) ∙ ap (λ (p : Phase). is_marked (Some p)) same),
          omega (arith, here, rise.0),
        )
    by more (Running a b false) same next = later (more next)
    by more Issued same next = later (more next)
    by more (Waiting a b) same next = later (more next)
    by more (Finished d) same next = later (more next)
    by more Killed same next = later (more next)

none_to_settle : (jobs : HeldJobs) → first_marked jobs ≡ None → map settle jobs ≡ jobs
none_to_settle [] is = refl
none_to_settle (e ∷ es) is = by (none_to_settle es) e.1 refl is
  where
    stays : (p : Phase) → e.1 ≡ p → settled_phase p ≡ p → map settle es ≡ es → map settle (e ∷ es) ≡ e ∷ es
    stays p same rests more = λ i. (e.0, (ap settled_phase same ∙ rests ∙ sym same) i) ∷ more i

    by : (first_marked es ≡ None → map settle es ≡ es) → (p : Phase) → e.1 ≡ p → number_if_marked e.0 p (first_marked es) ≡ None → map settle (e ∷ es) ≡ e ∷ es
    by more (Running a b true) same next = cc
    by more (Running a b false) same next = stays (Running a b false) same refl (more next)
    by more Issued same next = stays Issued same refl (more next)
    by more (Waiting a b) same next = stays (Waiting a b) same refl (more next)
    by more (Finished d) same next = stays (Finished d) same refl (more next)
    by more Killed same next = stays Killed same refl (more next)

-- where no job is left that was asked to stop, all is settled
pub settled_is : (r : Register) → first_marked r.jobs ≡ None → settled r ≡ r
settled_is r none = ap (λ (jobs : HeldJobs). record r { jobs = jobs }) (none_to_settle r.jobs none)

-- what is found as the first one is one, and where none is found there is none to settle
pub first_some : (low : ℕ) (jobs : HeldJobs) (high : ℕ) (q : Option ℕ) → Rise low jobs high → q ≡ first_marked jobs → IfSome q (λ n. is_marked (phase_of n jobs) ≡ true)
first_some low jobs high (Some n) rise is = (first_is_marked low jobs high n rise (sym is)).0
first_some low jobs high None rise is = tt

pub first_none : (r : Register) (q : Option ℕ) → q ≡ first_marked r.jobs → IfNone q (settled r ≡ r)
first_none r (Some n) is = tt
first_none r None is = settled_is r (sym is)

settle_put : (n : ℕ) (a b : List ℕ) (jobs : HeldJobs) → phase_of n jobs ≡ Some (Running a b true) → map settle (with_phase n Killed jobs) ≡ map settle jobs
settle_put n a b [] at = refl
settle_put n a b (e ∷ es) at = by (settle_put n a b es) (nat_eq n e.0) at
  where
    by : (phase_of n es ≡ Some (Running a b true) → map settle (with_phase n Killed es) ≡ map settle es) → (t : Bool)
        → (if t then Some e.1 else phase_of n es) ≡ Some (Running a b true) → map settle (if t then (e.0, Killed) ∷ es else e ∷ with_phase n Killed es) ≡ settle e ∷ map settle es
    by more true is = ap (λ (o : Option Phase). (e.0, settled_phase (phase_or e.1 o)) ∷ map settle es) (sym is)
    by more false is = ap (λ (l : HeldJobs). settle e ∷ l) (more is)

-- to kill such a job changes nothing of it
pub settled_still : (n : ℕ) (r new : Register) → is_marked (phase_of n r.jobs) ≡ true → new ≡ moved n Killed r → settled new ≡ settled r
settled_still n r new marked is =
    let found = runs n r.jobs marked in
    ap settled is ∙ ap (λ (jobs : HeldJobs). record r { jobs = jobs }) (settle_put n found.osil found.osol r.jobs found.is)

-- and fewer run
run_less : (n : ℕ) (a b : List ℕ) (jobs : HeldJobs) → phase_of n jobs ≡ Some (Running a b true) → running_jobs (with_phase n Killed jobs) + 1 ≡ running_jobs jobs
run_less n a b [] at = cc
run_less n a b (e ∷ es) at = by (run_less n a b es) (nat_eq n e.0) at
  where
    counted : (h : ℕ × Phase) (hs : HeldJobs) → running_jobs (h ∷ hs) ≡ cond (is_running h.1) 1 0 + running_jobs hs
    counted h hs = sum_by-cons (λ (h : ℕ × Phase). cond (is_running h.1) 1 0) h hs

    by : (phase_of n es ≡ Some (Running a b true) → running_jobs (with_phase n Killed es) + 1 ≡ running_jobs es) → (t : Bool)
        → (if t then Some e.1 else phase_of n es) ≡ Some (Running a b true) → running_jobs (if t then (e.0, Killed) ∷ es else e ∷ with_phase n Killed es) + 1 ≡ running_jobs (e ∷ es)
    by more true is =
        let one : ◌≡◌ {A = ℕ} (cond (is_running e.1) 1 0) 1 = ap (λ (o : Option Phase). cond (is_running (phase_or e.1 o)) 1 0) is in
        omega (arith, counted e es, counted (e.0, Killed) es, one)
    by more false is = omega (arith, counted e es, counted e (with_phase n Killed es), more is)

pub fewer_run : (n : ℕ) (r new : Register) → is_marked (phase_of n r.jobs) ≡ true → new ≡ moved n Killed r → running_jobs new.jobs + 1 ≡ running_jobs r.jobs
fewer_run n r new marked is =
    let found = runs n r.jobs marked in
    ap (λ (x : Register). running_jobs x.jobs + 1) is ∙ run_less n found.osil found.osol r.jobs found.is

goes_on : (jobs : HeldJobs) → AllAtRest jobs → map settle jobs ≡ map (λ (held : ℕ × Stage). (held.0, phase_from held.1)) (map seen_as jobs)
goes_on [] rest = refl
goes_on (e ∷ es) rest = λ i. (e.0, by e.1 rest.0 i) ∷ goes_on es rest.1 i
  where
    by : (p : Phase) → IsAtRest p → settled_phase p ≡ phase_from (seen_as (e.0, p)).1
    by Issued at = refl
    by (Waiting a b) at = refl
    by (Running a b true) at = refl
    by (Running a b false) at = cc
    by (Finished d) at = refl
    by Killed at = refl

-- the table that goes on is determined by what effects left
pub goes_on_from : (r : Register) → IsRemade r → settled r ≡ table_of (ledger_of r)
goes_on_from r m = λ i. record { first = r.first; jobs = goes_on r.jobs m.at_rest i; issued = r.issued; workers = m.nobody i }

-- ---- nobody runs a job of it

stage_idle : (s : Stage) (osil osol : List ℕ) (marked : Bool) → Some (phase_from s) ≡ Some (Running osil osol marked) → ⊥
stage_idle Given osil osol marked is = cc
stage_idle (Sent a b) osil osol marked is = cc
stage_idle (Asked a b) osil osol marked is = cc
stage_idle (Over d) osil osol marked is = cc
stage_idle Stopped osil osol marked is = cc

idle_here : (b : Bool) (s : Stage) (other : Option Phase) (osil osol : List ℕ) (marked : Bool) → (other ≡ Some (Running osil osol marked) → ⊥)
    → cond b (Some (phase_from s)) other ≡ Some (Running osil osol marked) → ⊥
idle_here true s other osil osol marked rest is = stage_idle s osil osol marked is
idle_here false s other osil osol marked rest is = rest is

all_idle : (jobs : List (ℕ × Stage)) (n : ℕ) (osil osol : List ℕ) (marked : Bool) → phase_of n (map (λ held. (held.0, phase_from held.1)) jobs) ≡ Some (Running osil osol marked) → ⊥
all_idle [] n osil osol marked is = cc
all_idle (e ∷ es) n osil osol marked is =
    idle_here (nat_eq n e.0) e.1 (phase_of n (map (λ (held : ℕ × Stage). (held.0, phase_from held.1)) es)) osil osol marked (all_idle es n osil osol marked) is

pub nobody_resumed : (l : Ledger) → NobodyRuns (table_of l)
nobody_resumed l n osil osol marked is = all_idle l.jobs n osil osol marked is
