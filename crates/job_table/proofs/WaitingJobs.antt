-- What the table keeps beside its jobs.
use Rattle.std.proofs.Common.{◌≡◌, ℕ, ◌+◌, ◌-◌, ◌<◌, ◌≤◌, ◌^◌, nat_eq, nat_lt, Bool, true, false, cond, List, [], ◌∷◌, ◌++◌, length, drop, insert, remove, count_by, get_or, Option, Some, None, refl, sym, ◌∙◌, ap, subst, suc, zero, Result, Ok, Err, arith, length-append}
use Rattle.std.proofs.lemmas.Bool.Decides.{nat_tests}
use Rattle.std.proofs.lemmas.List.Sums.{sum_by-append, sum_by-cons, prefix_len_is}
use Rattle.std.proofs.Math.Seq.{take-append_seam}
use Rattle.std.specs.Option.{IsSomeAnd}
use Rattle.std.specs.List.Sorted.{IsBinarySearchResult}
use Rattle.std.specs.Result.{MatchResult}
use Rattle.std.specs.Ordering.{nat_cmp}
use Rattle.std.proofs.lemmas.List.Sorted.{searched}
use Rattle.job_table.specs.declared.job.Phase.{Phase}
use Rattle.job_table.specs.declared.job.Phase.TheVariants.{Issued, Waiting, Running, Finished, Killed}
use Rattle.job_table.specs.declared.job.Job.{Job}
use Rattle.job_table.specs.Jobs.{HeldJobs, job, phase_of, with_phase, without, is_waiting, is_running, waiting_jobs, running_jobs, or_waiting, first_waiting, IsFirstWaiting, Rise, Below}
use Rattle.job_table.specs.WaitingJobs.{waiting_numbers, place_among, placed_among, taken, renewed, Climb, IsKeptBeside}
use Rattle.job_table.specs.Steps.{most_jobs, most_first}
use Rattle.job_table.proofs.JobLists.{rise_le, above_apart, Stands, stands, with_there, without_there, rise_low, rise_more, rise_with, rise_without, rise_below}

-- numbers that are all below one
abbrev Under : ℕ → List ℕ → Type 0
Under n [] = Unit {0}
Under n (m ∷ ms) = (m < n) × Under n ms

lesser : (m n : ℕ) → m < n → nat_lt m n ≡ true
lesser m n h = grind (arith, nat_tests)

not_lesser : (m n : ℕ) → n < m → nat_lt m n ≡ false
not_lesser m n h = grind (arith, nat_tests)

place_first : (n : ℕ) (behind : List ℕ) → Climb n behind → place_among n behind ≡ 0
place_first n [] climb = refl
place_first n (m ∷ ms) climb = ap (λ b. cond b (1 + place_among n ms) 0) (not_lesser m n climb.0)

-- a number stands behind those below it
place_is : (n : ℕ) (front behind : List ℕ) → Under n front → place_among n behind ≡ 0 → place_among n (front ++ behind) ≡ length front
place_is n [] behind under first = first
place_is n (m ∷ ms) behind under first =
    ap (λ b. cond b (1 + place_among n (ms ++ behind)) 0) (lesser m n under.0)
    ∙ omega (arith, place_is n ms behind under.1 first)

drop_seam : (front behind : List ℕ) → drop (length front) (front ++ behind) ≡ behind
drop_seam [] behind = refl
drop_seam (m ∷ ms) behind = drop_seam ms behind

placed_is : (n : ℕ) (front behind : List ℕ) → Under n front → Climb n behind → placed_among n (front ++ behind) ≡ front ++ n ∷ behind
placed_is n front behind under climb =
    ap (λ i. insert (front ++ behind) i n) (place_is n front behind under (place_first n behind climb))
    ∙ ap (λ s. s ++ n ∷ drop (length front) (front ++ behind)) (take-append_seam front behind)
    ∙ ap (λ s. front ++ n ∷ s) (drop_seam front behind)

itself_first : (n : ℕ) (behind : List ℕ) → place_among n (n ∷ behind) ≡ 0
itself_first n behind = ap (λ b. cond b (1 + place_among n behind) 0) (not_itself n)
  where
    not_itself : (n : ℕ) → nat_lt n n ≡ false
    not_itself n = grind (arith, nat_tests)

taken_is : (n : ℕ) (front behind : List ℕ) → Under n front → taken n (front ++ n ∷ behind) ≡ front ++ behind
taken_is n front behind under =
    ap (λ i. remove (front ++ n ∷ behind) i) (place_is n front (n ∷ behind) under (itself_first n behind))
    ∙ ap (λ s. s ++ drop (suc (length front)) (front ++ n ∷ behind)) (take-append_seam front (n ∷ behind))
    ∙ ap (λ s. front ++ s) (drop_past front)
  where
    drop_past : (xs : List ℕ) → drop (suc (length xs)) (xs ++ n ∷ behind) ≡ behind
    drop_past [] = refl
    drop_past (x ∷ xs) = drop_past xs

is_among : (n : ℕ) (front behind : List ℕ) → Under n front → place_among n (front ++ n ∷ behind) < length (front ++ n ∷ behind)
is_among n front behind under =
    omega (arith, place_is n front (n ∷ behind) under (itself_first n behind), length-append front (n ∷ behind))

climb_low : (a b : ℕ) (numbers : List ℕ) → a ≤ b → Climb b numbers → Climb a numbers
climb_low a b [] le climb = tt
climb_low a b (n ∷ ns) le climb = (omega (arith, le, climb.0), climb.1)

-- the numbers of those that wait rise
pub climbs : (low : ℕ) (jobs : HeldJobs) (high : ℕ) → Rise (low + 1) jobs high → Climb low (waiting_numbers jobs)
climbs low [] high rise = tt
climbs low (e ∷ es) high rise =
    elim (is_waiting e.1) as (λ b. Climb low (cond b (e.0 ∷ waiting_numbers es) (waiting_numbers es))) [
      | true ↦ (omega (arith, rise.0), climbs e.0 es high rise.1)
      | false ↦ climb_low low e.0 (waiting_numbers es) (omega (arith, rise.0)) (climbs e.0 es high rise.1)
    ]

under_is : (n : ℕ) (front : HeldJobs) → Below n front → Under n (waiting_numbers front)
under_is n [] below = tt
under_is n (e ∷ es) below =
    elim (is_waiting e.1) as (λ b. Under n (cond b (e.0 ∷ waiting_numbers es) (waiting_numbers es)))
    [ true ↦ (below.0, under_is n es below.1) | false ↦ under_is n es below.1 ]

waiting_split : (front behind : HeldJobs) → waiting_numbers (front ++ behind) ≡ waiting_numbers front ++ waiting_numbers behind
waiting_split [] behind = refl
waiting_split (e ∷ es) behind =
    elim (is_waiting e.1) as (λ b. cond b (e.0 ∷ waiting_numbers (es ++ behind)) (waiting_numbers (es ++ behind))
    ≡ cond b (e.0 ∷ waiting_numbers es) (waiting_numbers es) ++ waiting_numbers behind)
    [ true ↦ ap (λ s. e.0 ∷ s) (waiting_split es behind) | false ↦ waiting_split es behind ]

count_step : (b : Bool) (n : ℕ) (ns : List ℕ) (count : ℕ) → length ns ≡ count → length (cond b (n ∷ ns) ns) ≡ cond b 1 0 + count
count_step true n ns count h = omega (arith, h)
count_step false n ns count h = omega (arith, h)

pub waiting_count : (jobs : HeldJobs) → length (waiting_numbers jobs) ≡ waiting_jobs jobs
waiting_count [] = refl
waiting_count (e ∷ es) =
    count_step (is_waiting e.1) e.0 (waiting_numbers es) (waiting_jobs es) (waiting_count es)
    ∙ sym (sum_by-cons (λ (h : ℕ × Phase). cond (is_waiting h.1) 1 0) e es)

counts : (p : Phase → Bool) (n : ℕ) (x : Phase) (front behind : HeldJobs)
    → count_by (λ h. p h.1) (front ++ (n, x) ∷ behind) ≡ count_by (λ h. p h.1) front + (cond (p x) 1 0 + count_by (λ h. p h.1) behind)
counts p n x front behind =
    sum_by-append (λ (h : ℕ × Phase). cond (p h.1) 1 0) front ((n, x) ∷ behind)
    ∙ ap (λ k. count_by (λ h. p h.1) front + k) (sum_by-cons (λ (h : ℕ × Phase). cond (p h.1) 1 0) (n, x) behind)

-- of each job at most one of both is counted
both_one : (x : Phase) → cond (is_waiting x) 1 0 + cond (is_running x) 1 0 ≤ 1
both_one Issued = omega arith
both_one (Waiting osil osol) = omega arith
both_one (Running osil osol marked) = omega arith
both_one (Finished document) = omega arith
both_one Killed = omega arith

pub both_few : (jobs : HeldJobs) → waiting_jobs jobs + running_jobs jobs ≤ length jobs
both_few [] = omega arith
both_few (e ∷ es) =
    omega (
      arith,
      both_few es,
      both_one e.1,
      sum_by-cons (λ (h : ℕ × Phase). cond (is_waiting h.1) 1 0) e es,
      sum_by-cons (λ (h : ℕ × Phase). cond (is_running h.1) 1 0) e es,
    )

renewed_is : (n : ℕ) (a b : Bool) (front behind : List ℕ) → Under n front → Climb n behind
    → renewed n a b (front ++ cond a (n ∷ behind) behind) ≡ front ++ cond b (n ∷ behind) behind
renewed_is n true false front behind under climb = taken_is n front behind under
renewed_is n false true front behind under climb = placed_is n front behind under climb
renewed_is n true true front behind under climb = refl
renewed_is n false false front behind under climb = refl

-- the numbers of those that wait, by a job that is held
waiting_by : (n : ℕ) (w : Phase) (front behind : HeldJobs)
    → waiting_numbers (front ++ (n, w) ∷ behind)
    ≡ waiting_numbers front ++ cond (is_waiting w) (n ∷ waiting_numbers behind) (waiting_numbers behind)
waiting_by n w front behind = waiting_split front ((n, w) ∷ behind)

few_waiting : (jobs : HeldJobs) → length (waiting_numbers jobs) ≤ length jobs
few_waiting jobs = omega (arith, waiting_count jobs, both_few jobs)

module _ (jobs : HeldJobs) (first next : ℕ) (waiting : List ℕ) (room running : ℕ) (kept : IsKeptBeside jobs first next waiting room running) where
  pub rises : Climb 0 waiting
  rises = subst (λ (ns : List ℕ). Climb 0 ns) (sym kept.waiting_is) (climbs 0 jobs next (rise_low 1 first jobs next kept.begins kept.rise))

  pub few_run : running < 2 ^ 32 - 1
  few_run = omega (arith, kept.running_is, both_few jobs, kept.few)

  pub few_current : length waiting + running < 2 ^ 32
  few_current = omega (arith, kept.running_is, ap length kept.waiting_is, waiting_count jobs, both_few jobs, kept.few)

  pub current_is : length waiting + running ≡ waiting_jobs jobs + running_jobs jobs
  current_is = ap (λ ns. length ns + running) kept.waiting_is ∙ ap (λ k. k + running) (waiting_count jobs) ∙ ap (λ k. waiting_jobs jobs + k) kept.running_is

  pub waiting_few : length waiting ≤ length jobs
  waiting_few = subst (λ (ns : List ℕ). length ns ≤ length jobs) (sym kept.waiting_is) (few_waiting jobs)

  module _ (n : ℕ) (x : Phase) (at : phase_of n jobs ≡ Some x) where
    here : Stands n x first jobs next
    here = stands n x first jobs next kept.rise at

    waiting_here : waiting ≡ waiting_numbers here.front ++ cond (is_waiting x) (n ∷ waiting_numbers here.behind) (waiting_numbers here.behind)
    waiting_here = kept.waiting_is ∙ ap waiting_numbers here.is ∙ waiting_by n x here.front here.behind

    -- what taking the number out asks
    pub among : is_waiting x ≡ true → place_among n waiting < length waiting
    among waits =
        subst (λ (ns : List ℕ). place_among n ns < length ns)
        (sym (waiting_here ∙ ap (λ b. waiting_numbers here.front ++ cond b (n ∷ waiting_numbers here.behind) (waiting_numbers here.behind)) waits))
        (is_among n (waiting_numbers here.front) (waiting_numbers here.behind) (under_is n here.front here.below))

    -- what putting the number in asks
    pub has_room : is_waiting x ≡ false → length waiting < room
    has_room waits =
        let is : waiting ≡ waiting_numbers here.front ++ waiting_numbers here.behind =
        waiting_here ∙ ap (λ b. waiting_numbers here.front ++ cond b (n ∷ waiting_numbers here.behind) (waiting_numbers here.behind)) waits in
        let one : length waiting ≡ length (waiting_numbers here.front) + length (waiting_numbers here.behind) =
        ap length is ∙ length-append (waiting_numbers here.front) (waiting_numbers here.behind) in
        let all : length jobs ≡ length here.front + length ((n, x) ∷ here.behind) = ap length here.is ∙ length-append here.front ((n, x) ∷ here.behind) in
        omega (arith, one, all, few_waiting here.front, few_waiting here.behind, kept.room_is)

    -- what counting one less asks
    pub some_runs : is_running x ≡ true → 0 < running
    some_runs runs =
        let count : running ≡ running_jobs here.front + (cond (is_running x) 1 0 + running_jobs here.behind) =
        kept.running_is ∙ ap running_jobs here.is ∙ counts is_running n x here.front here.behind in
        let one : ◌≡◌ {A = ℕ} (cond (is_running x) 1 0) 1 = ap (λ b. cond b 1 0) runs in
        omega (arith, count, one)

    -- another phase
    pub kept_put : (w : Phase) (waiting' : List ℕ) (room' running' : ℕ) → waiting' ≡ renewed n (is_waiting x) (is_waiting w) waiting → room ≤ room'
        → running' + cond (is_running x) 1 0 ≡ running + cond (is_running w) 1 0 → IsKeptBeside (with_phase n w jobs) first next waiting' room' running'
    kept_put w waiting' room' running' waits more runs =
        let put : with_phase n w jobs ≡ here.front ++ (n, w) ∷ here.behind =
        ap (with_phase n w) here.is ∙ with_there n x w here.front here.behind here.below in
        let before : running ≡ running_jobs here.front + (cond (is_running x) 1 0 + running_jobs here.behind) =
        kept.running_is ∙ ap running_jobs here.is ∙ counts is_running n x here.front here.behind in
        let after : running_jobs (with_phase n w jobs) ≡ running_jobs here.front + (cond (is_running w) 1 0 + running_jobs here.behind) =
        ap running_jobs put ∙ counts is_running n w here.front here.behind in
        let many : length (with_phase n w jobs) ≡ length jobs =
        ap length put ∙ length-append here.front ((n, w) ∷ here.behind) ∙ sym (ap length here.is ∙ length-append here.front ((n, x) ∷ here.behind)) in
        record {
          begins = kept.begins;
          fits = kept.fits;
          rise = rise_with n first next w jobs kept.rise;
          waiting_is =
              waits ∙ ap (renewed n (is_waiting x) (is_waiting w)) waiting_here
              ∙ renewed_is n (is_waiting x) (is_waiting w) (waiting_numbers here.front) (waiting_numbers here.behind)
              (under_is n here.front here.below) (climbs n here.behind next here.rise)
              ∙ sym (ap waiting_numbers put ∙ waiting_by n w here.front here.behind);
          room_is = omega (arith, many, kept.room_is, more);
          running_is = omega (arith, before, after, runs);
          few = omega (arith, many, kept.few);
        }

    -- a job that neither waits nor runs is given up
    kept_gone : is_waiting x ≡ false → is_running x ≡ false → IsKeptBeside (without n jobs) first next waiting room running
    kept_gone waits runs =
        let cut : without n jobs ≡ here.front ++ here.behind =
        ap (without n) here.is ∙ without_there n x here.front here.behind here.below in
        let before : running ≡ running_jobs here.front + (cond (is_running x) 1 0 + running_jobs here.behind) =
        kept.running_is ∙ ap running_jobs here.is ∙ counts is_running n x here.front here.behind in
        let none : ◌≡◌ {A = ℕ} (cond (is_running x) 1 0) 0 = ap (λ b. cond b 1 0) runs in
        let after : running_jobs (without n jobs) ≡ running_jobs here.front + running_jobs here.behind =
        ap running_jobs cut ∙ sum_by-append (λ (h : ℕ × Phase). cond (is_running h.1) 1 0) here.front here.behind in
        let all : length jobs ≡ length here.front + length ((n, x) ∷ here.behind) = ap length here.is ∙ length-append here.front ((n, x) ∷ here.behind) in
        let fewer : length (without n jobs) ≡ length here.front + length here.behind = ap length cut ∙ length-append here.front here.behind in
        record {
          begins = kept.begins;
          fits = kept.fits;
          rise = rise_without n first next jobs kept.rise;
          waiting_is =
              waiting_here ∙ ap (λ b. waiting_numbers here.front ++ cond b (n ∷ waiting_numbers here.behind) (waiting_numbers here.behind)) waits
              ∙ sym (ap waiting_numbers cut ∙ waiting_split here.front here.behind);
          room_is = omega (arith, all, fewer, kept.room_is);
          running_is = omega (arith, before, none, after);
          few = omega (arith, all, fewer, kept.few);
        }

  pub gone_is : (n : ℕ) (q : Option Phase) → phase_of n jobs ≡ q → IsSomeAnd q (λ x. (is_waiting x ≡ false) × (is_running x ≡ false))
      → IsKeptBeside (without n jobs) first next waiting room running
  gone_is n (Some x) at over = kept_gone n x at over.0 over.1
  gone_is n None at over = absurd over

  -- a new job
  pub kept_add : (w : Phase) (waiting' : List ℕ) (room' running' : ℕ) → waiting' ≡ renewed next false (is_waiting w) waiting → next < 2 ^ 63 → length jobs < most_jobs
      → length jobs + 1 ≤ room' → running' + 0 ≡ running + cond (is_running w) 1 0 → IsKeptBeside (jobs ++ (next, w) ∷ []) first (next + 1) waiting' room' running'
  kept_add w waiting' room' running' waits below less more runs =
      let many : length (jobs ++ (next, w) ∷ []) ≡ length jobs + 1 = length-append jobs ((next, w) ∷ []) in
      record {
        begins = kept.begins;
        fits = omega (arith, below);
        rise = rise_more first next w jobs kept.rise;
        waiting_is =
            waits ∙ ap (renewed next false (is_waiting w)) (kept.waiting_is ∙ sym (nothing_more (waiting_numbers jobs)))
            ∙ renewed_is next false (is_waiting w) (waiting_numbers jobs) [] (under_is next jobs (rise_below first next jobs next (omega arith) kept.rise)) tt
            ∙ sym (waiting_by next w jobs []);
        room_is = omega (arith, many, more);
        running_is = omega (arith, counts is_running next w jobs [], kept.running_is, runs);
        few = omega (arith, many, less);
      }
    where
      nothing_more : (ns : List ℕ) → ns ++ [] ≡ ns
      nothing_more [] = refl
      nothing_more (m ∷ ms) = ap (λ s. m ∷ s) (nothing_more ms)

  -- the new number is above all that are held
  pub all_below : Below next jobs
  all_below = rise_below first next jobs next (omega arith) kept.rise

-- where no number was given, no job is held, and numbers may begin with another one
empty_between : (low : ℕ) (jobs : HeldJobs) (high : ℕ) → high ≤ low → Rise low jobs high → jobs ≡ []
empty_between low [] high le rise = refl
empty_between low (e ∷ es) high le rise = absurd (omega (arith, le, rise.0, rise_le (e.0 + 1) es high rise.1))

pub kept_begin : (jobs : HeldJobs) (first issued : ℕ) (waiting : List ℕ) (room running : ℕ) → IsKeptBeside jobs first (first + issued) waiting room running → issued ≡ 0
    → (new : ℕ) → 1 ≤ new → new ≤ most_first → IsKeptBeside jobs new (new + issued) waiting room running
kept_begin jobs first issued waiting room running kept none new some within = record {
  begins = some;
  fits = omega (arith, none, within);
  rise = subst (λ (js : HeldJobs). Rise new js (new + issued)) (sym (empty_between first jobs (first + issued) (omega (arith, none)) kept.rise)) (omega arith);
  waiting_is = kept.waiting_is;
  room_is = kept.room_is;
  running_is = kept.running_is;
  few = kept.few;
}

-- the first number is that of the first job that waits
not_first : (n : ℕ) (x : Phase) (other : Option Job) → is_waiting x ≡ false → or_waiting n x other ≡ other
not_first n Issued other h = refl
not_first n (Waiting osil osol) other h = cc
not_first n (Running osil osol marked) other h = refl
not_first n (Finished document) other h = refl
not_first n Killed other h = refl

head_of : List ℕ → ℕ
head_of [] = 0
head_of (n ∷ ns) = n

-- a job that doesn't wait is passed over
passed : (n : ℕ) (e : ℕ × Phase) (es : HeldJobs) (high : ℕ) (x : Phase) → e.1 ≡ x → is_waiting x ≡ false → Rise (e.0 + 1) es high → IsFirstWaiting n es
    → IsFirstWaiting n (e ∷ es)
passed n e es high x is waits rise next =
    let s = stands n (Waiting next.osil next.osol) (e.0 + 1) es high rise next.waits in
    record {
      osil = next.osil;
      osol = next.osol;
      waits = ap (λ b. cond b (Some e.1) (phase_of n es)) (above_apart n e.0 (omega (arith, s.above))) ∙ next.waits;
      first = not_first e.0 e.1 (first_waiting es) (ap is_waiting is ∙ waits) ∙ next.first;
    }

first_step : (n : ℕ) (rest : List ℕ) (e : ℕ × Phase) (es : HeldJobs) (high : ℕ) (x : Phase) → e.1 ≡ x → Rise (e.0 + 1) es high
    → (waiting_numbers es ≡ n ∷ rest → IsFirstWaiting n es) → cond (is_waiting x) (e.0 ∷ waiting_numbers es) (waiting_numbers es) ≡ n ∷ rest
    → IsFirstWaiting n (e ∷ es)
unfolding head_of
first_step n rest e es high (Waiting o p) is rise f h =
    let same : e.0 ≡ n = ap head_of h in
    record {
      osil = o;
      osol = p;
      waits = ap (λ b. cond b (Some e.1) (phase_of n es)) (itself same) ∙ ap (λ y. Some y) is;
      first = ap (λ y. or_waiting e.0 y (first_waiting es)) is ∙ ap (λ k. Some (job k o p)) same;
    }
  where
    itself : e.0 ≡ n → nat_eq n e.0 ≡ true
    itself same = grind (arith, nat_tests)
first_step n rest e es high Issued is rise f h = passed n e es high Issued is refl rise (f h)
first_step n rest e es high (Running o p m) is rise f h = passed n e es high (Running o p m) is refl rise (f h)
first_step n rest e es high (Finished d) is rise f h = passed n e es high (Finished d) is refl rise (f h)
first_step n rest e es high Killed is rise f h = passed n e es high Killed is refl rise (f h)

pub first_is : (low : ℕ) (jobs : HeldJobs) (high : ℕ) → Rise low jobs high → (n : ℕ) (rest : List ℕ) → waiting_numbers jobs ≡ n ∷ rest → IsFirstWaiting n jobs
first_is low [] high rise n rest h = cc
first_is low (e ∷ es) high rise n rest h =
    first_step n rest e es high e.1 refl rise.1 (first_is (e.0 + 1) es high rise.1 n rest) h

none_step : (e : ℕ × Phase) (es : HeldJobs) (b : Bool) → is_waiting e.1 ≡ b → (waiting_numbers es ≡ [] → first_waiting es ≡ None)
    → cond b (e.0 ∷ waiting_numbers es) (waiting_numbers es) ≡ [] → first_waiting (e ∷ es) ≡ None
none_step e es true is f h = cc
none_step e es false is f h = not_first e.0 e.1 (first_waiting es) is ∙ f h

pub none_is : (jobs : HeldJobs) → waiting_numbers jobs ≡ [] → first_waiting jobs ≡ None
none_is [] h = refl
none_is (e ∷ es) h = none_step e es (is_waiting e.1) refl (none_is es) h

-- the first of some numbers
pub begins : (numbers : List ℕ) (n : ℕ) → 0 < length numbers → n ≡ get_or numbers 0 n → numbers ≡ n ∷ drop 1 numbers
begins [] n some h = absurd (omega (arith, some))
begins (m ∷ ms) n some h = ap (λ k. k ∷ ms) (sym h)

-- each of numbers that rise is below the later ones
climbs_far : (low : ℕ) (numbers : List ℕ) → Climb low numbers → (i : ℕ) → i < length numbers → low < get_or numbers i 0
climbs_far low [] climb i within = absurd (omega (arith, within))
climbs_far low (n ∷ ns) climb zero within = climb.0
climbs_far low (n ∷ ns) climb (suc i) within =
    omega (arith, climb.0, climbs_far n ns climb.1 i (omega (arith, within)))

climbs_between : (low : ℕ) (numbers : List ℕ) → Climb low numbers → (i j : ℕ) → i < j → j < length numbers → get_or numbers i 0 < get_or numbers j 0
climbs_between low [] climb i j less within = absurd (omega (arith, within))
climbs_between low (n ∷ ns) climb zero zero less within = absurd (omega (arith, less))
climbs_between low (n ∷ ns) climb zero (suc j) less within = climbs_far n ns climb.1 j (omega (arith, within))
climbs_between low (n ∷ ns) climb (suc i) zero less within = absurd (omega (arith, less))
climbs_between low (n ∷ ns) climb (suc i) (suc j) less within = climbs_between n ns climb.1 i j (omega (arith, less)) (omega (arith, within))

no_fall : (low : ℕ) (numbers : List ℕ) → Climb low numbers → (i j : ℕ) → i ≤ j → j < length numbers → get_or numbers i 0 ≤ get_or numbers j 0
no_fall low numbers climb i j le within = by (nat_lt i j) refl
  where
    by : (b : Bool) → nat_lt i j ≡ b → get_or numbers i 0 ≤ get_or numbers j 0
    by true less = let far = climbs_between low numbers climb i j (grind (arith, nat_tests)) within in omega (arith, far)
    by false not = let same : i ≡ j = grind (arith, nat_tests) in omega (arith, ap (λ k. get_or numbers k 0) same)

-- where a search ends is the place
pub place_found : (n : ℕ) (numbers : List ℕ) (r : Result ℕ ℕ) (i : ℕ) → Climb 0 numbers → IsBinarySearchResult (λ y. nat_cmp y n) numbers r
    → r ≡ Ok i → i ≡ place_among n numbers
place_found n numbers r i climb found is =
    let s = subst (λ (r : Result ℕ ℕ). MatchResult r (λ i. (i < length numbers) × (get_or numbers i 0 ≡ n)) (λ i. (i ≤ length numbers) × ((k : ℕ) → k < i → get_or numbers k 0 < n) × ((k : ℕ) → i ≤ k → k < length numbers → n < get_or numbers k 0))) is
    (searched numbers n r found (no_fall 0 numbers climb)) in
    sym (prefix_len_is (λ m. nat_lt m n) numbers i 0 (omega (arith, s.0))
    (λ k less. lesser (get_or numbers k 0) n (let far = climbs_between 0 numbers climb k i less s.0 in omega (arith, far, s.1)))
    (λ within. at_it (get_or numbers i 0) s.1))
  where
    at_it : (m : ℕ) → m ≡ n → nat_lt m n ≡ false
    at_it m same = grind (arith, nat_tests)

pub place_free : (n : ℕ) (numbers : List ℕ) (r : Result ℕ ℕ) (i : ℕ) → Climb 0 numbers → IsBinarySearchResult (λ y. nat_cmp y n) numbers r
    → r ≡ Err i → i ≡ place_among n numbers
place_free n numbers r i climb found is =
    let s = subst (λ (r : Result ℕ ℕ). MatchResult r (λ i. (i < length numbers) × (get_or numbers i 0 ≡ n)) (λ i. (i ≤ length numbers) × ((k : ℕ) → k < i → get_or numbers k 0 < n) × ((k : ℕ) → i ≤ k → k < length numbers → n < get_or numbers k 0))) is
    (searched numbers n r found (no_fall 0 numbers climb)) in
    sym (prefix_len_is (λ m. nat_lt m n) numbers i 0 s.0
    (λ k less. lesser (get_or numbers k 0) n (s.1 k less))
    (λ within. not_lesser (get_or numbers i 0) n (s.2 i (omega arith) within)))

pub nothing_is : (numbers : List ℕ) → (0 < length numbers → false ≡ true) → numbers ≡ []
nothing_is [] h = refl
nothing_is (n ∷ ns) h = let wrong : false ≡ true = h (omega arith) in cc

-- tests that answer alike
pub renewed_alike : (n : ℕ) (a b c d : Bool) (numbers : List ℕ) → a ≡ c → b ≡ d → renewed n a b numbers ≡ renewed n c d numbers
renewed_alike n a b c d numbers e f = ap (λ x. renewed n x b numbers) e ∙ ap (λ x. renewed n c x numbers) f

pub recount_alike : (k l : ℕ) (a b c d : Bool) → a ≡ c → b ≡ d → k + cond a 1 0 ≡ l + cond b 1 0 → k + cond c 1 0 ≡ l + cond d 1 0
recount_alike k l a b c d e f h = ap (λ x. k + cond x 1 0) (sym e) ∙ h ∙ ap (λ x. l + cond x 1 0) f
