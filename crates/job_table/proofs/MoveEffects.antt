-- The effect of a move leads to what its row leaves.
use Rattle.std.proofs.Common.{◌≡◌, ℕ, ◌+◌, ◌≤◌, nat_eq, nat_le, nat_lt, Bool, true, false, not, ◌&&◌, ◌||◌, if◌then◌else◌, List, [], ◌∷◌, ◌++◌, length, map, Option, Some, None, refl, sym, ◌∙◌, ap, subst, arith, bytes_eq}
use Rattle.std.specs.Option.{option_map}
use Rattle.std.specs.Map.{lookup, set_value, remove_entry}
use Rattle.std.proofs.lemmas.Map.Made.{lookup-map_values}
use Rattle.std.proofs.lemmas.List.{map-append, length-map}
use Rattle.effects.specs.Records.{Deed}
use Rattle.effects.specs.Records as deed
use Rattle.effects.specs.Fold.{Stage, Given, Sent, Asked, Over, Stopped, Ledger, after, stage_of, with_job}
use Rattle.effects.specs.Fold as fold
use Rattle.job_table.specs.declared.job.Phase.{Phase}
use Rattle.job_table.specs.declared.job.Phase.TheVariants.{Issued, Waiting, Running, Finished, Killed}
use Rattle.job_table.specs.declared.job.Job.{Job}
use Rattle.job_table.specs.declared.entries.TableMove.TheVariants.{Issue, Send, Enter, Claim, Look, Finish, Kill, Retrieve, Knock, Enlist, Leave}
use Rattle.job_table.specs.declared.entries.Finishing.TheVariants as end
use Rattle.job_table.specs.declared.entries.Reply.{Reply}
use Rattle.job_table.specs.declared.entries.Reply.TheVariants as reply
use Rattle.job_table.specs.Jobs.{Register, HeldJobs, phase_of, next_number, job, Rise, or_waiting, first_waiting}
use Rattle.job_table.specs.Steps.{outcome, most_jobs, last_number, with_new, moved, forgotten, adds, sends, claims, finish_running, finishes, kills, row_of_move}
use Rattle.job_table.proofs.JobLists.{is_itself, above_apart}
use Rattle.job_table.specs.Plans.{stage, seen_as, ledger_of, has_room, takes_texts, ended, finished_of, killed_of, Effected, PlansSo}

pub set_seen : (n : ℕ) (w : Phase) (jobs : HeldJobs) → set_value (nat_eq n) (map seen_as jobs) (stage w) ≡ map seen_as (set_value (nat_eq n) jobs w)
set_seen n w [] = refl
set_seen n w (held ∷ jobs) = at_test (set_seen n w jobs) (nat_eq n held.0)
  where
    at_test : set_value (nat_eq n) (map seen_as jobs) (stage w) ≡ map seen_as (set_value (nat_eq n) jobs w) → (b : Bool) → (if b then (held.0, stage w) ∷ map seen_as jobs else seen_as held ∷ set_value (nat_eq n) (map seen_as jobs) (stage w)) ≡ map seen_as (if b then (held.0, w) ∷ jobs else held ∷ set_value (nat_eq n) jobs w)
    at_test more true = refl
    at_test more false = ap (λ (l : List (ℕ × Stage)). seen_as held ∷ l) more

pub drop_seen : (n : ℕ) (jobs : HeldJobs) → remove_entry (nat_eq n) (map seen_as jobs) ≡ map seen_as (remove_entry (nat_eq n) jobs)
drop_seen n [] = refl
drop_seen n (held ∷ jobs) = at_test (drop_seen n jobs) (nat_eq n held.0)
  where
    at_test : remove_entry (nat_eq n) (map seen_as jobs) ≡ map seen_as (remove_entry (nat_eq n) jobs) → (b : Bool) → (if b then map seen_as jobs else seen_as held ∷ remove_entry (nat_eq n) (map seen_as jobs)) ≡ map seen_as (if b then jobs else held ∷ remove_entry (nat_eq n) jobs)
    at_test more true = refl
    at_test more false = ap (λ (l : List (ℕ × Stage)). seen_as held ∷ l) more

pub moved_seen : (n : ℕ) (w : Phase) (r : Register) → fold.moved n (stage w) (ledger_of r) ≡ ledger_of (moved n w r)
moved_seen n w r = ap (λ (jobs : List (ℕ × Stage)). record { first = r.first; jobs = jobs; issued = r.issued }) (set_seen n w r.jobs)

pub forgotten_seen : (n : ℕ) (r : Register) → fold.forgotten n (ledger_of r) ≡ ledger_of (forgotten n r)
forgotten_seen n r = ap (λ (jobs : List (ℕ × Stage)). record { first = r.first; jobs = jobs; issued = r.issued }) (drop_seen n r.jobs)

pub stage_is : (n : ℕ) (r : Register) (q : Option Phase) → phase_of n r.jobs ≡ q → stage_of n (ledger_of r) ≡ option_map stage q
stage_is n r q is = lookup-map_values stage (nat_eq n) r.jobs ∙ ap (λ (o : Option Phase). option_map stage o) is

abbrev stage_or : Stage → Option Stage → Stage
stage_or w (Some x) = x
stage_or w None = w

module _ (r : Register) where
  abbrev L : Ledger
  L = ledger_of r

  adds_so : (d : Deed) (w : Phase) (said : Reply) → ((l : Ledger) → after d l ≡ with_job (stage w) l) → Effected (if has_room r then Some d else None) L (ledger_of (adds w said r).after)
  adds_so d w said is = go (nat_le most_jobs (length r.jobs)) (nat_lt last_number (next_number r)) refl refl
    where
      go : (x y : Bool) → nat_le most_jobs (length r.jobs) ≡ x → nat_lt last_number (next_number r) ≡ y
          → Effected (if not x && not y then Some d else None) L (ledger_of (if x then outcome reply.Full r else (if y then outcome reply.Spent r else outcome said (with_new w r))).after)
      go true y ex ey = refl
      go false true ex ey = refl
      go false false ex ey =
          let full : nat_le most_jobs (length (map seen_as r.jobs)) ≡ false = ap (λ (k : ℕ). nat_le most_jobs k) (length-map r.jobs seen_as) ∙ ex in
          is L
          ∙ (λ i. if full i || ey i then None else Some (record { first = r.first; jobs = map seen_as r.jobs ++ (next_number r, stage w) ∷ []; issued = r.issued + 1 }))
          ∙ ap (λ (jobs : List (ℕ × Stage)). Some (record { first = r.first; jobs = jobs; issued = r.issued + 1 })) (sym (map-append seen_as r.jobs ((next_number r, w) ∷ [])))

  sends_so : (n : ℕ) (a b : List ℕ) (q : Option Phase) → phase_of n r.jobs ≡ q → Effected (if takes_texts q then Some (deed.Send n a b) else None) L (ledger_of (sends n a b q r).after)
  sends_so n a b (Some Issued) is = ap (λ s. fold.sends n a b s L) (stage_is n r (Some Issued) is) ∙ ap (λ l. Some l) (moved_seen n (Waiting a b) r)
  sends_so n a b (Some (Waiting c d)) is = refl
  sends_so n a b (Some (Running c d m)) is = refl
  sends_so n a b (Some (Finished d)) is = refl
  sends_so n a b (Some Killed) is = refl
  sends_so n a b None is = refl

  over : (n : ℕ) (document : Option (List ℕ)) (a b : List ℕ) (marked : Bool) → phase_of n r.jobs ≡ Some (Running a b marked) → after (deed.Finish n document) L ≡ Some (ledger_of (moved n (Finished document) r))
  over n document a b true is = ap (λ s. fold.finishes n document s L) (stage_is n r (Some (Running a b true)) is) ∙ ap (λ l. Some l) (moved_seen n (Finished document) r)
  over n document a b false is = ap (λ s. fold.finishes n document s L) (stage_is n r (Some (Running a b false)) is) ∙ ap (λ l. Some l) (moved_seen n (Finished document) r)

  ends_so : (j : Job) (asked : Bool) (document : Option (List ℕ)) (a b : List ℕ) (marked : Bool) → phase_of j.number r.jobs ≡ Some (Running a b marked)
      → Effected (ended a b marked j asked (deed.Finish j.number document)) L (ledger_of (finish_running a b marked j asked document r).after)
  ends_so j asked document a b marked is = go (bytes_eq j.osil a && bytes_eq j.osol b) (asked && not marked)
    where
      go : (x y : Bool) → Effected (if x then (if y then None else Some (deed.Finish j.number document)) else None) L
          (ledger_of (if x then (if y then outcome (reply.Finish end.Unmarked) r else outcome (reply.Finish end.Kept) (moved j.number (Finished document) r)) else outcome (reply.Finish end.Other) r).after)
      go true true = refl
      go true false = over j.number document a b marked is
      go false y = refl

  finishes_so : (j : Job) (asked : Bool) (document : Option (List ℕ)) (q : Option Phase) → phase_of j.number r.jobs ≡ q
      → Effected (finished_of j asked q (deed.Finish j.number document)) L (ledger_of (finishes j asked document q r).after)
  finishes_so j asked document (Some (Running a b marked)) is = ends_so j asked document a b marked is
  finishes_so j asked document (Some Issued) is = refl
  finishes_so j asked document (Some (Waiting a b)) is = refl
  finishes_so j asked document (Some (Finished d)) is = refl
  finishes_so j asked document (Some Killed) is = refl
  finishes_so j asked document None is = refl

  set_same : (n : ℕ) (w : Stage) (jobs : List (ℕ × Stage)) → lookup (nat_eq n) jobs ≡ Some w → set_value (nat_eq n) jobs w ≡ jobs
  set_same n w [] is = refl
  set_same n w (held ∷ jobs) is = at_test (λ e. set_same n w jobs e) (nat_eq n held.0) is
    where
      at_test : (lookup (nat_eq n) jobs ≡ Some w → set_value (nat_eq n) jobs w ≡ jobs) → (b : Bool) → (if b then Some held.1 else lookup (nat_eq n) jobs) ≡ Some w → (if b then (held.0, w) ∷ jobs else held ∷ set_value (nat_eq n) jobs w) ≡ held ∷ jobs
      at_test more true e = ap (λ (o : Option Stage). (held.0, stage_or w o) ∷ jobs) (sym e)
      at_test more false e = ap (λ (l : List (ℕ × Stage)). held ∷ l) (more e)

  kills_so : (n : ℕ) (q : Option Phase) → phase_of n r.jobs ≡ q → Effected (killed_of n q) L (ledger_of (kills n q r))
  kills_so n (Some Issued) is = ap (λ s. fold.kills n s L) (stage_is n r (Some Issued) is) ∙ ap (λ l. Some l) (moved_seen n Killed r)
  kills_so n (Some (Waiting a b)) is = ap (λ s. fold.kills n s L) (stage_is n r (Some (Waiting a b)) is) ∙ ap (λ l. Some l) (moved_seen n Killed r)
  kills_so n (Some (Running a b false)) is = ap (λ s. fold.marks n s L) (stage_is n r (Some (Running a b false)) is) ∙ ap (λ l. Some l) (moved_seen n (Running a b true) r)
  kills_so n (Some (Running a b true)) is =
      sym (moved_seen n (Running a b true) r) ∙ ap (λ (jobs : List (ℕ × Stage)). record { first = r.first; jobs = jobs; issued = r.issued }) (set_same n (Asked a b) (map seen_as r.jobs) (stage_is n r (Some (Running a b true)) is))
  kills_so n (Some (Finished d)) is = ap (λ s. fold.gives_up n s L) (stage_is n r (Some (Finished d)) is) ∙ ap (λ l. Some l) (forgotten_seen n r)
  kills_so n (Some Killed) is = ap (λ s. fold.gives_up n s L) (stage_is n r (Some Killed) is) ∙ ap (λ l. Some l) (forgotten_seen n r)
  kills_so n None is = refl

abbrev IsNoJob : Option Job → Type 0
IsNoJob None = Unit {0}
IsNoJob (Some j) = ⊥

no_job : (j : Job) → None ≡ Some j → ⊥
no_job j e = subst IsNoJob e tt

abbrev job_or : Job → Option Job → Job
job_or j None = j
job_or j (Some i) = i

-- the first job that waits does
waits : (low : ℕ) (jobs : HeldJobs) (high : ℕ) (j : Job) → Rise low jobs high → first_waiting jobs ≡ Some j → (phase_of j.number jobs ≡ Some (Waiting j.osil j.osol)) × (low ≤ j.number)
waits low [] high j rise is = absurd (no_job j is)
waits low (e ∷ es) high j rise is = here (λ next. waits (e.0 + 1) es high j rise.1 next) e.1 refl is
  where
    later : (first_waiting es ≡ Some j → (phase_of j.number es ≡ Some (Waiting j.osil j.osol)) × (e.0 + 1 ≤ j.number)) → first_waiting es ≡ Some j → (phase_of j.number (e ∷ es) ≡ Some (Waiting j.osil j.osol)) × (low ≤ j.number)
    later behind next =
        let more = behind next in
        (ap (λ b. if b then Some e.1 else phase_of j.number es) (above_apart j.number e.0 (omega (arith, more.1))) ∙ more.0, omega (arith, rise.0, more.1))

    here : (first_waiting es ≡ Some j → (phase_of j.number es ≡ Some (Waiting j.osil j.osol)) × (e.0 + 1 ≤ j.number)) → (p : Phase) → e.1 ≡ p → or_waiting e.0 p (first_waiting es) ≡ Some j → (phase_of j.number (e ∷ es) ≡ Some (Waiting j.osil j.osol)) × (low ≤ j.number)
    here behind (Waiting a b) same next =
        subst (λ (k : Job). (phase_of k.number (e ∷ es) ≡ Some (Waiting k.osil k.osol)) × (low ≤ k.number)) (ap (λ (o : Option Job). job_or j o) next)
        (ap (λ b. if b then Some e.1 else phase_of e.0 es) (is_itself e.0) ∙ ap (λ (p : Phase). Some p) same, rise.0)
    here behind Issued same next = later behind next
    here behind (Running a b m) same next = later behind next
    here behind (Finished d) same next = later behind next
    here behind Killed same next = later behind next

claims_so : (r : Register) (worker : Bool) → Rise r.first r.jobs (next_number r) → Effected None (ledger_of r) (ledger_of (row_of_move (Claim worker) r).after)
claims_so r worker rise = go (not worker && nat_lt 0 r.workers) (first_waiting r.jobs) refl
  where
    go : (b : Bool) (q : Option Job) → first_waiting r.jobs ≡ q → ledger_of (if b then outcome (reply.Gave None) r else claims q r).after ≡ ledger_of r
    go true q is = refl
    go false None is = refl
    go false (Some j) is =
        sym (moved_seen j.number (Running j.osil j.osol false) r)
        ∙ ap (λ (jobs : List (ℕ × Stage)). record { first = r.first; jobs = jobs; issued = r.issued })
        (set_same r j.number (Sent j.osil j.osol) (map seen_as r.jobs) (stage_is j.number r (Some (Waiting j.osil j.osol)) (waits r.first r.jobs (next_number r) j rise is).0))

pub plans_so : PlansSo
plans_so Issue r rise = adds_so r deed.Issue Issued (reply.Issued (next_number r)) (λ l. refl)
plans_so (Send n a b) r rise = sends_so r n a b (phase_of n r.jobs) refl
plans_so (Enter a b) r rise = adds_so r (deed.Enter a b) (Running a b false) (reply.Gave (Some (job (next_number r) a b))) (λ l. refl)
plans_so (Claim worker) r rise = claims_so r worker rise
plans_so (Look n) r rise = refl
plans_so (Finish j asked document) r rise = finishes_so r j asked document (phase_of j.number r.jobs) refl
plans_so (Kill n) r rise = kills_so r n (phase_of n r.jobs) refl
plans_so (Retrieve n) r rise = refl
plans_so Knock r rise = refl
plans_so Enlist r rise = refl
plans_so Leave r rise = refl
