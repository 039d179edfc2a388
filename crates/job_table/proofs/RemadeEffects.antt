-- Effects that are made again lead where effects lead.
use Rattle.std.proofs.Common.{◌≡◌, ℕ, ◌+◌, nat_eq, nat_le, nat_lt, Bool, true, false, ◌||◌, if◌then◌else◌, List, [], ◌∷◌, ◌++◌, length, map, Option, Some, None, Result, Ok, Err, IsSome, refl, sym, ◌∙◌, ap, subst}
use Rattle.std.specs.Prelude.{is_some}
use Rattle.std.specs.Option.{option_map}
use Rattle.std.proofs.lemmas.List.{map-append, length-map}
use Rattle.effects.specs.Records.{Deed}
use Rattle.effects.specs.Records as deed
use Rattle.effects.specs.Fold.{Stage, Given, Sent, Asked, Over, Stopped, Ledger, after, with_job, osil_in, stage_of}
use Rattle.effects.specs.Fold as fold
use Rattle.job_table.specs.declared.job.Phase.{Phase}
use Rattle.job_table.specs.declared.job.Phase.TheVariants.{Issued, Waiting, Running, Finished, Killed}
use Rattle.job_table.specs.declared.entries.IssueFault.{IssueFault}
use Rattle.job_table.specs.declared.entries.IssueFault.TheVariants as fault
use Rattle.job_table.specs.declared.entries.Reply.{Reply}
use Rattle.job_table.specs.declared.entries.Reply.TheVariants as reply
use Rattle.job_table.specs.Jobs.{Register, HeldJobs, phase_of, with_phase, without, next_number, marked}
use Rattle.job_table.specs.Steps.{MoveOutcome, outcome, most_jobs, last_number, with_new, moved, forgotten, adds, added_reply, LeadsBy}
use Rattle.job_table.specs.Plans.{stage, seen_as, ledger_of, takes_texts}
use Rattle.job_table.specs.Remade.{takes_document, takes_kill, takes_mark, takes_farewell, IsAtRest, AllAtRest, IsRemade, Remakes, TriesAgain, osil_of}
use Rattle.job_table.proofs.JobLists.{some_is}
use Rattle.job_table.proofs.MoveEffects.{moved_seen, forgotten_seen, stage_is}

-- each row of the effects, by the job's phase
text_row : (n : ℕ) (a b : List ℕ) (q : Option Phase) (l : Ledger) → fold.sends n a b (option_map stage q) l ≡ (if takes_texts q then Some (fold.moved n (Sent a b) l) else None)
text_row n a b None l = refl
text_row n a b (Some Issued) l = refl
text_row n a b (Some (Waiting c d)) l = refl
text_row n a b (Some (Running c d true)) l = refl
text_row n a b (Some (Running c d false)) l = refl
text_row n a b (Some (Finished d)) l = refl
text_row n a b (Some Killed) l = refl

document_row : (n : ℕ) (d : Option (List ℕ)) (q : Option Phase) (l : Ledger) → fold.finishes n d (option_map stage q) l ≡ (if takes_document q then Some (fold.moved n (Over d) l) else None)
document_row n d None l = refl
document_row n d (Some Issued) l = refl
document_row n d (Some (Waiting a b)) l = refl
document_row n d (Some (Running a b true)) l = refl
document_row n d (Some (Running a b false)) l = refl
document_row n d (Some (Finished e)) l = refl
document_row n d (Some Killed) l = refl

kill_row : (n : ℕ) (q : Option Phase) (l : Ledger) → fold.kills n (option_map stage q) l ≡ (if takes_kill q then Some (fold.moved n Stopped l) else None)
kill_row n None l = refl
kill_row n (Some Issued) l = refl
kill_row n (Some (Waiting a b)) l = refl
kill_row n (Some (Running a b true)) l = refl
kill_row n (Some (Running a b false)) l = refl
kill_row n (Some (Finished d)) l = refl
kill_row n (Some Killed) l = refl

mark_row : (n : ℕ) (q : Option Phase) (l : Ledger) → takes_mark q ≡ false → fold.marks n (option_map stage q) l ≡ None
mark_row n None l refuses = refl
mark_row n (Some Issued) l refuses = refl
mark_row n (Some (Waiting a b)) l refuses = cc
mark_row n (Some (Running a b true)) l refuses = refl
mark_row n (Some (Running a b false)) l refuses = cc
mark_row n (Some (Finished d)) l refuses = refl
mark_row n (Some Killed) l refuses = refl

farewell_row : (n : ℕ) (q : Option Phase) (l : Ledger) → fold.gives_up n (option_map stage q) l ≡ (if takes_farewell q then Some (fold.forgotten n l) else None)
farewell_row n None l = refl
farewell_row n (Some Issued) l = refl
farewell_row n (Some (Waiting a b)) l = refl
farewell_row n (Some (Running a b true)) l = refl
farewell_row n (Some (Running a b false)) l = refl
farewell_row n (Some (Finished d)) l = refl
farewell_row n (Some Killed) l = refl

-- jobs of which each that runs was asked to stop
rest_with : (n : ℕ) (w : Phase) (jobs : HeldJobs) → IsAtRest w → AllAtRest jobs → AllAtRest (with_phase n w jobs)
rest_with n w [] rest all = tt
rest_with n w (e ∷ es) rest all = at_test (rest_with n w es rest all.1) (nat_eq n e.0)
  where
    at_test : AllAtRest (with_phase n w es) → (b : Bool) → AllAtRest (if b then (e.0, w) ∷ es else e ∷ with_phase n w es)
    at_test more true = (rest, all.1)
    at_test more false = (all.0, more)

rest_without : (n : ℕ) (jobs : HeldJobs) → AllAtRest jobs → AllAtRest (without n jobs)
rest_without n [] all = tt
rest_without n (e ∷ es) all = at_test (rest_without n es all.1) (nat_eq n e.0)
  where
    at_test : AllAtRest (without n es) → (b : Bool) → AllAtRest (if b then es else e ∷ without n es)
    at_test more true = all.1
    at_test more false = (all.0, more)

rest_more : (n : ℕ) (w : Phase) (jobs : HeldJobs) → IsAtRest w → AllAtRest jobs → AllAtRest (jobs ++ (n, w) ∷ [])
rest_more n w [] rest all = (rest, tt)
rest_more n w (e ∷ es) rest all = (all.0, rest_more n w es rest all.1)

-- a job that is put and then given up is given up
gone_put : (n : ℕ) (v : Phase) (jobs : HeldJobs) → without n (with_phase n v jobs) ≡ without n jobs
gone_put n v [] = refl
gone_put n v (e ∷ es) = at_test (nat_eq n e.0) refl (gone_put n v es)
  where
    at_test : (b : Bool) → nat_eq n e.0 ≡ b → without n (with_phase n v es) ≡ without n es
        → without n (if b then (e.0, v) ∷ es else e ∷ with_phase n v es) ≡ (if b then es else e ∷ without n es)
    at_test true is more = ap (λ b. if b then es else (e.0, v) ∷ without n es) is
    at_test false is more = ap (λ b. if b then with_phase n v es else e ∷ without n (with_phase n v es)) is ∙ ap (λ s. e ∷ s) more

-- a job that takes something is held
pub held_by : (takes : Option Phase → Bool) (q : Option Phase) → takes None ≡ false → takes q ≡ true → IsSome q
held_by takes None none takes_it = let wrong : false ≡ true = sym none ∙ takes_it in cc
held_by takes (Some x) none takes_it = some_is x

-- an effect that isn't possible
pub not_again : (d : Deed) (r : Register) (some : Option Ledger) (takes : Bool) → after d (ledger_of r) ≡ (if takes then some else None) → takes ≡ false → Remakes d r false r
not_again d r some true is refuses = cc
not_again d r some false is refuses = (is, refl)

-- an effect that puts a job into another phase
pub moves_again : (d : Deed) (n : ℕ) (v w : Phase) (r new : Register) (takes : Bool) → new ≡ moved n w r → w ≡ v → IsAtRest v
    → after d (ledger_of r) ≡ (if takes then Some (fold.moved n (stage v) (ledger_of r)) else None) → takes ≡ true → Remakes d r true new
moves_again d n v w r new false is same rest row takes_it = cc
moves_again d n v w r new true is same rest row takes_it =
    subst (λ (x : Register). Remakes d r true x) (sym (is ∙ ap (λ x. moved n x r) same))
    (row ∙ ap (λ (l : Ledger). Some l) (moved_seen n v r), λ m. record { nobody = m.nobody; at_rest = rest_with n v r.jobs rest m.at_rest })

module _ (n : ℕ) (r : Register) where
  abbrev Q : Option Phase
  Q = phase_of n r.jobs

  abbrev L : Ledger
  L = ledger_of r

  pub texts_after : (a b : List ℕ) → after (deed.Send n a b) L ≡ (if takes_texts Q then Some (fold.moved n (Sent a b) L) else None)
  texts_after a b = ap (λ s. fold.sends n a b s L) (stage_is n r Q refl) ∙ text_row n a b Q L

  pub document_after : (d : Option (List ℕ)) → after (deed.Finish n d) L ≡ (if takes_document Q then Some (fold.moved n (Over d) L) else None)
  document_after d = ap (λ s. fold.finishes n d s L) (stage_is n r Q refl) ∙ document_row n d Q L

  pub kill_after : after (deed.Killed n) L ≡ (if takes_kill Q then Some (fold.moved n Stopped L) else None)
  kill_after = ap (λ s. fold.kills n s L) (stage_is n r Q refl) ∙ kill_row n Q L

  pub no_texts : (a b : List ℕ) → takes_texts Q ≡ false → Remakes (deed.Send n a b) r false r
  no_texts a b refuses = not_again (deed.Send n a b) r (Some (fold.moved n (Sent a b) L)) (takes_texts Q) (texts_after a b) refuses

  pub no_document : (d : Option (List ℕ)) → takes_document Q ≡ false → Remakes (deed.Finish n d) r false r
  no_document d refuses = not_again (deed.Finish n d) r (Some (fold.moved n (Over d) L)) (takes_document Q) (document_after d) refuses

  pub no_kill : takes_kill Q ≡ false → Remakes (deed.Killed n) r false r
  no_kill refuses = not_again (deed.Killed n) r (Some (fold.moved n Stopped L)) (takes_kill Q) kill_after refuses

  farewell_after : after (deed.GivenUp n) L ≡ (if takes_farewell Q then Some (fold.forgotten n L) else None)
  farewell_after = ap (λ s. fold.gives_up n s L) (stage_is n r Q refl) ∙ farewell_row n Q L

  pub no_farewell : takes_farewell Q ≡ false → Remakes (deed.GivenUp n) r false r
  no_farewell refuses = not_again (deed.GivenUp n) r (Some (fold.forgotten n L)) (takes_farewell Q) farewell_after refuses

  pub no_mark : takes_mark Q ≡ false → Remakes (deed.Marked n) r false r
  no_mark refuses = (ap (λ s. fold.marks n s L) (stage_is n r Q refl) ∙ mark_row n Q L refuses, refl)

  mark_after : (a b : List ℕ) (new : Register) → new ≡ moved n (Running a b true) r → fold.stage_of n L ≡ Some (Sent a b) → Remakes (deed.Marked n) r true new
  mark_after a b new is sent = moves_again (deed.Marked n) n (Running a b true) (Running a b true) r new true is refl refl (ap (λ s. fold.marks n s L) sent) refl

  -- a job that takes a mark has its texts
  pub marks_again : (q : Option Phase) (new : Register) → Q ≡ q → takes_mark q ≡ true → ((w : Phase) → q ≡ Some w → new ≡ moved n (marked w) r)
      → Remakes (deed.Marked n) r true new
  marks_again (Some (Waiting a b)) new is takes_it leads = mark_after a b new (leads (Waiting a b) refl) (stage_is n r (Some (Waiting a b)) is)
  marks_again (Some (Running a b false)) new is takes_it leads = mark_after a b new (leads (Running a b false) refl) (stage_is n r (Some (Running a b false)) is)
  marks_again (Some (Running a b true)) new is takes_it leads = cc
  marks_again (Some Issued) new is takes_it leads = cc
  marks_again (Some (Finished d)) new is takes_it leads = cc
  marks_again (Some Killed) new is takes_it leads = cc
  marks_again None new is takes_it leads = cc

  -- a job that is given up was put before
  pub goes_again : (v : Phase) (mid new : Register) → mid ≡ moved n v r → new ≡ forgotten n mid → takes_farewell Q ≡ true → Remakes (deed.GivenUp n) r true new
  goes_again v mid new first second takes_it =
      subst (λ (x : Register). Remakes (deed.GivenUp n) r true x)
      (sym (second ∙ ap (forgotten n) first ∙ ap (λ (jobs : HeldJobs). record r { jobs = jobs }) (gone_put n v r.jobs)))
      (farewell_after ∙ ap (λ b. if b then Some (fold.forgotten n L) else None) takes_it ∙ ap (λ (l : Ledger). Some l) (forgotten_seen n r), λ m. record { nobody = m.nobody; at_rest = rest_without n r.jobs m.at_rest })

-- what making a new job again says, by its answer
abbrev pub AddedAgain : Deed → Register → Result ℕ IssueFault → Register → Type 0
AddedAgain d old (Ok n) new = Remakes d old true new
AddedAgain d old (Err fault.Full) new = Remakes d old false new
AddedAgain d old (Err fault.Spent) new = Remakes d old false new
AddedAgain d old (Err fault.Memory) new = new ≡ old

module _ (d : Deed) (w : Phase) (old new : Register) (rest : IsAtRest w) (is : (l : Ledger) → after d l ≡ with_job (stage w) l) where
  added_by : (x y : Bool) (res : Result ℕ IssueFault) → after d (ledger_of old) ≡ (if x || y then None else Some (ledger_of (with_new w old)))
      → ((said : Reply) → LeadsBy (if x then outcome reply.Full old else (if y then outcome reply.Spent old else outcome said (with_new w old))) old (added_reply (λ _. said) res) new)
      → AddedAgain d old res new
  added_by x y (Err fault.Memory) row leads = leads reply.Done
  added_by true y (Ok n) row leads = let wrong : reply.Full ≡ reply.Done = ap (λ (o : MoveOutcome). o.reply) (leads reply.Done) in cc
  added_by true y (Err fault.Full) row leads = (row, sym (ap (λ (o : MoveOutcome). o.after) (leads reply.Done)))
  added_by true y (Err fault.Spent) row leads = let wrong : reply.Full ≡ reply.Spent = ap (λ (o : MoveOutcome). o.reply) (leads reply.Done) in cc
  added_by false true (Ok n) row leads = let wrong : reply.Spent ≡ reply.Done = ap (λ (o : MoveOutcome). o.reply) (leads reply.Done) in cc
  added_by false true (Err fault.Full) row leads = let wrong : reply.Spent ≡ reply.Full = ap (λ (o : MoveOutcome). o.reply) (leads reply.Done) in cc
  added_by false true (Err fault.Spent) row leads = (row, sym (ap (λ (o : MoveOutcome). o.after) (leads reply.Done)))
  added_by false false (Ok n) row leads =
      subst (λ (x : Register). Remakes d old true x) (ap (λ (o : MoveOutcome). o.after) (leads reply.Done))
      (row, λ m. record { nobody = m.nobody; at_rest = rest_more (next_number old) w old.jobs rest m.at_rest })
  added_by false false (Err fault.Full) row leads = let wrong : reply.Done ≡ reply.Full = ap (λ (o : MoveOutcome). o.reply) (leads reply.Done) in cc
  added_by false false (Err fault.Spent) row leads = let wrong : reply.Done ≡ reply.Spent = ap (λ (o : MoveOutcome). o.reply) (leads reply.Done) in cc

  row_after : after d (ledger_of old) ≡ (if nat_le most_jobs (length old.jobs) || nat_lt last_number (next_number old) then None else Some (ledger_of (with_new w old)))
  row_after =
      is (ledger_of old)
      ∙ ap (λ (k : ℕ). if nat_le most_jobs k || nat_lt last_number (next_number old) then None else Some (record { first = old.first; jobs = map seen_as old.jobs ++ (next_number old, stage w) ∷ []; issued = old.issued + 1 })) (length-map old.jobs seen_as)
      ∙ ap (λ (jobs : List (ℕ × Stage)). if nat_le most_jobs (length old.jobs) || nat_lt last_number (next_number old) then None else Some (record { first = old.first; jobs = jobs; issued = old.issued + 1 })) (sym (map-append seen_as old.jobs ((next_number old, w) ∷ [])))

  pub adds_again : (res : Result ℕ IssueFault) → ((said : Reply) → LeadsBy (adds w said old) old (added_reply (λ _. said) res) new) → AddedAgain d old res new
  adds_again res leads = added_by (nat_le most_jobs (length old.jobs)) (nat_lt last_number (next_number old)) res row_after leads

-- the invariant stays, and the trait's clause holds
pub remade_on : (d : Deed) (old new : Register) (made : Bool) → Remakes d old made new → IsRemade old → IsRemade new
remade_on d old new true made before = made.1 before
remade_on d old new false made before = subst IsRemade (sym made.1) before

pub tried_on : {E : Type 0} (d : Deed) (old new : Register) (res : Result Bool E) → TriesAgain d old res new → IsRemade old → IsRemade new
tried_on d old new (Ok made) tried before = remade_on d old new made tried before
tried_on d old new (Err lost) tried before = subst IsRemade (sym tried) before

osil_row : (q : Option Phase) → osil_in (option_map stage q) ≡ osil_of q
osil_row None = refl
osil_row (Some Issued) = refl
osil_row (Some (Waiting a b)) = refl
osil_row (Some (Running a b true)) = refl
osil_row (Some (Running a b false)) = refl
osil_row (Some (Finished d)) = refl
osil_row (Some Killed) = refl

pub osil_seen : (n : ℕ) (r : Register) → osil_of (phase_of n r.jobs) ≡ osil_in (stage_of n (ledger_of r))
osil_seen n r = sym (ap osil_in (stage_is n r (phase_of n r.jobs) refl) ∙ osil_row (phase_of n r.jobs))

there_row : (q : Option Phase) → is_some (option_map stage q) ≡ is_some q
there_row (Some p) = refl
there_row None = refl

pub there_seen : (n : ℕ) (r : Register) → is_some (phase_of n r.jobs) ≡ is_some (stage_of n (ledger_of r))
there_seen n r = sym (ap is_some (stage_is n r (phase_of n r.jobs) refl) ∙ there_row (phase_of n r.jobs))
