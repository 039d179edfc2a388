-- Behind a shift no job waits.
use Rattle.std.proofs.Common.{◌≡◌, ℕ, ◌+◌, Bool, true, false, cond, List, [], ◌∷◌, Option, Some, None, refl, sym, ap, ◌∙◌, subst, inl, inr}
use Rattle.std.proofs.lemmas.List.Sums.{sum_by-cons}
use Rattle.job_table.specs.declared.job.Job.{Job}
use Rattle.job_table.specs.declared.job.Phase.{Phase}
use Rattle.job_table.specs.declared.job.Phase.TheVariants.{Issued, Waiting, Running, Finished, Killed}
use Rattle.job_table.specs.declared.entries.TableMove.TheVariants.{Claim, Leave}
use Rattle.job_table.specs.declared.entries.Reply.TheVariants as reply
use Rattle.job_table.specs.Jobs.{HeldJobs, Register, job, is_waiting, or_waiting, first_waiting, waiting_jobs}
use Rattle.job_table.specs.Steps.{MoveOutcome, outcome, claims}
use Rattle.job_table.specs.History.{MoveEntry, entry_of_move, LeadsOn, MovesOn}
use Rattle.job_table.proofs.Histories.{chains_split}
use Rattle.workers.specs.Shifts.{WorksUntilNone, WorksThrough}
use Rattle.job_runs.proofs.Judgements.{Made, Judgement}

some_is_not_none : (j : Job) → Some j ≡ None → ⊥
some_is_not_none j e = cc

gave_is_not_none : (j : Job) → reply.Gave (Some j) ≡ reply.Gave None → ⊥
gave_is_not_none j e = cc

-- where no job is the first that waits, none waits
not_waiting : (n : ℕ) (phase : Phase) (other : Option Job) → or_waiting n phase other ≡ None → (is_waiting phase ≡ false) × (other ≡ None)
not_waiting n Issued other none = (refl, none)
not_waiting n (Waiting osil osol) other none = absurd (some_is_not_none (job n osil osol) none)
not_waiting n (Running osil osol marked) other none = (refl, none)
not_waiting n (Finished document) other none = (refl, none)
not_waiting n Killed other none = (refl, none)

none_first : (jobs : HeldJobs) → first_waiting jobs ≡ None → waiting_jobs jobs ≡ 0
none_first [] none = refl
none_first (held ∷ jobs) none =
    let (idle, rest) = not_waiting held.0 held.1 (first_waiting jobs) none in
    sum_by-cons (λ (h : ℕ × Phase). cond (is_waiting h.1) 1 0) held jobs ∙ ap (λ (b : Bool). cond b 1 0 + waiting_jobs jobs) idle ∙ ap (λ (n : ℕ). 0 + n) (none_first jobs rest)

-- a worker's claim that gave none found no job that waits
claims_none : (first : Option Job) (r next : Register) → claims first r ≡ outcome (reply.Gave None) next → (first ≡ None) × (next ≡ r)
claims_none None r next is = (refl, ap (λ (o : MoveOutcome). o.after) (sym is))
claims_none (Some j) r next is = absurd (gave_is_not_none j (ap (λ (o : MoveOutcome). o.reply) is))

module _ (made : Made) (right : Judgement) where
  idle_after : (mid next : Register) → MovesOn right mid (Claim true) (reply.Gave None) next → waiting_jobs next.jobs ≡ 0
  idle_after mid next (inl step) =
      let (none, stays) = claims_none (first_waiting mid.jobs) mid next step.is in
      ap (λ (s : Register). waiting_jobs s.jobs) stays ∙ none_first mid.jobs none
  idle_after mid next (inr (fault, says, may, same)) = absurd cc

  same_waiting : (mid last : Register) → MovesOn right mid Leave reply.Done last → waiting_jobs last.jobs ≡ waiting_jobs mid.jobs
  same_waiting mid last (inl step) = ap (λ (o : MoveOutcome). waiting_jobs o.after.jobs) (sym step.is)
  same_waiting mid last (inr (fault, says, may, same)) = absurd cc

  rests_idle : (r after : Register) (es : List MoveEntry) → WorksUntilNone made es → LeadsOn right r es after → waiting_jobs after.jobs ≡ 0
  rests_idle r after es rests runs =
      let (mid, before, (next, step, same)) = chains_split (MovesOn right) r after rests.before (entry_of_move (Claim true) (reply.Gave None) ∷ [])
      (subst (λ (l : List MoveEntry). LeadsOn right r l after) rests.are runs) in
      ap (λ (s : Register). waiting_jobs s.jobs) same ∙ idle_after mid next step

  pub shift_leaves_none : (r after : Register) (es : List MoveEntry) → WorksThrough made es → LeadsOn right r es after → waiting_jobs after.jobs ≡ 0
  shift_leaves_none r after es works runs =
      let (next, enlists, later) = subst (λ (l : List MoveEntry). LeadsOn right r l after) works.are runs in
      let (mid, shift, (last, leaves, same)) = chains_split (MovesOn right) next after works.shift (entry_of_move Leave reply.Done ∷ []) later in
      ap (λ (s : Register). waiting_jobs s.jobs) same ∙ same_waiting mid last leaves ∙ rests_idle next mid works.shift works.rests shift
