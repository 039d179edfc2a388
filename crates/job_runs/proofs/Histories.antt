-- Runs in a history.
use Rattle.std.proofs.Common.{◌≡◌, ℕ, Bool, true, false, not, ◌&&◌, cond, List, [], ◌∷◌, ◌++◌, Option, Some, None, refl, sym, ◌∙◌, ap, subst, inl, inr, bytes_eq}
use Rattle.std.proofs.lemmas.List.Elements.{All-nil, All-cons, All-append, All-head, All-tail}
use Rattle.job_table.specs.declared.job.Job.{Job}
use Rattle.job_table.specs.declared.job.Phase.{Phase}
use Rattle.job_table.specs.declared.job.Phase.TheVariants as phase
use Rattle.job_table.specs.declared.entries.TableMove.{TableMove}
use Rattle.job_table.specs.declared.entries.TableMove.TheVariants as moves
use Rattle.job_table.specs.declared.entries.TableMove.TheVariants.{Finish}
use Rattle.job_table.specs.declared.entries.Finishing.TheVariants as ends
use Rattle.job_table.specs.declared.entries.Reply.{Reply}
use Rattle.job_table.specs.declared.entries.Reply.TheVariants as reply
use Rattle.job_table.specs.Jobs.{Register, phase_of}
use Rattle.job_table.specs.Steps.{MoveOutcome, Step, finishes}
use Rattle.job_table.specs.History.{MoveEntry, entry_of_move, LeadsStepwise, LeadsOn, MovesOn, NoFinish, WasTold}
use Rattle.job_table.specs.Laws.{FirstFinishIsKept}
use Rattle.job_table.specs.Looks.{looks}
use Rattle.job_table.proofs.Histories.{chains_split}
use Rattle.job_runs.specs.Runs.{stop_if, end_reply}
use Rattle.job_runs.specs.Laws.{kept_if_finish, IsFinishKept, AreKept, IsKeptIfStored, AreKeptIfStored, RunsAreKept}
use Rattle.job_runs.proofs.Judgements.{Made, Judgement}

no_finish : (n : ℕ) (answers : List Bool) → NoFinish n (looks n answers)
no_finish n [] = tt
no_finish n (a ∷ answers) = (refl, no_finish n answers)

told_last : (n : ℕ) (before : List Bool) → WasTold n (looks n (before ++ true ∷ []))
told_last n [] = inl refl
told_last n (b ∷ before) = inr (told_last n before)

looks_kept : (n : ℕ) (answers : List Bool) → AreKeptIfStored (looks n answers)
looks_kept n [] = All-nil IsKeptIfStored
looks_kept n (a ∷ answers) = All-cons IsKeptIfStored _ _ (inl refl) (looks_kept n answers)

-- a finish that is answered so, where a made one is kept
pub ends_so : (right : Judgement) (j : Job) (asked : Bool) (document : Option (List ℕ)) (said : Reply) (now after : Register) → MovesOn right now (Finish j asked document) said after
    → (Step right now (Finish j asked document) said after → said ≡ reply.Finish ends.Kept) → IsKeptIfStored (entry_of_move (Finish j asked document) said)
ends_so right j asked document said now after (inl step) kept =
    inl (subst (λ (last : Reply). IsFinishKept (entry_of_move (Finish j asked document) last)) (sym (kept step)) refl)
ends_so right j asked document said now after (inr (fault, says, may, same)) kept = inr (fault, says)

-- what gave a job was made
pub gave_made : (right : Judgement) (move : TableMove) (j : Job) (r s : Register) → MovesOn right r move (reply.Gave (Some j)) s → Step right r move (reply.Gave (Some j)) s
gave_made right move j r s (inl step) = step
gave_made right move j r s (inr (fault, says, may, same)) = absurd cc

-- the finish of a run is kept, where it is stored
pub run_kept : (made : Made) (right : Judgement) → FirstFinishIsKept right → RunsAreKept made right
run_kept made right law start j move fault before run now rises giving r runs =
    let said : Reply = end_reply fault r.end in
    let finish : MoveEntry = entry_of_move (Finish j r.asked r.document) said in
    let (old, first, (new, gave, rest)) = chains_split (MovesOn right) start now before (entry_of_move move (reply.Gave (Some j)) ∷ run) runs in
    let (mid, looked, (after, finished, over)) = chains_split (MovesOn right) new now (looks j.number r.answers) (finish ∷ [])
    (subst (λ (es : List MoveEntry). LeadsOn right new es now) r.are rest) in
    subst (λ (es : List MoveEntry). AreKeptIfStored es) (sym r.are)
    (All-append IsKeptIfStored (looks j.number r.answers) (finish ∷ []) (looks_kept j.number r.answers)
    (All-cons IsKeptIfStored finish []
    (ends_so right j r.asked r.document said mid after finished
    (λ step. law j before (looks j.number r.answers) mid after r.asked r.document said
    (record { start = start; rises = rises; old = old; new = new; table_move = move; runs = first; giving = giving; gave = gave_made right move j old new gave; rest = looked })
    (no_finish j.number r.answers)
    (λ asked. subst (λ (l : List Bool). WasTold j.number (looks j.number l))
    (sym (r.looked.are ∙ ap (λ b. r.looked.before ++ stop_if b) asked)) (told_last j.number r.looked.before))
    step))
    (All-nil IsKeptIfStored)))

-- ---- where each move was made

abbrev is_finish_reply : Reply → Bool
is_finish_reply (reply.Finish end) = true
is_finish_reply _ = false

either_so : (b : Bool) (x y : MoveOutcome) → is_finish_reply x.reply ≡ true → is_finish_reply y.reply ≡ true → is_finish_reply (cond b x y).reply ≡ true
either_so true x y p q = p
either_so false x y p q = q

-- a finish is replied as such
finish_replied : (j : Job) (asked : Bool) (document : Option (List ℕ)) (r : Register) (q : Option Phase) → is_finish_reply (finishes j asked document q r).reply ≡ true
finish_replied j asked document r (Some (phase.Running osil osol marked)) =
    either_so (bytes_eq j.osil osil && bytes_eq j.osol osol) _ _ (either_so (asked && not marked) _ _ refl refl) refl
finish_replied j asked document r (Some phase.Issued) = refl
finish_replied j asked document r (Some (phase.Waiting osil osol)) = refl
finish_replied j asked document r (Some (phase.Finished d)) = refl
finish_replied j asked document r (Some phase.Killed) = refl
finish_replied j asked document r None = refl

kept_so : (right : Judgement) (move : TableMove) (said : Reply) (r s : Register) → Step right r move said s → IsKeptIfStored (entry_of_move move said) → kept_if_finish move said ≡ true
kept_so right move said r s step (inl kept) = kept
kept_so right (moves.Finish j asked document) said r s step (inr (fault, says)) =
    let replied : is_finish_reply said ≡ true = ap (λ (x : MoveOutcome). is_finish_reply x.reply) (sym step.is) ∙ finish_replied j asked document r (phase_of j.number r.jobs) in
    let wrong : true ≡ false = sym replied ∙ ap is_finish_reply says in absurd cc
kept_so right move said r s step (inr (fault, says)) = refl

-- every finish among moves that were made is kept
pub kept_stepwise : (right : Judgement) (r s : Register) (es : List MoveEntry) → LeadsStepwise right r es s → AreKeptIfStored es → AreKept es
kept_stepwise right r s [] runs kept = All-nil IsFinishKept
kept_stepwise right r s (e ∷ es) (next, step, rest) kept =
    All-cons IsFinishKept e es (kept_so right e.table_move e.reply r next step (All-head IsKeptIfStored e es kept)) (kept_stepwise right next s es rest (All-tail IsKeptIfStored e es kept))
