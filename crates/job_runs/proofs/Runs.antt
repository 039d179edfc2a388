-- A job's run, and the moves round it.
use Rattle.std.proofs.Common.{◌≡◌, ℕ, ◌+◌, nat_lt, Bool, true, false, List, [], ◌∷◌, ◌++◌, Option, Some, None, IfSome, IfNone, refl, sym, ap, subst, append-nil, inl, inr, arith, rules, IsTrue, ◌↔◌, IsSome}
use Rattle.std.proofs.lemmas.Bool.Decides.{nat_tests}
use Rattle.os_io.specs.Looks.{stops_of}
use Rattle.os_io.specs.Laws.{stops_more}
use Rattle.job_table.specs.declared.entries.TableMove.TheVariants.{Claim, Finish, Enter, Retrieve}
use Rattle.effects.specs.declared.store.NotStored.{NotStored}
use Rattle.job_table.specs.declared.entries.Reply.{Reply}
use Rattle.job_table.specs.declared.entries.Reply.TheVariants as reply
use Rattle.job_table.specs.declared.entries.Retrieved.{Retrieved}
use Rattle.job_table.specs.declared.entries.Finishing as answer
use Rattle.job_table.specs.declared.job.Job.{Job}
use Rattle.job_table.specs.History.{MoveEntry, entry_of_move}
use Rattle.job_table.specs.Looks.{looks}
use Rattle.job_runs.specs.Runs.{AreLooks, IsJobRun, Works, end_reply}
use Rattle.job_runs.specs.Solves.{RunsAndShows, Solves, BeginsToSolve}
use Rattle.job_runs.proofs.Judgements.{Made, Joins}

-- looks and a finish are a run
pub run_of : (made : Made) (did did' both : List MoveEntry → Type 0) → Joins did did' both
    → (j : Job) (asked : Bool) (document : Option (List ℕ)) (fault : Option NotStored) (end : answer.Finishing)
    → ((answers : List Bool) × did (looks j.number answers) × AreLooks asked answers × made j.osil j.osol answers document)
    → did' (entry_of_move (Finish j asked document) (end_reply fault end) ∷ [])
    → (run : List MoveEntry) × both run × IsJobRun made j fault run
run_of made did did' both joins j asked document fault end (answers, looked, are, is_made) finished = (
  looks j.number answers ++ entry_of_move (Finish j asked document) (end_reply fault end) ∷ [],
  joins _ _ looked finished,
  record { answers = answers; asked = asked; document = document; end = end; looked = are; is_made = is_made; are = refl },
)

-- the run of a job that a claim gave
pub claimed_run : (made : Made) (did did' both : List MoveEntry → Type 0) → Joins did did' both
    → (worker : Bool) (j : Job) (fault : Option NotStored) → did (entry_of_move (Claim worker) (reply.Gave (Some j)) ∷ [])
    → ((run : List MoveEntry) × did' run × IsJobRun made j fault run)
    → (given : Option Job) × (entries : List MoveEntry) × both entries × Works made worker given entries × (IsTrue true ↔ IsSome given)
claimed_run made did did' both joins worker j fault claimed (run, ran, is_run) = (
  Some j,
  entry_of_move (Claim worker) (reply.Gave (Some j)) ∷ run,
  joins _ _ claimed ran,
  record { run = run; ran = (fault, is_run); are = refl },
  search rules,
)

-- a job that was run and retrieved
pub shown_run : (made : Made) (did did' both : List MoveEntry → Type 0) → Joins did did' both
    → (j : Job) (shown : Retrieved) → ((run : List MoveEntry) × did run × IsJobRun made j None run)
    → did' (entry_of_move (Retrieve j.number) (reply.Retrieved shown) ∷ [])
    → (own : List MoveEntry) × both own × RunsAndShows made j (reply.Retrieved shown) own
shown_run made did did' both joins j shown (run, ran, is_run) last = (
  run ++ entry_of_move (Retrieve j.number) (reply.Retrieved shown) ∷ [],
  joins _ _ ran last,
  inl (run, shown, is_run, refl, refl),
)

-- or that wasn't shown, for want of memory
pub unshown_run : (made : Made) (did did' both : List MoveEntry → Type 0) → Joins did did' both
    → (j : Job) → ((run : List MoveEntry) × did run × IsJobRun made j None run) → did' [] → (run : List MoveEntry) × both run × IsJobRun made j None run
unshown_run made did did' both joins j (run, ran, is_run) last =
    (run ++ [], joins _ _ ran last, subst (λ (es : List MoveEntry). IsJobRun made j None es) (sym (append-nil run)) is_run)

-- or the effect of whose finish wasn't stored
pub unstored_run : (made : Made) (did : List MoveEntry → Type 0) (j : Job) (fault : NotStored) → ((run : List MoveEntry) × did run × IsJobRun made j (Some fault) run)
    → (own : List MoveEntry) × did own × RunsAndShows made j (reply.NotStored fault) own
unstored_run made did j fault (run, ran, is_run) = (run, ran, inr (fault, is_run, refl))

-- what follows the enter of a job
pub solved : (made : Made) (did did' both : List MoveEntry → Type 0) → Joins did did' both
    → (o p : List ℕ) (j : Job) (said : Reply) → did (entry_of_move (Enter o p) (reply.Gave (Some j)) ∷ [])
    → ((later : List MoveEntry) × did' later × RunsAndShows made j said later) → (own : List MoveEntry) × both own × Solves made o p said own
solved made did did' both joins o p j said entered (later, moves, shows) = (
  entry_of_move (Enter o p) (reply.Gave (Some j)) ∷ later,
  joins _ _ entered moves,
  inr (record { job = j; later = later; shows = shows; are = refl }),
)

pub unsolved : (made : Made) (did did' both : List MoveEntry → Type 0) → Joins did did' both
    → (o p : List ℕ) (j : Job) → did (entry_of_move (Enter o p) (reply.Gave (Some j)) ∷ []) → ((run : List MoveEntry) × did' run × IsJobRun made j None run)
    → (own : List MoveEntry) × both own × BeginsToSolve made o p own
unsolved made did did' both joins o p j entered (run, ran, is_run) = (
  entry_of_move (Enter o p) (reply.Gave (Some j)) ∷ run,
  joins _ _ entered ran,
  inr (j, record { run = run; is_run = is_run; are = refl }),
)

-- the same by the last reply, or none
pub solved_if : (made : Made) (did did' both : List MoveEntry → Type 0) → Joins did did' both
    → (o p : List ℕ) (j : Job) (said : Option Reply) → did (entry_of_move (Enter o p) (reply.Gave (Some j)) ∷ [])
    → IfSome said (λ last. (later : List MoveEntry) × did' later × RunsAndShows made j last later) → IfSome said (λ last. (own : List MoveEntry) × both own × Solves made o p last own)
solved_if made did did' both joins o p j None entered later = tt
solved_if made did did' both joins o p j (Some said) entered later = solved made did did' both joins o p j said entered later

pub unsolved_if : (made : Made) (did did' both : List MoveEntry → Type 0) → Joins did did' both
    → (o p : List ℕ) (j : Job) (said : Option Reply) → did (entry_of_move (Enter o p) (reply.Gave (Some j)) ∷ [])
    → IfNone said ((run : List MoveEntry) × did' run × IsJobRun made j None run) → IfNone said ((own : List MoveEntry) × both own × BeginsToSolve made o p own)
unsolved_if made did did' both joins o p j (Some said) entered ran = tt
unsolved_if made did did' both joins o p j None entered ran = unsolved made did did' both joins o p j entered ran

-- a count of stops is above none where a run was asked to stop, and nowhere else
pub stops_tell : (asked : Bool) (answers : List Bool) (stops : ℕ) → AreLooks asked answers → stops ≡ 0 + stops_of answers
    → asked ≡ nat_lt 0 stops
stops_tell true answers stops l count =
    let one : stops ≡ 1 = omega (arith, count, ap stops_of l.are, stops_more l.before (true ∷ []), l.went_on) in
    ap (nat_lt 0) (sym one)
stops_tell false answers stops l count =
    let none : stops ≡ 0 = omega (arith, count, ap stops_of l.are, stops_more l.before [], l.went_on) in
    ap (nat_lt 0) (sym none)

pub none_stopped : (stops : ℕ) → nat_lt 0 stops ≡ false → stops ≡ 0
none_stopped stops e = grind (arith, nat_tests)

-- what a run that looked by moves tells
pub watched : (did made : List Bool → Type 0) (asked : Bool) (answers : List Bool) (stops : ℕ)
    → AreLooks asked answers → did answers → stops ≡ 0 + stops_of answers → made answers
    → (told : List Bool) × did told × AreLooks (nat_lt 0 stops) told × made told
watched did made asked answers stops l looked count is_made =
    (answers, looked, subst (λ (b : Bool). AreLooks b answers) (stops_tell asked answers stops l count) l, is_made)
