-- How many numbers a table has given is how often a move gave one.
use Rattle.std.proofs.Common.{◌≡◌, ℕ, ◌+◌, ◌&&◌, not, nat_lt, nat_le, bytes_eq, length, Bool, true, false, cond, List, [], ◌∷◌, Option, Some, None, refl, sym, ◌∙◌, ap, subst, arith, inl, inr}
use Rattle.std.proofs.lemmas.List.Sums.{sum_by-cons}
use Rattle.job_table.specs.declared.job.Job.{Job}
use Rattle.job_table.specs.declared.job.Phase.{Phase}
use Rattle.job_table.specs.declared.job.Phase.TheVariants.{Issued, Waiting, Running, Finished, Killed}
use Rattle.job_table.specs.declared.entries.TableMove.{TableMove}
use Rattle.job_table.specs.declared.entries.TableMove.TheVariants as moves
use Rattle.job_table.specs.declared.entries.Reply.{Reply}
use Rattle.job_table.specs.declared.entries.Reply.TheVariants as reply
use Rattle.job_table.specs.Jobs.{Register, beginning, next_number, phase_of, first_waiting, job}
use Rattle.job_table.specs.Steps.{MoveOutcome, outcome, most_jobs, last_number, with_new, sends, claims, finishes, kills, row_of_move}
use Rattle.effects.specs.declared.store.NotStored.{NotStored}
use Rattle.job_table.specs.History.{MoveEntry, LeadsOn, MovesOn, LeadsTo, on_stepwise}
use Rattle.serving.specs.Serving.{gives_number, numbers_given}

-- the count after an outcome, by whether its reply gives a number
abbrev Counted : (Reply → Bool) → Register → MoveOutcome → Type 0
Counted gives r o = o.after.issued ≡ cond (gives o.reply) (1 + r.issued) r.issued

one_more : (n : ℕ) → n + 1 ≡ 1 + n
one_more n = omega arith

adds_counted : (gives : Reply → Bool) (phase : Phase) (said : Reply) (r : Register) (full spent : Bool) → gives reply.Full ≡ false → gives reply.Spent ≡ false → gives said ≡ true
    → Counted gives r (cond full (outcome reply.Full r) (cond spent (outcome reply.Spent r) (outcome said (with_new phase r))))
adds_counted gives phase said r true spent is_full is_spent is_said = ap (λ (b : Bool). cond b (1 + r.issued) r.issued) (sym is_full)
adds_counted gives phase said r false true is_full is_spent is_said = ap (λ (b : Bool). cond b (1 + r.issued) r.issued) (sym is_spent)
adds_counted gives phase said r false false is_full is_spent is_said = one_more r.issued ∙ ap (λ (b : Bool). cond b (1 + r.issued) r.issued) (sym is_said)

sends_none : (n : ℕ) (o p : List ℕ) (phase : Option Phase) (r : Register) → (sends n o p phase r).after.issued ≡ r.issued
sends_none n o p (Some Issued) r = refl
sends_none n o p phase r = refl

claims_none : (alone : Bool) (j : Option Job) (r : Register) → (cond alone (outcome (reply.Gave None) r) (claims j r)).after.issued ≡ r.issued
claims_none true j r = refl
claims_none false None r = refl
claims_none false (Some j) r = refl

kills_none : (n : ℕ) (phase : Option Phase) (r : Register) → (kills n phase r).issued ≡ r.issued
kills_none n None r = refl
kills_none n (Some Issued) r = refl
kills_none n (Some (Waiting o p)) r = refl
kills_none n (Some (Running o p marked)) r = refl
kills_none n (Some (Finished document)) r = refl
kills_none n (Some Killed) r = refl

if_none : (test : Bool) (a b : MoveOutcome) (n : ℕ) → a.after.issued ≡ n → b.after.issued ≡ n → (cond test a b).after.issued ≡ n
if_none true a b n p q = p
if_none false a b n p q = q

finishes_none : (j : Job) (asked : Bool) (document : Option (List ℕ)) (phase : Option Phase) (r : Register) → (finishes j asked document phase r).after.issued ≡ r.issued
finishes_none j asked document (Some (Running o p marked)) r =
    if_none (bytes_eq j.osil o && bytes_eq j.osol p) _ _ r.issued (if_none (asked && not marked) _ _ r.issued refl refl) refl
finishes_none j asked document phase r = refl

row_counted : (move : TableMove) (r : Register) → Counted (gives_number move) r (row_of_move move r)
row_counted moves.Issue r = adds_counted (gives_number moves.Issue) Issued (reply.Issued (next_number r)) r (nat_le most_jobs (length r.jobs)) (nat_lt last_number (next_number r)) refl refl refl
row_counted (moves.Enter o p) r =
    adds_counted (gives_number (moves.Enter o p)) (Running o p false) (reply.Gave (Some (job (next_number r) o p))) r (nat_le most_jobs (length r.jobs)) (nat_lt last_number (next_number r)) refl refl refl
row_counted (moves.Send n o p) r = sends_none n o p (phase_of n r.jobs) r
row_counted (moves.Claim worker) r = claims_none (not worker && nat_lt 0 r.workers) (first_waiting r.jobs) r
row_counted (moves.Kill n) r = kills_none n (phase_of n r.jobs) r
row_counted (moves.Finish j asked document) r = finishes_none j asked document (phase_of j.number r.jobs) r
row_counted move r = refl

first_counted : (gives : Bool) (n next rest : ℕ) → next ≡ cond gives (1 + n) n → next + rest ≡ n + (cond gives 1 0 + rest)
first_counted true n next rest is = omega (arith, is)
first_counted false n next rest is = omega (arith, is)

unstored_gives_none : (move : TableMove) (fault : NotStored) → gives_number move (reply.NotStored fault) ≡ false
unstored_gives_none moves.Issue fault = refl
unstored_gives_none (moves.Enter o p) fault = refl
unstored_gives_none move fault = refl

-- the count after a call that was made, or wasn't
one_counted : (right : List ℕ → List ℕ → Bool → Option (List ℕ) → Type 0) (r next : Register) (move : TableMove) (said : Reply) → MovesOn right r move said next
    → next.issued ≡ cond (gives_number move said) (1 + r.issued) r.issued
one_counted right r next move said (inl step) = subst (λ (o : MoveOutcome). Counted (gives_number move) r o) step.is (row_counted move r)
one_counted right r next move said (inr (fault, says, may, same)) =
    ap (λ (s : Register). s.issued) same ∙ ap (λ (b : Bool). cond b (1 + r.issued) r.issued) (sym (ap (gives_number move) says ∙ unstored_gives_none move fault))

pub runs_counted : (right : List ℕ → List ℕ → Bool → Option (List ℕ) → Type 0) (r after : Register) (es : List MoveEntry) → LeadsOn right r es after → after.issued ≡ r.issued + numbers_given es
runs_counted right r after [] runs = ap (λ (s : Register). s.issued) runs ∙ omega arith
runs_counted right r after (e ∷ es) (next, step, runs) =
    let one : next.issued ≡ cond (gives_number e.table_move e.reply) (1 + r.issued) r.issued = one_counted right r next e.table_move e.reply step in
    runs_counted right next after es runs ∙ first_counted (gives_number e.table_move e.reply) r.issued next.issued (numbers_given es) one
    ∙ ap (λ (n : ℕ). r.issued + n) (sym (sum_by-cons (λ (x : MoveEntry). cond (gives_number x.table_move x.reply) 1 0) e es))

-- from an empty table on
pub all_counted : (right : List ℕ → List ℕ → Bool → Option (List ℕ) → Type 0) (after : Register) (es : List MoveEntry) → LeadsTo right es after → after.issued ≡ numbers_given es
all_counted right after es runs = runs_counted right (beginning after.first) after es (on_stepwise right (beginning after.first) after es runs) ∙ omega arith
