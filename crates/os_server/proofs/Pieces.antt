-- What holds of the pieces of a conversation's moves holds of all of them.
use Rattle.std.proofs.Common.{◌≡◌, ℕ, Bool, true, false, length, List, [], ◌∷◌, ◌++◌, Option, Some, None, refl, sym, ◌∙◌, ap, subst, inl, inr}
use Rattle.std.specs.Prelude.{All, ◌⊎◌}
use Rattle.std.proofs.lemmas.List.Elements.{All-head, All-tail}
use Rattle.six_calls.specs.declared.call.CallKind.{CallKind}
use Rattle.six_calls.proofs.Names.{each_passes}
use Rattle.effects.specs.declared.store.NotStored.{NotStored}
use Rattle.job_table.specs.declared.job.Job.{Job}
use Rattle.job_table.specs.declared.entries.TableMove.{TableMove}
use Rattle.job_table.specs.declared.entries.TableMove.TheVariants as moves
use Rattle.job_table.specs.declared.entries.Reply as tables
use Rattle.job_table.specs.declared.entries.Reply.TheVariants as reply
use Rattle.job_table.specs.History.{MoveEntry, entry_of_move, IsGiving}
use Rattle.job_runs.specs.Runs.{IsJobRun, Works}
use Rattle.job_runs.specs.Solves.{EntersAndRuns, RunsAndShows}
use Rattle.job_runs.proofs.Judgements.{Made}
use Rattle.os_server.specs.declared.order.Order.{Order}
use Rattle.os_server.specs.declared.saying.ReplyEnvelope.{ReplyEnvelope}
use Rattle.os_server.specs.declared.reply.HttpReply.{HttpReply}
use Rattle.os_server.specs.declared.reply.HttpReply.TheVariants.{Answer, Refused, NoMemory}
use Rattle.os_server.specs.declared.serve.Served.{Served}
use Rattle.os_server.specs.declared.serve.Served.TheVariants.{Ended, CutShort, ReadFault, WriteFault, Memory}
use Rattle.os_server.specs.Answers.{Doing, Moves, RunsAtOnce, number_for, doing, doing_of, DoesSo, Does, BeginsSo}
use Rattle.os_server.specs.Talk.{Part, all_of, IsBodyAnswered, IsReplyDue, IsExchange, EndsTalk, IsLastPart, Talk}

abbrev pub Wakes : Type 1
Wakes = Bool → Type 0

abbrev gives_none : tables.Reply → Bool
gives_none (reply.Gave (Some j)) = false
gives_none said = true

-- the move gives no job, looks at none and finishes none
abbrev pub is_plain : TableMove → tables.Reply → Bool
is_plain (moves.Enter o p) said = gives_none said
is_plain (moves.Claim worker) said = gives_none said
is_plain (moves.Look n) said = false
is_plain (moves.Finish j asked document) said = false
is_plain move said = true

-- nor may it, whatever it is replied
abbrev never_gives : TableMove → Bool
never_gives (moves.Enter o p) = false
never_gives (moves.Claim worker) = false
never_gives (moves.Look n) = false
never_gives (moves.Finish j asked document) = false
never_gives move = true

abbrev moves_plainly : Doing → Bool
moves_plainly (Moves move) = never_gives move
moves_plainly (RunsAtOnce osil osol) = true

-- what is done for a call is a plain move, or a run
done_plainly : (k : CallKind) (n : ℕ) (osil osol : List ℕ) → moves_plainly (doing k n osil osol) ≡ true
done_plainly k n osil osol = each_passes (λ kind. moves_plainly (doing kind n osil osol)) refl k

plain_then : (move : TableMove) (said : tables.Reply) → never_gives move ≡ true → is_plain move said ≡ true
plain_then (moves.Enter o p) said never = cc
plain_then (moves.Claim worker) said never = cc
plain_then (moves.Look n) said never = never
plain_then (moves.Finish j asked document) said never = never
plain_then move said never = refl

-- this holds of no moves, of moves after moves, of a plain move, and of a move that gives a job with the job's run
pub record Builds (made : Made) (Holds : List MoveEntry → Type 0) : Type 0 where
  pub none : Holds []
  pub both : (a b : List MoveEntry) → Holds a → Holds b → Holds (a ++ b)
  pub plain : (move : TableMove) (said : tables.Reply) → is_plain move said ≡ true → Holds (entry_of_move move said ∷ [])
  pub given : (j : Job) (move : TableMove) (fault : Option NotStored) (run : List MoveEntry) → IsGiving move → IsJobRun made j fault run → Holds (entry_of_move move (reply.Gave (Some j)) ∷ run)

module _ (made : Made) (Holds : List MoveEntry → Type 0) (b : Builds made Holds) where
  no_moves : (own : List MoveEntry) → own ≡ [] → Holds own
  no_moves own none = subst Holds (sym none) b.none

  one_move : (move : TableMove) (said : tables.Reply) (own : List MoveEntry) → own ≡ entry_of_move move said ∷ [] → is_plain move said ≡ true → Holds own
  one_move move said own is plain = subst Holds (sym is) (b.plain move said plain)

  entered : (o p : List ℕ) (j : Job) (own : List MoveEntry) → EntersAndRuns made o p j own → Holds own
  entered o p j own e = subst Holds (sym e.are) (b.given j (moves.Enter o p) None e.run tt e.is_run)

  pub works_so : (as_worker : Bool) (given : Option Job) (own : List MoveEntry) → Works made as_worker given own → Holds own
  works_so as_worker None own w =
      one_move (moves.Claim as_worker) (reply.Gave None) own (w.are ∙ ap (λ es. entry_of_move (moves.Claim as_worker) (reply.Gave None) ∷ es) w.ran) refl
  works_so as_worker (Some j) own w = subst Holds (sym w.are) (b.given j (moves.Claim as_worker) w.ran.0 w.run tt w.ran.1)

  turned_away : (said : tables.Reply) → (said ≡ reply.Full) ⊎ ((said ≡ reply.Spent) ⊎ ((fault : NotStored) × (said ≡ reply.NotStored fault))) → gives_none said ≡ true
  turned_away said (inl full) = subst (λ (s : tables.Reply). gives_none s ≡ true) (sym full) refl
  turned_away said (inr (inl spent)) = subst (λ (s : tables.Reply). gives_none s ≡ true) (sym spent) refl
  turned_away said (inr (inr (fault, refused))) = subst (λ (s : tables.Reply). gives_none s ≡ true) (sym refused) refl

  -- what follows a job that was entered
  shown_so : (o p : List ℕ) (j : Job) (last : tables.Reply) (later : List MoveEntry) → RunsAndShows made j last later → Holds (entry_of_move (moves.Enter o p) (reply.Gave (Some j)) ∷ later)
  shown_so o p j last later (inl (run, shown, is_run, is, are)) =
      let enter : MoveEntry = entry_of_move (moves.Enter o p) (reply.Gave (Some j)) in
      subst (λ (es : List MoveEntry). Holds (enter ∷ es)) (sym are)
      (b.both (enter ∷ run) (entry_of_move (moves.Retrieve j.number) last ∷ []) (b.given j (moves.Enter o p) None run tt is_run) (b.plain (moves.Retrieve j.number) last refl))
  shown_so o p j last later (inr (fault, is_run, is)) = b.given j (moves.Enter o p) (Some fault) later tt is_run

  doing_so : (d : Doing) (last : tables.Reply) (own : List MoveEntry) → moves_plainly d ≡ true → DoesSo made d last own → Holds own
  doing_so (Moves move) last own plain is = one_move move last own is (plain_then move last plain)
  doing_so (RunsAtOnce o p) last own plain (inl away) = one_move (moves.Enter o p) last own away.0 (turned_away last away.1)
  doing_so (RunsAtOnce o p) last own plain (inr r) =
      subst Holds (sym r.are) (shown_so o p r.job last r.later r.shows)

  does_so : (order : Order) (last : tables.Reply) (own : List MoveEntry) → Does made order last own → Holds own
  does_so order last own does = doing_so (doing_of order) last own (done_plainly order.kind (number_for order.job) order.osil order.osol) does

  begun_so : (d : Doing) (own : List MoveEntry) → BeginsSo made d own → Holds own
  begun_so (Moves move) own none = no_moves own none
  begun_so (RunsAtOnce o p) own (inl none) = no_moves own none
  begun_so (RunsAtOnce o p) own (inr (j, e)) = entered o p j own e

  module _ (wakes : Wakes) where
    answers_so : (body : List ℕ) (own : List MoveEntry) (said : ReplyEnvelope) (as_worker : Bool) → IsBodyAnswered made wakes body own said as_worker → Holds own
    answers_so body own said as_worker (inl d) = does_so d.order d.last own d.does
    answers_so body own said as_worker (inr f) = no_moves own f.none

    due_so : (taken : List ℕ) (own : List MoveEntry) (r : HttpReply) → IsReplyDue made wakes taken own r → Holds own
    due_so taken own (Answer said close as_worker) (body, request, answers) = answers_so body own said as_worker answers
    due_so taken own (Refused refusal) (refused, none) = no_moves own none
    due_so taken own NoMemory (inl (head, none)) = no_moves own none
    due_so taken own NoMemory (inr (close, body, request, inl none)) = no_moves own none
    due_so taken own NoMemory (inr (close, body, request, inr (order, asks, inl begins))) = begun_so (doing_of order) own begins
    due_so taken own NoMemory (inr (close, body, request, inr (order, asks, inr does))) = does_so order does.0 own does.1

    exchange_so : (close : Bool) (p : Part) → IsExchange made wakes close p → Holds p.entries
    exchange_so close p x =
        subst Holds (sym x.entries) (b.both x.own x.after (answers_so x.answered.0 x.own x.said x.as_worker x.answered.2) (works_so x.as_worker x.given x.after x.works))

    last_so : (end : Served) (A : Type 0) (p : Part) → EndsTalk made wakes end A p → Holds p.entries
    last_so Ended A p (inl (ended, silence, at)) = no_moves p.entries silence.0
    last_so Ended A p (inr (inl x)) = exchange_so true p x
    last_so Ended A p (inr (inr (refusal, is_due, out))) = due_so p.taken p.entries (Refused refusal) is_due
    last_so CutShort A p (cut, silence, at) = no_moves p.entries silence.0
    last_so ReadFault A p (begun, silence) = no_moves p.entries silence.0
    last_so WriteFault A p (r, is_due, out) = due_so p.taken p.entries r is_due
    last_so Memory A p (is_due, out) = due_so p.taken p.entries NoMemory is_due

    end_so : (end : Served) (count : ℕ) (A : Type 0) (p : Part) → IsLastPart made wakes end count A p → Holds p.entries
    end_so end count A p (inl (few, ends)) = last_so end A p ends
    end_so end count A p (inr (is, full, none)) = no_moves p.entries (ap (λ q. q.entries) none)

    all_so : (ps : List Part) → All (IsExchange made wakes false) ps → Holds (all_of ps).entries
    all_so [] xs = b.none
    all_so (p ∷ ps) xs =
        b.both p.entries (all_of ps).entries (exchange_so false p (All-head (IsExchange made wakes false) p ps xs)) (all_so ps (All-tail (IsExchange made wakes false) p ps xs))

    -- of all moves of a conversation
    pub talk_so : (end : Served) (A : Type 0) (p : Part) → Talk made wakes end A p → Holds p.entries
    talk_so end A p t =
        subst Holds (sym (ap (λ q. q.entries) t.whole)) (b.both (all_of t.done).entries t.last.entries (all_so t.done t.exchanges) (end_so end (length t.done) A t.last t.ends))
