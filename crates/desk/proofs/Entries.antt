-- A move of one seat that was made, or wasn't, as a list of moves.
use Rattle.std.proofs.Common.{◌≡◌, Bool, false, List, [], ◌∷◌, ◌++◌, Option, Some, None, refl, sym, ap, ◌∙◌, append_assoc, append-nil, IfSome, IfNone, IsSome, IsTrue, ◌↔◌}
use Rattle.job_table.specs.declared.entries.TableMove.{TableMove}
use Rattle.job_table.specs.declared.entries.Reply.{Reply}
use Rattle.job_table.specs.Steps.{wants_memory}
use Rattle.job_table.specs.History.{entry_if}
use Rattle.desk.specs.declared.held.Held.{Held}
use Rattle.desk.specs.declared.view.SeatEntry.{SeatEntry}
use Rattle.desk.specs.declared.view.View.{View}
use Rattle.desk.specs.History.{entries_by, entry_of_seat}
use Rattle.desk.specs.Steps.{Sat}
use Rattle.desk.specs.SeatMoves.{IsSeatReady, AddsEntry, Waits, Lacks, ClosesBy}
use Rattle.desk.specs.SeatHistory.{AskedBy}
use Rattle.job_table.specs.Jobs.{Register}
use Rattle.desk.proofs.Steps.{false_is_not}

-- a move that wasn't made has no reply
pub not_made : (made : Bool) (said : Option Reply) (P : Type 0) → made ≡ false → (IsTrue made ↔ IsSome said) → IfNone said P → P
not_made made None P is same p = p
not_made made (Some reply) P is same p = absurd (false_is_not (sym (same.1 refl) ∙ is))

-- a table alone stays where it was
pub held_stays : {J : Type 0} (said : Option Reply) (old new : Held J) → IfNone said (new.table ≡ old.table) → IfNone said (new ≡ old)
held_stays None old new same = λ i. record { table = same i }
held_stays (Some reply) old new same = tt

-- what a desk is closed with, as whoever closed it sees it
pub closes_so : (p q : List SeatEntry → Type 0) (v : View) → ((log : List SeatEntry) → p log → q log) → ClosesBy p v → ClosesBy q v
closes_so p q v to c = record { log = c.log; leads = to c.log c.leads; begins = c.begins; mine = c.mine; met = c.met; no_others = c.no_others }

-- the same of one more move of a seat
pub adds_so : (p q : List SeatEntry → Type 0) (said : Option Reply) (v w : View) (move : TableMove) → ((log : List SeatEntry) → p log → q log)
    → IfSome said (λ reply. AddsEntry p v move reply w) → IfSome said (λ reply. AddsEntry q v move reply w)
adds_so p q None v w move to a = tt
adds_so p q (Some reply) v w move to a = record { between = a.between; seen = a.seen; others = a.others; legal = to w.seen a.legal; mine = a.mine; stays = a.stays }

-- and of one that wasn't made
pub lacks_so : {T H : Type 0} (table : T → Register) (other : H → Register) (leads : List SeatEntry → T → Type 0) (leads_other : List SeatEntry → H → Type 0) (of : T → H) (said : Option Reply) (move : TableMove)
    (seen : List SeatEntry) → ((held : T) → leads seen held → leads_other seen (of held)) → ((held : T) → other (of held) ≡ table held)
    → IfNone said (Lacks table leads move seen) → IfNone said (Lacks other leads_other move seen)
lacks_so table other leads leads_other of (Some reply) move seen led same lacks = tt
lacks_so table other leads leads_other of None move seen led same lacks = record {
  held = of lacks.held;
  leads_there = led lacks.held lacks.leads_there;
  wants = ap (wants_memory move) (same lacks.held) ∙ lacks.wants;
}

module _ (legal_from is_legal : List SeatEntry → Type 0) (legal : (log : List SeatEntry) → legal_from log → is_legal log) {T H : Type 0} (table : H → Register) (leads : List SeatEntry → H → Type 0) (led : (log : List SeatEntry) (held : H) → leads log held → legal_from log) where
  -- what a move does to a seat is what a list of one move does, or of none
  pub asked_if : (move : TableMove) (said : Option Reply) (me me' : Sat T) → IsSeatReady me → IsSeatReady me'
      → IfSome said (λ reply. AddsEntry legal_from me.0 move reply me'.0) → IfNone said (Lacks table leads move me'.0.seen) → IfNone said (Waits me.0 me'.0)
      → AskedBy is_legal me.0 me'.0 (entry_if move said)
  asked_if move (Some reply) me me' old new adds lacks waits =
      let e : SeatEntry = entry_of_seat me.0.number move reply in record {
        mine = adds.mine;
        seen = (adds.between ++ e ∷ [], adds.seen ∙ append_assoc me.0.seen adds.between (e ∷ []));
        stand = new.stand ∙ adds.mine ∙ ap (λ (l : List SeatEntry). l ++ e ∷ []) (sym old.stand);
        legal = λ _. legal me'.0.seen adds.legal;
        made_legal = λ _. legal me'.0.seen adds.legal;
        known = λ _. new.known;
        stays = adds.stays;
      }
  asked_if move None me me' old new adds lacks waits = record {
    mine = waits.mine ∙ sym (append-nil me.0.mine);
    seen = waits.seen;
    stand = new.stand ∙ waits.mine ∙ sym old.stand ∙ sym (append-nil (entries_by me.0.number me.0.seen));
    legal = λ _. legal me'.0.seen (led me'.0.seen lacks.held lacks.leads_there);
    made_legal = λ some. absurd (some refl);
    known = λ _. new.known;
    stays = waits.stays;
  }
