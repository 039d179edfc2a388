-- What each function of the desk does to a seat.
use mathlib.Core.Option.{some}
use lib.ListN.{get_elem?}
use Rattle.std.specs.Prelude.{◌≡◌, ◌≢◌, ℕ, ◌+◌, true, List, [], ◌∷◌, ◌++◌, Option, None, Some, Bool}
use Rattle.atomic_table.specs.Seated.{TableId}
use Rattle.atomic_table.specs.declared.shared.Seat.{Seat}
use Rattle.job_table.specs.Jobs.{Register}
use Rattle.job_table.specs.Steps.{wants_memory}
use Rattle.job_table.specs.declared.entries.TableMove.{TableMove}
use Rattle.job_table.specs.declared.entries.Reply.{Reply}
use Rattle.job_table.specs.declared.entries.Reply.TheVariants as replies
use Rattle.std.specs.declared.snapshot.Snapshot.{Snapshot}
use Rattle.desk.specs.declared.held.Held.{Held}
use Rattle.desk.specs.declared.shape.Locked.{Locked}
use Rattle.desk.specs.declared.view.SeatEntry.{SeatEntry}
use Rattle.desk.specs.declared.view.Met.{Met}
use Rattle.desk.specs.declared.view.View.{View}
use Rattle.desk.specs.declared.view.Turn.TheVariants.{Idle, Served}
use Rattle.desk.specs.History.{LeadsTo, Makes, MakesFrom, CanMake, StartsWith, entry_of_seat, entries_by}
use Rattle.desk.specs.Steps.{Sat}
use Rattle.desk.specs.Rule.{with_seen, longer_of, met_as, out_of, HasMet, StandsInSeen}

-- the seat is live, has no number of a turn, and no slot. All of its own moves stand in what it has seen, and so do all moves of the
-- seats that it met
pub record IsSeatReady {T : Type 0} (me : Sat T) : Type 0 where
  pub idle : me.0.turn ≡ Idle
  pub live : me.0.live ≡ true
  pub bare : me.1 ≡ []
  pub stand : entries_by me.0.number me.0.seen ≡ me.0.mine
  pub known : HasMet me.0.seen me.0.met

-- which desk it is
abbrev pub desk_id : {S V K Q A : Type 0} → Locked S V K Q A → TableId
desk_id d = d.table.shared.table_id

-- what a desk was told when it was made
abbrev pub told_of : {S V T Q A : Type 0} → Locked S V (Snapshot T) Q A → T
told_of d = d.table.shared.key.value

-- the number with which those of a desk's table begin
abbrev pub first_number : {S V J Q A : Type 0} → Locked S V (Snapshot (Held J)) Q A → ℕ
first_number d = (told_of d).table.first

-- the seat is one of that desk, and is ready to ask
pub record IsSeatOf {T : Type 0} (desk : TableId) (seat : Seat (Option T) View) : Type 0 where
  pub desk_is : seat.table_id ≡ desk
  pub ready : IsSeatReady seat.me

-- what changes only where seats are split off and met
pub record Stays (v w : View) : Type 0 where
  pub number : w.number ≡ v.number
  pub given : w.given ≡ v.given
  pub met : w.met ≡ v.met

-- the reply of a move that was made, and any of one that wasn't
abbrev pub reply_in : Option Reply → Reply
reply_in None = replies.Done
reply_in (Some reply) = reply

-- the seat may have seen more, and made no move
pub record Waits (v w : View) : Type 0 where
  pub seen : StartsWith w.seen v.seen
  pub mine : w.mine ≡ v.mine
  pub stays : Stays v w

-- a seat was met: the first one knows its number and its moves, and has seen the longer of what both had seen, which begins with
-- both and has the known moves of each seat that was met
pub record Meets (v w after : View) : Type 0 where
  pub seen : after.seen ≡ longer_of v.seen w.seen
  pub begins : StartsWith after.seen v.seen × StartsWith after.seen w.seen
  pub mine : after.mine ≡ v.mine
  pub number : after.number ≡ v.number
  pub given : after.given ≡ v.given
  pub met : after.met ≡ v.met ++ met_as w ∷ []
  pub known : HasMet after.seen after.met
  pub out : out_of after + 1 ≡ out_of v

-- a move was made: the history after it is legal, begins with all that had been seen, and ends with the move, which is one more of the
-- seat's own and the only one behind what had been seen
pub record AddsEntry (is_legal : List SeatEntry → Type 0) (v : View) (move : TableMove) (reply : Reply) (w : View) : Type 0 where
  pub between : List SeatEntry
  pub seen : w.seen ≡ (v.seen ++ between) ++ entry_of_seat v.number move reply ∷ []
  pub others : entries_by v.number between ≡ []
  pub legal : is_legal w.seen
  pub mine : w.mine ≡ v.mine ++ entry_of_seat v.number move reply ∷ []
  pub stays : Stays v w

-- what was seen leads to something whose table is such that the move wants memory
pub record Lacks {T : Type 0} (table : T → Register) (leads : List SeatEntry → T → Type 0) (move : TableMove) (seen : List SeatEntry) : Type 0 where
  pub held : T
  pub leads_there : leads seen held
  pub wants : wants_memory move (table held) ≡ true

-- what lay in the slot is what a history makes that begins with all that the first seat had seen. Its entries are the seat's own moves
-- and those of the seats that it met, and no others
pub record ClosesBy (makes : List SeatEntry → Type 0) (v : View) : Type 0 where
  pub log : List SeatEntry
  pub leads : makes log
  pub begins : StartsWith log v.seen
  pub mine : entries_by 0 log ≡ v.mine
  pub met : HasMet log v.met
  pub no_others : (k : ℕ) → k ≢ 0 → ((i : ℕ) (m : Met) → get_elem? v.met i ≡ some m → m.seat ≢ k) → entries_by k log ≡ []

-- the same of a table that began empty
abbrev pub Closes : (List ℕ → List ℕ → Bool → Option (List ℕ) → Type 0) → View → Register → Type 0
Closes right v table = ClosesBy (λ log. LeadsTo right log table) v

module _ {T : Type 0} (becomes : T → TableMove → Reply → T → Type 0) where
  -- it is the turn of this number, and what lies in the slot is what all makes that the seat has now seen
  pub record HasTurn (told : Option T) (number : ℕ) (v : View) (me : Sat T) (held : T) : Type 0 where
    pub seen : List SeatEntry
    pub now : me ≡ (with_seen (Served number) seen v.mine v, (0, None) ∷ [])
    pub begins : StartsWith seen v.seen
    pub leads : MakesFrom becomes told seen held
    pub stands : StandsInSeen (with_seen (Served number) seen v.mine v)

  -- it is the seat's turn, and what it took is what all makes that it has seen
  pub record IsServed (start : T) (number : ℕ) (me : Sat T) (held : T) : Type 0 where
    pub turn : me.0.turn ≡ Served number
    pub live : me.0.live ≡ true
    pub taken : me.1 ≡ (0, None) ∷ []
    pub leads : Makes becomes start me.0.seen held
    pub stands : StandsInSeen me.0

  -- it is the seat's turn, and what it gave back is what all makes that it has seen, and this move
  pub record IsMoveAnswered (start : T) (move : TableMove) (reply : Reply) (me : Sat T) : Type 0 where
    pub number : ℕ
    pub before : T
    pub held : T
    pub turn : me.0.turn ≡ Served number
    pub live : me.0.live ≡ true
    pub given : me.1 ≡ (0, Some held) ∷ []
    pub leads : Makes becomes start me.0.seen before
    pub answers : becomes before move reply held

  -- the move is the last of the history, which is legal, the seat is idle, and all of its own moves stand there
  abbrev pub AnswersMove : T → TableMove → Reply → Sat T → Sat T → Type 0
  AnswersMove start move reply m m' =
      (m' ≡ (with_seen Idle (m.0.seen ++ entry_of_seat m.0.number move reply ∷ []) (m.0.mine ++ entry_of_seat m.0.number move reply ∷ []) m.0, []))
      × CanMake becomes start (m.0.seen ++ entry_of_seat m.0.number move reply ∷ []) × StandsInSeen m'.0
