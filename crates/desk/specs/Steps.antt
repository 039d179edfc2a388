-- What each step tells the seat that makes it.
use Rattle.std.specs.Prelude.{◌≡◌, ◌≢◌, ℕ, ◌<◌, ◌≤◌, length, List, [], ◌∷◌, ◌++◌, Option, Some}
use Rattle.atomic_table.specs.Table.{Me, Step}
use Rattle.job_table.specs.declared.entries.TableMove.{TableMove}
use Rattle.job_table.specs.declared.entries.Reply.{Reply}
use Rattle.desk.specs.declared.view.SeatEntry.{SeatEntry}
use Rattle.desk.specs.declared.view.View.{View}
use Rattle.desk.specs.declared.view.Turn.TheVariants.{Idle, Waiting, Served}
use Rattle.desk.specs.History.{MakesFrom, StartsWith, entry_of_seat}
use Rattle.desk.specs.Rule.{with_turn, with_seen, StandsInSeen}

-- a seat's view, and the slots that it has
abbrev pub Sat : Type 0 → Type 0
Sat T = Me (Option T) View

-- a view with this move and its reply at the end of both lists
abbrev pub with_entry : View → TableMove → Reply → View
with_entry v move reply =
    with_seen Idle (v.seen ++ entry_of_seat v.number move reply ∷ []) (v.mine ++ entry_of_seat v.number move reply ∷ []) v

module _ {T : Type 0} where
  -- a number is drawn where the word was the number that was asked for, and else nothing changes
  abbrev pub drew : Step (Option T) → Sat T → ℕ → Sat T → Type 0
  drew st m r m' = (r ≡ st.first → m' ≡ (with_turn (Waiting st.first) m.0, m.1)) × (r ≢ st.first → m' ≡ m)

  -- it is this number's turn: the seat has the slot, and what lies in it is what all that it has now seen makes, where all of its own
  -- moves stand
  abbrev pub TakesTurn : (T → TableMove → Reply → T → Type 0) → Option T → ℕ → Sat T → Sat T → Type 0
  TakesTurn becomes told n m m' =
      (seen : List SeatEntry) × (held : T) × (m' ≡ (with_seen (Served n) seen m.0.mine m.0, (0, Some held) ∷ []))
      × StartsWith seen m.0.seen × MakesFrom becomes told seen held × StandsInSeen (with_seen (Served n) seen m.0.mine m.0)

  -- whether it is the turn of the number that the seat drew
  abbrev pub looked_at_turn : (T → TableMove → Reply → T → Type 0) → Option T → Step (Option T) → Sat T → ℕ → Sat T → Type 0
  looked_at_turn becomes told st m r m' = (n : ℕ) → m.0.turn ≡ Waiting n → (r ≢ n → m' ≡ m) × (r ≡ n → TakesTurn becomes told n m m')

  -- this move with its reply goes to the end of the history, the slot goes home, and the turn is the next number's
  abbrev pub passed_on : TableMove → Reply → Step (Option T) → Sat T → ℕ → Sat T → Type 0
  passed_on move reply st m r m' = (m' ≡ (with_entry m.0 move reply, [])) × StandsInSeen (with_entry m.0 move reply)

  -- the turn is the next number's, and nothing was said
  abbrev pub skipped : Step (Option T) → Sat T → ℕ → Sat T → Type 0
  skipped st m r m' = m' ≡ (with_turn Idle m.0, [])

  -- what the rule says of a seat: of two beginnings of the history the longer begins with the shorter, what it has seen makes something,
  -- its own moves stand there, and those of the seats that it met, and the first seat is live itself
  abbrev pub settled : (T → TableMove → Reply → T → Type 0) → Option T → Step (Option T) → Sat T → ℕ → Sat T → Type 0
  settled becomes told st m r m' =
      (m' ≡ m) × (length m.0.shorter ≤ length m.0.seen → StartsWith m.0.seen m.0.shorter) × ((held : T) × MakesFrom becomes told m.0.seen held)
      × StandsInSeen m.0 × (m.0.number ≡ 0 → length m.0.met < m.0.given)
