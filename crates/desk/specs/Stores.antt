-- What a history says of a table beside what keeps the effects of its moves.
use Rattle.std.specs.Prelude.{◌≡◌, ◌↔◌, ℕ, Bool, true, false, ◌||◌, List, [], ◌∷◌, ◌++◌, Option, Some, None, if◌then◌else◌}
use Rattle.os_io.specs.Streams.{HasRisen}
use Rattle.effects.specs.Records.{Deed}
use Rattle.effects.specs.declared.store.NotStored.TheVariants.{Disk, Broken, Long}
use Rattle.job_table.specs.declared.entries.Reply.{Reply}
use Rattle.job_table.specs.declared.entries.Reply.TheVariants.{NotStored}
use Rattle.job_table.specs.Jobs.{Register}
use Rattle.job_table.specs.Steps.{row_of_move}
use Rattle.job_table.specs.Plans.{planned}
use Rattle.job_table.specs.History.{MoveEntry, entry_of_move, LeadsStepwise, LeadsOn}
use Rattle.desk.specs.declared.view.SeatEntry.{SeatEntry}
use Rattle.desk.specs.Kinds.{Moves}
use Rattle.desk.specs.History.{Makes, CanMake, moves_in}

-- the move was made: not where its effect wasn't stored
abbrev pub was_made : Reply → Bool
was_made (NotStored fault) = false
was_made _ = true

-- the moves that were made, with their replies
abbrev pub made_moves : List SeatEntry → List MoveEntry
made_moves [] = []
made_moves (e ∷ es) = if was_made e.reply then entry_of_move e.table_move e.reply ∷ made_moves es else made_moves es

abbrev pub says_disk : Reply → Bool
says_disk (NotStored Disk) = true
says_disk _ = false

-- a move was answered Disk
abbrev pub has_disk : List SeatEntry → Bool
has_disk [] = false
has_disk (e ∷ es) = says_disk e.reply || has_disk es

-- what a table holds after a move: the move's row says it, where it was made
abbrev pub after_entry : Register → SeatEntry → Register
after_entry r e = if was_made e.reply then (row_of_move e.table_move r).after else r

abbrev pub after_entries : Register → List SeatEntry → Register
after_entries r [] = r
after_entries r (e ∷ es) = after_entries (after_entry r e) es

abbrev pub listed : Option Deed → List Deed
listed None = []
listed (Some d) = d ∷ []

-- the effects of the moves that were made, in order
abbrev pub deeds_of : Register → List SeatEntry → List Deed
deeds_of r [] = []
deeds_of r (e ∷ es) = (if was_made e.reply then listed (planned e.table_move r) else []) ++ deeds_of (after_entry r e) es

-- how a move may be answered whose effect this is: Broken exactly behind a Disk, and Long exactly where none came before and the effect
-- is too long. A move without an effect is made
abbrev pub AnsweredSo : Option Deed → Bool → (Deed → Bool) → Reply → Type 0
AnsweredSo None disk too_long reply = was_made reply ≡ true
AnsweredSo (Some d) disk too_long reply =
    ((reply ≡ NotStored Broken) ↔ (disk ≡ true)) × ((reply ≡ NotStored Long) ↔ ((disk ≡ false) × (too_long d ≡ true)))

module _ {S : Type 0} (keeps : S → List Deed → Type 0) (too_long : S → List Deed → Deed → Bool) (faults : S → ℕ) where
  -- this table and this store became one that holds that, by this history
  pub record StoresSo (first : Register) (start : S) (log : List SeatEntry) (store : S) : Type 0 where
    -- it keeps the effects of the moves that were made, each once, in order, behind those that it kept at first
    pub kept : (deeds : List Deed) → keeps start deeds → keeps store (deeds ++ deeds_of first log)
    -- a move was answered Disk only where the count of faults rose, which stays otherwise
    pub risen : has_disk log ≡ true → HasRisen (faults start) (faults store)
    pub still : has_disk log ≡ false → faults store ≡ faults start
    pub each : (before : List SeatEntry) (e : SeatEntry) (behind : List SeatEntry) → log ≡ before ++ e ∷ behind
        → AnsweredSo (planned e.table_move (after_entries first before)) (has_disk before) (too_long start (deeds_of first before)) e.reply

module _ {S : Type 0} (right : List ℕ → List ℕ → Bool → Option (List ℕ) → Type 0) (keeps : S → List Deed → Type 0) (passes : S → S → List Deed → Deed → Type 0) (too_long : S → List Deed → Deed → Bool) (broken : S → Bool) (faults : S → ℕ) where
  -- the moves lead step by step from this table and store to those
  abbrev pub LeadsStored : Register × S → List SeatEntry → Register × S → Type 0
  LeadsStored start log held = Makes (Moves right keeps passes too_long broken faults) start log held

  -- the moves can be made one after another from this table and store on, with these replies
  abbrev pub IsStoredLegal : Register × S → List SeatEntry → Type 0
  IsStoredLegal start log = CanMake (Moves right keeps passes too_long broken faults) start log

  -- what a desk holds at its end: the table is the one after the moves that were made, the others leaving it, the store has their effects, and each move was
  -- answered as it has to be
  pub record ClosesStored (first : Register) (start : S) (log : List SeatEntry) (table : Register) (store : S) : Type 0 where
    pub leads : LeadsStored (first, start) log (table, store)
    pub moves : LeadsOn right first (moves_in log) table
    pub made : LeadsStepwise right first (made_moves log) table
    pub stores : broken start ≡ false → StoresSo keeps too_long faults first start log store
