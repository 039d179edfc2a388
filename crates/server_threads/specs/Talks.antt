-- Links that are served beside each other, each by a seat of its own, and the workers beside them.
use Rattle.std.specs.Prelude.{◌≡◌, ℕ, ◌+◌, Bool, List, [], ◌∷◌, ◌++◌, ◌⊎◌, Option}
use Rattle.atomic_table.specs.declared.shared.Seat.{Seat}
use Rattle.job_table.specs.History.{MoveEntry}
use Rattle.os_io.specs.Streams.{Tells, BothTold}
use Rattle.desk.specs.declared.view.SeatEntry.{SeatEntry}
use Rattle.desk.specs.declared.view.Met.{Met}
use Rattle.desk.specs.declared.view.View.{View}
use Rattle.desk.specs.History.{by}
use Rattle.desk.specs.Rule.{one_if}
use Rattle.desk.specs.SeatMoves.{IsSeatOf}
use Rattle.desk.specs.SeatHistory.{AskedBy}
use Rattle.workers.specs.Shifts.{WorksThrough}

abbrev pub DeskSeat : Type 0 → Type 0
DeskSeat T = Seat (Option T) View

-- one link that was served: what it told when it came and when it was given back, the number of the seat that served it, the moves of that
-- seat, and whether the conversation ended for want of memory
pub record LinkTalk : Type 0 where
  pub came : Tells
  pub back : Tells
  pub seat : ℕ
  pub said : List MoveEntry
  pub short : Bool

-- one worker: the number of its seat, and that seat's moves
pub record Shift : Type 0 where
  pub seat : ℕ
  pub said : List MoveEntry

-- a link's seat as the first seat knows it
abbrev pub talk_met : LinkTalk → Met
talk_met t = record { seat = t.seat; entries = by t.seat t.said }

-- a worker's seat as the first seat knows it
abbrev pub shift_met : Shift → Met
shift_met s = record { seat = s.seat; entries = by s.seat s.said }

-- how many ended for want of memory
abbrev pub short_of : List LinkTalk → ℕ
short_of [] = 0
short_of (t ∷ ts) = one_if t.short + short_of ts

-- the links came in this order, and come no more
abbrev pub Came : Option (List Tells) → Option (List Tells) → List Tells → Type 0
Came old new links = BothTold old new (λ before after. before ≡ links ++ after)

-- the links were given back in this order
abbrev pub GivenBack : Option (List Tells) → Option (List Tells) → List Tells → Type 0
GivenBack old new links = BothTold old new (λ before after. after ≡ before ++ links)

-- the links came in this order: each was served by a seat of its own, with numbers from this one on, and this holds of what it told when it came, of its seat's moves,
-- of what it told when it was given back, and of whether memory was wanting
abbrev pub AllTalked : (Tells → List MoveEntry → Tells → Bool → Type 0) → ℕ → List LinkTalk → Type 0
AllTalked talked n [] = Unit {0}
AllTalked talked n (t ∷ ts) = (t.seat ≡ n) × talked t.came t.said t.back t.short × AllTalked talked (n + 1) ts

-- which looks a run of a job's texts makes, with their answers, and which document comes of it, is given
module _ (made : List ℕ → List ℕ → List Bool → Option (List ℕ) → Type 0) where
  -- the moves of a worker, from its coming to its leaving; or none, where it couldn't be started
  abbrev pub IsShift : List MoveEntry → Type 0
  IsShift said = (said ≡ []) ⊎ WorksThrough made said

  -- each worker has a seat of its own, with numbers from this one on
  abbrev pub AllWorked : ℕ → List Shift → Type 0
  AllWorked n [] = Unit {0}
  AllWorked n (s ∷ ss) = (s.seat ≡ n) × IsShift s.said × AllWorked (n + 1) ss

-- any history: serving doesn't say which histories are legal, since a desk that is closed says so of the whole one
abbrev pub AnyHistory : List SeatEntry → Type 0
AnyHistory log = Unit {0}

module _ (legal : List SeatEntry → Type 0) where
  -- moves were made on this seat, and of these moves this holds
  pub record Acts {T : Type 0} (holds : List MoveEntry → Type 0) (was seat : DeskSeat T) : Type 0 where
    pub desk_is : IsSeatOf was.table_id seat
    pub said : List MoveEntry
    pub asked : AskedBy legal was.me.0 seat.me.0 said
    pub held : holds said
