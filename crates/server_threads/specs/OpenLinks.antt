-- Seats that are out, and links that are being served.
use Rattle.std.specs.Prelude.{◌≡◌, ℕ, ◌+◌, ◌<◌, ◌≤◌, ◌^◌, Bool, List, [], ◌∷◌, ◌++◌, length, map, All, Contains, IsPermutation, Option, Result, Ok, Err}
use Rattle.std.specs.VecDeque.{deque_len, deque_capacity}
use Rattle.atomic_table.specs.Seated.{TableId}
use Rattle.job_table.specs.History.{MoveEntry}
use Rattle.os_io.specs.Streams.{Tells, HasRisen}
use Rattle.os_io.specs.Links.{NetTells}
use Rattle.desk.specs.declared.view.SeatEntry.{SeatEntry}
use Rattle.desk.specs.declared.view.Met.{Met}
use Rattle.desk.specs.declared.view.View.{View}
use Rattle.desk.specs.History.{StartsWith}
use Rattle.desk.specs.Rule.{HasMet}
use Rattle.desk.specs.SeatMoves.{desk_id, IsSeatOf}
use Rattle.server_threads.specs.declared.means.ServeLimits.{ServeLimits}
use Rattle.server_threads.specs.declared.means.Room.{Room}
use Rattle.server_threads.specs.declared.means.ServeFault.{ServeFault}
use Rattle.server_threads.specs.declared.means.ServeFault.TheVariants.{Failed}
use Rattle.server_threads.specs.declared.links.LinkHost.{LinkHost}
use Rattle.server_threads.specs.declared.places.Started.{Started}
use Rattle.server_threads.specs.declared.promise.Finished.{Finished}
use Rattle.server_threads.specs.declared.promise.ToServe.{ToServe}
use Rattle.server_threads.specs.declared.promise.ToWork.{ToWork}
use Rattle.server_threads.specs.Talks.{DeskSeat, LinkTalk, Shift, talk_met, shift_met, short_of, Came, GivenBack, AllTalked, AllWorked, IsShift, Acts}
use Rattle.server_threads.specs.Promises.{promise_of, Due}
use Rattle.server_threads.specs.Serving.{Stand, stand, taken, MayTake, Opens, AtOnce, EndsServing}

-- a seat is one of the desk's, and had made no move when it was split off
abbrev pub IsSplitOff : {T : Type 0} → TableId → DeskSeat T → Type 0
IsSplitOff desk s = (s.table_id ≡ desk) × (s.me.0.mine ≡ [])

-- the seats have the numbers from this one on
abbrev pub AreNumberedFrom : {T : Type 0} → ℕ → List (DeskSeat T) → Type 0
AreNumberedFrom n [] = Unit {0}
AreNumberedFrom n (s ∷ ss) = (s.me.0.number ≡ n) × AreNumberedFrom (n + 1) ss

-- the first seat met these seats, and split off as many and those that are out
pub record KeepsSeats {T : Type 0} (desk : TableId) (v w : View) (met : List Met) (out : List (DeskSeat T)) : Type 0 where
  pub first : w.number ≡ 0
  pub number : w.number ≡ v.number
  pub met_is : w.met ≡ v.met ++ met
  pub given : w.given ≡ v.given + (length met + length out)
  pub waits : All (IsSplitOff desk) out
  pub mine : w.mine ≡ v.mine
  pub seen : StartsWith w.seen v.seen
  pub known : HasMet w.seen met

-- a link by the number of its seat, and by what it told when it came
abbrev pub Visit : Type 0
Visit = ℕ × Tells

abbrev pub visit : LinkTalk → Visit
visit t = (t.seat, t.came)

-- the links that came, of which this is told, are among these, with numbers from this one on
abbrev pub AreAmong : ℕ → List Tells → List Visit → Type 0
AreAmong n [] visits = Unit {0}
AreAmong n (c ∷ cs) visits = Contains visits (n, c) × AreAmong (n + 1) cs visits

-- so much of the history had been seen when the link with this number came, and of those that are being served the ones that came before it were
-- out then
pub record Begun (servers : ℕ) (log : List SeatEntry) (talks : List LinkTalk) (running : List ℕ) (seat : ℕ) (seen : List SeatEntry) : Type 0 where
  pub opens : Opens servers log talks seat seen
  pub still : All (λ n. n < seat → Contains opens.out n) running

-- so did all links, those that were served and those that are being served, and their numbers were given
abbrev pub AllBegun : (servers given : ℕ) → List SeatEntry → List LinkTalk → List ℕ → Type 0
AllBegun servers given log talks running =
    All (λ n. (n < given) × ((seen : List SeatEntry) × Begun servers log talks running n seen)) (map (λ t. t.seat) talks ++ running)

-- what is done for a link
abbrev pub Conversing : Type 0 → Type 0 → Type 0 → Type 0 → Type 0 → Type 0
Conversing J T L S B = Started (Finished (DeskSeat T) L) (ToServe J T L S B)

module _ {J T L S B : Type 0} where
  abbrev pub promised : Conversing J T L S B → ToServe J T L S B
  promised place = promise_of {P = ToServe J T L S B} place

  abbrev pub seat_out : Conversing J T L S B → DeskSeat T
  seat_out place = (promised place).seat.value

  abbrev pub number_out : Conversing J T L S B → ℕ
  number_out place = (seat_out place).me.0.number

  module _ (legal : List SeatEntry → Type 0) (talked : Tells → List MoveEntry → Tells → Bool → Type 0) (tells : L → Tells) where
    abbrev pub visit_out : Conversing J T L S B → Visit
    visit_out place = (number_out place, tells (promised place).link.value)

    -- a link was served as was promised
    abbrev pub served_so : ToServe J T L S B → Finished (DeskSeat T) L → Type 0
    served_so p r = Acts legal (λ said. talked (tells p.link.value) said (tells r.link) r.short) p.seat.value r.seat

    -- so much was told of links that came; those that were served were met and given back in one order, and the others are being served
    pub record Going (servers : ℕ) (desk : TableId) (old new : Stand) (short : ℕ) (places : List (Conversing J T L S B)) : Type 0 where
      pub links : List Tells
      pub talks : List LinkTalk
      pub keeps : KeepsSeats desk old.view new.view (map talk_met talks) (map seat_out places)
      pub due : All (Due served_so) places
      pub begun : AllBegun servers new.view.given new.view.seen talks (map number_out places)
      pub all_talked : All (λ t. talked t.came t.said t.back t.short) talks
      pub counted : length links ≡ length talks + length places
      pub numbered : AreAmong old.view.given links (map visit talks ++ map visit_out places)
      pub came : Came old.coming new.coming links
      pub back : GivenBack old.given_back new.given_back (map (λ t. t.back) talks)
      pub reached : new.reached ≡ old.reached
      pub shorts : short ≡ short_of talks

    -- what holds of a host and of the listener while links are being served in these places
    pub record GoesOn {E N R : Type 0} (net_tells : N → NetTells) (host : LinkHost E J T N L R S B) (net : N) (places : List (Conversing J T L S B)) : Type 0 where
      pub seat_is : IsSeatOf (desk_id host.means.desk.now) host.seat
      pub few : host.seat.me.0.given ≤ host.before.seat.value.me.0.given + 2 ^ 32
      pub going : Going host.means.limits.servers (desk_id host.means.desk.now) (stand net_tells host.before.seat.value host.before.net.value) (stand net_tells host.seat net) host.running.short places

    -- and in its own
    abbrev pub Goes : {E N R : Type 0} → (N → NetTells) → LinkHost E J T N L R S B → N → Type 0
    Goes net_tells host net = GoesOn net_tells host net (taken host.running.places.items)

module _ {E J T N L R S B : Type 0} where
  -- what a host uses, and what stood before the first link came, stay
  pub record KeepsMeans (host host' : LinkHost E J T N L R S B) : Type 0 where
    pub means : host'.means ≡ host.means
    pub before : host'.before ≡ host.before

  -- so many seats were split off as before, and the listener failed no more often
  pub record Stays (net_tells : N → NetTells) (host : LinkHost E J T N L R S B) (net : N) (host' : LinkHost E J T N L R S B) (net' : N) : Type 0 where
    pub kept : KeepsMeans host host'
    pub given : host'.seat.me.0.given ≡ host.seat.me.0.given
    pub faults : (net_tells net').faults ≡ (net_tells net).faults

-- links came in this order, were served, each by a seat of its own, and were given back, perhaps in another order, so that none is being served any more
pub record LinksServed (talked : Tells → List MoveEntry → Tells → Bool → Type 0) (servers : ℕ) (old new : Stand) : Type 0 where
  pub links : List LinkTalk
  pub returned : List LinkTalk
  pub all_back : IsPermutation links returned
  pub all_talked : AllTalked talked old.view.given links
  pub at_once : AtOnce servers new.view.seen links
  pub came : Came old.coming new.coming (map (λ t. t.came) links)
  pub back : GivenBack old.given_back new.given_back (map (λ t. t.back) returned)
  pub reached : new.reached ≡ old.reached
  pub number : new.view.number ≡ old.view.number
  pub met : new.view.met ≡ old.view.met ++ map talk_met returned
  pub given : new.view.given ≡ old.view.given + length links
  pub mine : new.view.mine ≡ old.view.mine
  pub seen : StartsWith new.view.seen old.view.seen
  pub known : HasMet new.view.seen (map talk_met returned)

-- links were served beside the workers: from this seat and listener to those, with this answer
abbrev pub HasServedLinks : {T N : Type 0} → (talked : Tells → List MoveEntry → Tells → Bool → Type 0) → (N → NetTells) → ServeLimits → (seat seat' : DeskSeat T) → (net net' : N) → Result ℕ ServeFault → Type 0
HasServedLinks talked tells limits seat seat' net net' answer =
    (o : LinksServed talked limits.servers (stand tells seat net) (stand tells seat' net')) × EndsServing answer limits.connections o.links (tells net).faults (tells net').faults

-- there is room for as many links and workers as these limits say
pub record MayServe {J T L S : Type 0} (limits : ServeLimits) (room : Room J T L S) : Type 0 where
  pub may : MayTake limits room.running
  pub none : room.shifts.items ≡ []
  pub empty : deque_len room.shifts ≡ 0
  pub room_is : limits.workers ≤ deque_capacity room.shifts

-- so many seats more were split off, one for each link that came; or fewer, where the listener failed
abbrev pub CameSo : {X E : Type 0} → Result X E → (connections seats seats' faults faults' : ℕ) → Type 0
CameSo (Ok x) connections seats seats' faults faults' = (seats' ≡ seats + connections) × (faults' ≡ faults)
CameSo (Err e) connections seats seats' faults faults' = (seats' < seats + connections) × HasRisen faults faults'

-- what is answered where room was found
abbrev pub served_result : {X E : Type 0} → Result X E → ℕ → Result ℕ ServeFault
served_result (Ok x) short = Ok short
served_result (Err e) short = Err Failed

-- what is done by a worker
abbrev pub Working : Type 0 → Type 0 → Type 0 → Type 0
Working J T S = Started (DeskSeat T) (ToWork J T S)

module _ {J T S : Type 0} where
  abbrev pub shift_promised : Working J T S → ToWork J T S
  shift_promised place = promise_of {P = ToWork J T S} place

  abbrev pub workers_out : List (Working J T S) → List (DeskSeat T)
  workers_out places = map (λ place. (shift_promised place).seat.value) places

  module _ (legal : List SeatEntry → Type 0) (made : List ℕ → List ℕ → List Bool → Option (List ℕ) → Type 0) where
    -- a worker worked as was promised
    abbrev pub worked_so : ToWork J T S → DeskSeat T → Type 0
    worked_so p seat = Acts legal (IsShift made) p.seat.value seat

    -- so many workers came, and are at work
    pub record Hired (desk : TableId) (v w : View) (count : ℕ) (places : List (Working J T S)) : Type 0 where
      pub keeps : KeepsSeats desk v w [] (workers_out places)
      pub numbered : AreNumberedFrom v.given (workers_out places)
      pub due : All (Due worked_so) places
      pub counted : length places ≡ count

    -- so many workers came, of whom some have left and were met behind other seats, and the others are at work
    pub record Staffed (desk : TableId) (v w : View) (count : ℕ) (met : List Met) (places : List (Working J T S)) : Type 0 where
      pub shifts : List Shift
      pub keeps : KeepsSeats desk v w (met ++ map shift_met shifts) (workers_out places)
      pub numbered : AreNumberedFrom (v.given + length shifts) (workers_out places)
      pub due : All (Due worked_so) places
      pub worked : AllWorked made v.given shifts
      pub counted : length shifts + length places ≡ count

-- so many workers came, were met behind other seats, and have left
pub record HaveLeft (made : List ℕ → List ℕ → List Bool → Option (List ℕ) → Type 0) (v w : View) (count : ℕ) (met : List Met) : Type 0 where
  pub shifts : List Shift
  pub worked : AllWorked made v.given shifts
  pub counted : length shifts ≡ count
  pub number : w.number ≡ v.number
  pub met_is : w.met ≡ v.met ++ (met ++ map shift_met shifts)
  pub given : w.given ≡ v.given + (length met + length shifts)
  pub mine : w.mine ≡ v.mine
  pub seen : StartsWith w.seen v.seen
  pub known : HasMet w.seen (met ++ map shift_met shifts)
