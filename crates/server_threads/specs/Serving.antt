-- What serving does to the first seat and to the listener.
use Rattle.std.specs.Prelude.{◌≡◌, ◌⊎◌, ℕ, ◌+◌, ◌≤◌, ◌<◌, Bool, List, [], ◌∷◌, ◌++◌, length, map, All, Contains, IsPermutation, vec_len, Option, Some, None, Result, Ok, Err}
use Rattle.job_table.specs.History.{MoveEntry}
use Rattle.os_io.specs.Streams.{Tells, HasRisen}
use Rattle.os_io.specs.Links.{Reached, NetTells}
use Rattle.desk.specs.declared.view.View.{View}
use Rattle.desk.specs.declared.view.SeatEntry.{SeatEntry}
use Rattle.desk.specs.History.{StartsWith, by, entries_by}
use Rattle.desk.specs.Rule.{HasMet, out_of}
use Rattle.server_threads.specs.declared.links.Running.{Running}
use Rattle.server_threads.specs.declared.means.ServeLimits.{ServeLimits}
use Rattle.server_threads.specs.declared.means.ServeFault.{ServeFault}
use Rattle.server_threads.specs.declared.means.ServeFault.TheVariants.{Failed, Memory}
use Rattle.server_threads.specs.Talks.{DeskSeat, LinkTalk, Shift, talk_met, shift_met, short_of, Came, GivenBack, AllTalked, AllWorked}

-- what the desk's first seat knows, and what the listener tells
pub record Stand : Type 0 where
  pub view : View
  pub coming : Option (List Tells)
  pub given_back : Option (List Tells)
  pub reached : Option (List Reached)

abbrev pub stand : {T N : Type 0} → (tells : N → NetTells) → DeskSeat T → N → Stand
stand tells seat net =
    record { view = seat.me.0; coming = (tells net).coming; given_back = (tells net).given_back; reached = (tells net).reached }

-- what stands in those places that are taken
abbrev pub taken : {A : Type 0} → List (Option A) → List A
taken [] = []
taken (None ∷ xs) = taken xs
taken (Some x ∷ xs) = x ∷ taken xs

-- links may be taken: at least one at a time, none is being served, and there are as many places as links may be served at once
pub record MayTake {J T L S B : Type 0} (limits : ServeLimits) (running : Running J T L S B) : Type 0 where
  pub some : 0 < limits.servers
  pub fresh : running.short ≡ 0
  pub none : taken running.places.items ≡ []
  pub room : vec_len running.places ≡ limits.servers

-- all moves of the links that came before the one with this number stand in this beginning of the history, but for some that are out
abbrev pub HasEarlier : (out : List ℕ) → List LinkTalk → ℕ → List SeatEntry → Type 0
HasEarlier out links seat seen = All (λ u. u.seat < seat → Contains out u.seat ⊎ (entries_by u.seat seen ≡ by u.seat u.said)) links

-- so much of the history may have been seen when the link with this number came: no move of its seat, and all moves of those that came before it, but
-- for the ones that were out, by their numbers, fewer than may be served at once
pub record Opens (servers : ℕ) (log : List SeatEntry) (links : List LinkTalk) (seat : ℕ) (seen : List SeatEntry) : Type 0 where
  pub out : List ℕ
  pub few : length out < servers
  pub begins : StartsWith log seen
  pub none : entries_by seat seen ≡ []
  pub earlier : HasEarlier out links seat seen

-- at most so many links are served at once, as far as moves show it: of any links that all have moves on both sides of one place of the history there are at most
-- so many. Before the moves of a link stand all moves of those that had come before it, but for fewer than so many links
abbrev pub AtOnce : (servers : ℕ) → List SeatEntry → List LinkTalk → Type 0
AtOnce servers log links = All (λ t. (seen : List SeatEntry) × Opens servers log links t.seat seen) links

module _ (made : List ℕ → List ℕ → List Bool → Option (List ℕ) → Type 0) (talked : Tells → List MoveEntry → Tells → Bool → Type 0) where
  -- the links came in this order, and were given back, perhaps in another. The seat met one seat for each link, as the link was given back, and
  -- at most so many workers' seats; it has seen all their moves, and made none itself
  pub record ServesLinks (servers workers : ℕ) (old new : Stand) (links : List LinkTalk) : Type 0 where
    pub shifts : List Shift
    pub returned : List LinkTalk
    pub all_back : IsPermutation links returned
    pub staff : length shifts ≤ workers
    pub worked : AllWorked made old.view.given shifts
    pub all_talked : AllTalked talked (old.view.given + length shifts) links
    pub at_once : AtOnce servers new.view.seen links
    pub came : Came old.coming new.coming (map (λ t. t.came) links)
    pub back : GivenBack old.given_back new.given_back (map (λ t. t.back) returned)
    pub reached : new.reached ≡ old.reached
    pub met : new.view.met ≡ old.view.met ++ (map talk_met returned ++ map shift_met shifts)
    pub known : HasMet new.view.seen (map talk_met returned ++ map shift_met shifts)
    pub seen : StartsWith new.view.seen old.view.seen
    pub mine : new.view.mine ≡ old.view.mine
    pub number : new.view.number ≡ old.view.number
    pub out : out_of new.view ≡ out_of old.view

-- how serving so many links ends: with the number of those that ended for want of memory; with a fault of the listener, before all came; or for
-- want of memory, before any came
abbrev pub EndsServing : Result ℕ ServeFault → (connections : ℕ) → List LinkTalk → (faults faults' : ℕ) → Type 0
EndsServing (Ok k) connections links faults faults' = (k ≡ short_of links) × (length links ≡ connections) × (faults' ≡ faults)
EndsServing (Err Failed) connections links faults faults' = (length links < connections) × HasRisen faults faults'
EndsServing (Err Memory) connections links faults faults' = (links ≡ []) × (faults' ≡ faults)

-- links and workers served: from this seat and listener to those, within these limits, with this answer
abbrev pub HasServed : {T N : Type 0} → (made : List ℕ → List ℕ → List Bool → Option (List ℕ) → Type 0) → (talked : Tells → List MoveEntry → Tells → Bool → Type 0) → (N → NetTells) → ServeLimits → (seat seat' : DeskSeat T) → (net net' : N)
    → Result ℕ ServeFault → Type 0
HasServed made talked tells limits seat seat' net net' answer =
    (links : List LinkTalk) × ServesLinks made talked limits.servers limits.workers (stand tells seat net) (stand tells seat' net') links × EndsServing answer limits.connections links (tells net).faults (tells net').faults
