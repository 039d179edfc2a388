-- Each step keeps the rule.
use Rattle.std.proofs.Common.{mod-eq_of_lt, ◌≡◌, ◌≢◌, ℕ, ◌+◌, ◌%◌, ◌<◌, ◌≤◌, eqb, eq-eqb, ne_eqb, cond, Bool, true, false, List, [], ◌∷◌, ◌++◌, length, map, get_or, set, Option, Some, None, IfSome, IsSome, refl, sym, ap, ◌∙◌, subst, zero, suc, ⊎_elim, length-set, arith}
use mathlib.Core.Logic.{dite}
use mathlib.Core.Option.{some, none, some-injective, some-ne-none}
use mathlib.Core.Option as maybe
use native.Mathlib.Decide.{ℕ_discrete}
use lib.ListN.{get_elem?}
use prog.Atomic.{either}
use Rattle.atomic_table.specs.Table.{opening, State, Me, step, keeps, takes, gives, stepped, Allows, put_back, rest}
use Rattle.atomic_table.proofs.Lists.{at_set, set_here, set_else, set_again}
use Rattle.job_table.specs.declared.entries.TableMove.{TableMove}
use Rattle.job_table.specs.declared.entries.Reply.{Reply}
use Rattle.desk.specs.declared.view.SeatEntry.{SeatEntry}
use Rattle.desk.specs.declared.view.Met.{Met}
use Rattle.desk.specs.declared.view.View.{View}
use Rattle.desk.specs.declared.view.Turn.{Turn}
use Rattle.desk.specs.declared.view.Turn.TheVariants.{Idle, Waiting, Served}
use Rattle.desk.specs.History.{Makes, CanMake, entries_by, StartsWith, entry_of_seat}
use Rattle.desk.specs.Rule.{first_view, with_turn, with_seen, one_if, live_in, KnowsLog, KnowsTurn, Knows, HoldsTicket, Turns, Slot, HasMet, StandsInSeen, CountsSeats, First, Kept}
use Rattle.desk.specs.Steps.{drew, looked_at_turn, with_entry, passed_on, skipped}
use Rattle.desk.specs.SeatMoves.{AddsEntry, HasTurn, IsServed, IsMoveAnswered, AnswersMove, reply_in}
use Rattle.desk.proofs.Histories.{entries_own, entries_other, none_behind, starts_again, starts_grown, makes_on, from_told, met_stand}

pub false_is_not : true ≡ false → ⊥
false_is_not e = cc

pub idle_is_not_served : (n : ℕ) → Idle ≡ Served n → ⊥
idle_is_not_served n e = cc

idle_is_not_waiting : (n : ℕ) → Idle ≡ Waiting n → ⊥
idle_is_not_waiting n e = cc

waiting_is_not_served : (m n : ℕ) → Waiting m ≡ Served n → ⊥
waiting_is_not_served m n e = cc

-- what a step of one seat leaves of its view
pub record Same (v w : View) : Type 0 where
  pub live : w.live ≡ v.live
  pub seen : StartsWith w.seen v.seen
  pub given : w.given ≡ v.given
  pub met : w.met ≡ v.met

-- a history that only this seat made longer
pub record Longer (id : ℕ) (log more : List SeatEntry) : Type 0 where
  pub grown : (seen : List SeatEntry) → StartsWith log seen → StartsWith more seen
  pub others : (j : ℕ) → j ≢ id → entries_by j more ≡ entries_by j log

pub length_above : {A : Type 0} (l : List A) (i : ℕ) (a : A) → get_elem? l i ≡ some a → i < length l
length_above [] i a e = absurd (some-ne-none a (sym e))
length_above (x ∷ xs) zero a e = omega arith
length_above (x ∷ xs) (suc i) a e = let up = length_above xs i a e in omega arith

pub live_set : (views : List View) (id : ℕ) (v w : View) → get_elem? views id ≡ some v → w.live ≡ v.live → live_in (set views id w) ≡ live_in views
live_set [] id v w at same = refl
live_set (x ∷ xs) zero v w at same = ap (λ b. one_if b + live_in xs) (same ∙ sym (ap (λ (u : View). u.live) (some-injective x v at)))
live_set (x ∷ xs) (suc i) v w at same = ap (λ n. one_if x.live + n) (live_set xs i v w at same)

-- a seat that is dead is another one
pub dead_is_other : (views : List View) (id k : ℕ) (v u : View) → get_elem? views id ≡ some v → v.live ≡ true → get_elem? views k ≡ some u → u.live ≡ false → k ≢ id
dead_is_other views id k v u at live at_k dead is =
    let one : u ≡ v = some-injective u v (sym at_k ∙ ap (get_elem? views) is ∙ at) in
    let both : true ≡ false = sym live ∙ sym (ap (λ (z : View). z.live) one) ∙ dead in absurd (false_is_not both)

counts_stay : (log more : List SeatEntry) (views : List View) (id : ℕ) (v w : View) (given : ℕ) (met : List Met) → get_elem? views id ≡ some v → v.live ≡ true → w.live ≡ v.live → Longer id log more
    → CountsSeats log views given met → CountsSeats more (set views id w) given met
counts_stay log more views id v w given met at live same longer c = record {
  all_given = c.all_given ∙ sym (length-set views id w);
  all_met = ap (λ n. length met + n) (live_set views id v w at same) ∙ c.all_met;
  known = λ i m there. let k = c.known i m there in let other = dead_is_other views id m.seat v k.1.0 at live k.1.1 k.1.2 in
      (longer.others m.seat other ∙ k.0, (k.1.0, set_else views id m.seat w other ∙ k.1.1, k.1.2));
  every = λ k u there dead. ⊎_elim
      (λ (t : (k ≡ id) × (w ≡ u)). let both : true ≡ false = sym live ∙ sym same ∙ ap (λ (z : View). z.live) t.1 ∙ dead in absurd (false_is_not both))
      (λ (t : (k ≢ id) × (get_elem? views k ≡ some u)). c.every k u t.1 dead)
      (at_set views id k w u there);
}

pub same_log : (id : ℕ) (log : List SeatEntry) → Longer id log log
same_log id log = record { grown = λ seen st. st; others = λ j other. refl }

longer_log : (id : ℕ) (log : List SeatEntry) (e : SeatEntry) → e.seat ≡ id → Longer id log (log ++ e ∷ [])
longer_log id log e own = record {
  grown = λ seen st. starts_grown log seen (e ∷ []) st;
  others = λ j other. entries_other j log e (λ is. other (sym is ∙ own));
}

pub others_know_log : (id : ℕ) (log more : List SeatEntry) → Longer id log more → (j : ℕ) (u : View) → j ≢ id → KnowsLog log j u → KnowsLog more j u
others_know_log id log more longer j u other k = record {
  number = k.number;
  prefix = longer.grown u.seen k.prefix;
  mine = longer.others j other ∙ k.mine;
  stand = k.stand;
  shorter = longer.grown u.shorter k.shorter;
  alone = k.alone;
}

first_stays : (log more : List SeatEntry) (views : List View) (id : ℕ) (v w f : View) → get_elem? views id ≡ some v → v.live ≡ true → Same v w → Longer id log more → StartsWith more w.seen
    → First log views f → (g : View) × First more (set views id w) g
first_stays log more views id v w f at live same longer whole c = dite (ℕ_discrete 0 id)
    (λ here.
    let one : f ≡ v = some-injective f v (sym c.here ∙ ap (get_elem? views) here ∙ at) in
    let old : CountsSeats log views v.given v.met = subst (λ (z : View). CountsSeats log views z.given z.met) one c.counts in
    let new : CountsSeats log views w.given w.met = subst (λ (z : ℕ × List Met). CountsSeats log views z.0 z.1) (λ i. (sym same.given i, sym same.met i)) old in
    let moved : CountsSeats more (set views id w) w.given w.met = counts_stay log more views id v w w.given w.met at live same.live longer new in (
      w,
      record {
        here = ap (get_elem? (set views id w)) here ∙ set_here views id w (length_above views id v at);
        live = same.live ∙ live;
        counts = moved;
        stand = met_stand w.met v.seen w.seen more same.seen whole (λ i m there. (moved.known i m there).0)
            (subst (λ (met : List Met). HasMet v.seen met) (sym same.met) (subst (λ (z : View). HasMet z.seen z.met) one c.stand));
      },
    ))
    (λ other. (
      f,
      record {
        here = set_else views id 0 w other ∙ c.here;
        live = c.live;
        counts = counts_stay log more views id v w f.given f.met at live same.live longer c.counts;
        stand = c.stand;
      },
    ))

same_view : (v : View) (t : Turn) → Same v (with_turn t v)
same_view v t = record { live = refl; seen = starts_again v.seen; given = refl; met = refl }

pub same_itself : (v : View) → Same v v
same_itself v = record { live = refl; seen = starts_again v.seen; given = refl; met = refl }

same_seen : (v : View) (t : Turn) (seen mine : List SeatEntry) → StartsWith seen v.seen → Same v (with_seen t seen mine v)
same_seen v t seen mine grown = record { live = refl; seen = grown; given = refl; met = refl }

-- a view whose turn alone changes knows what it knew
turned : (log : List SeatEntry) (ticket serving : ℕ) (owner : ℕ → ℕ) (away : Bool) (id : ℕ) (v : View) (t : Turn) → v.live ≡ true → KnowsLog log id v → KnowsTurn log ticket serving owner away id v.seen t
    → Knows log ticket serving owner away id (with_turn t v)
turned log ticket serving owner away id v t live k mine = record {
  turn = mine;
  idle = λ dead. absurd (false_is_not (sym live ∙ dead));
  knows = λ _. record { number = k.number; prefix = k.prefix; mine = k.mine; stand = k.stand; shorter = k.shorter; alone = k.alone };
}

abbrev given_to : ℕ → ℕ → (ℕ → ℕ) → ℕ → ℕ
given_to n id owner k = cond (eqb k n) id (owner k)

given_here : (n id : ℕ) (owner : ℕ → ℕ) → given_to n id owner n ≡ id
given_here n id owner = rw (eq-eqb n n refl) refl

given_else : (n id : ℕ) (owner : ℕ → ℕ) (k : ℕ) → k ≢ n → given_to n id owner k ≡ owner k
given_else n id owner k other = rw (ne_eqb k n other) refl

others_draw : (log : List SeatEntry) (ticket serving old id : ℕ) (owner : ℕ → ℕ) (away : Bool) (j : ℕ) (seen : List SeatEntry) (t : Turn) → ticket ≡ old
    → KnowsTurn log ticket serving owner away j seen t → KnowsTurn log (old + 1) serving (given_to old id owner) away j seen t
others_draw log ticket serving old id owner away j seen Idle is k = tt
others_draw log ticket serving old id owner away j seen (Waiting n) is k = let lt = k.1 in (k.0, omega arith, given_else old id owner n (λ e. omega arith) ∙ k.2)
others_draw log ticket serving old id owner away j seen (Served n) is k = let lt = k.1 in (k.0, omega arith, given_else old id owner n (λ e. omega arith) ∙ k.2, k.3, k.4)

abbrev number_of : Turn → ℕ
number_of Idle = 0
number_of (Waiting n) = n
number_of (Served n) = n

true_is_not : (b : Bool) → b ≡ false → b ≡ true → ⊥
true_is_not b is_false is_true = false_is_not (sym is_true ∙ is_false)

others_take : (log : List SeatEntry) (ticket serving : ℕ) (owner : ℕ → ℕ) (away : Bool) (j : ℕ) (seen : List SeatEntry) (t : Turn) → away ≡ false
    → KnowsTurn log ticket serving owner away j seen t → KnowsTurn log ticket serving owner true j seen t
others_take log ticket serving owner away j seen Idle home k = tt
others_take log ticket serving owner away j seen (Waiting n) home k = k
others_take log ticket serving owner away j seen (Served n) home k = absurd (true_is_not away home k.3)

others_pass : (log more : List SeatEntry) (ticket serving id : ℕ) (owner : ℕ → ℕ) (away : Bool) (j : ℕ) (seen : List SeatEntry) (t : Turn) → owner serving ≡ id → j ≢ id
    → KnowsTurn log ticket serving owner away j seen t → KnowsTurn more ticket (serving + 1) owner false j seen t
others_pass log more ticket serving id owner away j seen Idle mine other k = tt
others_pass log more ticket serving id owner away j seen (Waiting n) mine other k =
    let le = k.0 in let ne : n ≢ serving = λ is. other (sym k.2 ∙ (ap owner is ∙ mine)) in (omega arith, k.1, k.2)
others_pass log more ticket serving id owner away j seen (Served n) mine other k = absurd (other (sym k.2 ∙ (ap owner k.0 ∙ mine)))

-- a seat that hasn't that number isn't its owner
pub owner_else : (views : List View) (id k n : ℕ) (v u : View) → get_elem? views id ≡ some v → get_elem? views k ≡ some u → HoldsTicket n u.turn → (HoldsTicket n v.turn → ⊥) → k ≢ id
owner_else views id k n v u at there has hasnt is =
    hasnt (subst (λ (z : View). HoldsTicket n z.turn) (some-injective u v (sym there ∙ ap (get_elem? views) is ∙ at)) has)

pub idle_has_none : (n : ℕ) (v : View) → v.turn ≡ Idle → HoldsTicket n v.turn → ⊥
idle_has_none n v idle has = subst (HoldsTicket n) idle has

-- the numbers of the other seats stay theirs
turns_else : (ticket serving : ℕ) (owner : ℕ → ℕ) (views : List View) (id : ℕ) (v w : View) → get_elem? views id ≡ some v → Turns ticket serving owner views
    → (n : ℕ) → serving ≤ n → n < ticket → (HoldsTicket n v.turn → ⊥) → (u : View) × (get_elem? (set views id w) (owner n) ≡ some u) × HoldsTicket n u.turn
turns_else ticket serving owner views id v w at turns n from below hasnt =
    let t = turns n from below in (t.0, set_else views id (owner n) w (owner_else views id (owner n) n v t.0 at t.1 t.2 hasnt) ∙ t.1, t.2)

-- a number is drawn, its turn comes, and is passed on
turns_drawn : (ticket serving old id : ℕ) (owner : ℕ → ℕ) (views : List View) (v : View) → ticket ≡ old → get_elem? views id ≡ some v → v.turn ≡ Idle → Turns ticket serving owner views
    → Turns (old + 1) serving (given_to old id owner) (set views id (with_turn (Waiting old) v))
turns_drawn ticket serving old id owner views v is at idle turns n from below =
    let w : View = with_turn (Waiting old) v in
    dite (ℕ_discrete n old)
    (λ here. (w, ap (get_elem? (set views id w)) (ap (given_to old id owner) here ∙ given_here old id owner) ∙ set_here views id w (length_above views id v at), sym here))
    (λ other.
    let t = turns_else ticket serving owner views id v w at turns n from (omega arith) (idle_has_none n v idle) in
    (t.0, ap (get_elem? (set views id w)) (given_else old id owner n other) ∙ t.1, t.2))

turns_taken : (ticket serving id m : ℕ) (owner : ℕ → ℕ) (views : List View) (v w : View) → get_elem? views id ≡ some v → v.turn ≡ Waiting m → w.turn ≡ Served m → owner m ≡ id → Turns ticket serving owner views
    → Turns ticket serving owner (set views id w)
turns_taken ticket serving id m owner views v w at waits served mine turns n from below = dite (ℕ_discrete n m)
    (λ here. (w, ap (get_elem? (set views id w)) (ap owner here ∙ mine) ∙ set_here views id w (length_above views id v at), subst (HoldsTicket n) (sym served) (sym here)))
    (λ other. turns_else ticket serving owner views id v w at turns n from below (λ has. other (sym (subst (HoldsTicket n) waits has))))

turns_passed : (ticket serving id m : ℕ) (owner : ℕ → ℕ) (views : List View) (v w : View) → get_elem? views id ≡ some v → v.turn ≡ Served m → m ≡ serving → Turns ticket serving owner views
    → Turns ticket (serving + 1) owner (set views id w)
turns_passed ticket serving id m owner views v w at served is turns n from below =
    turns_else ticket serving owner views id v w at turns n (omega arith) below (λ has. let same : m ≡ n = subst (HoldsTicket n) served has in omega arith)

none_there : (i : ℕ) (m : Met) → get_elem? [] i ≡ some m → ⊥
none_there i m e = some-ne-none m (sym e)

none_dead : (k : ℕ) (w : View) → get_elem? (first_view ∷ []) k ≡ some w → w.live ≡ false → ⊥
none_dead zero w e dead = false_is_not (ap (λ (z : View). z.live) (some-injective first_view w e) ∙ dead)
none_dead (suc k) w e dead = some-ne-none w (sym e)

first_knows : (j : ℕ) (v : View) → get_elem? (first_view ∷ []) j ≡ some v → Knows [] 0 0 (λ n. 0) false j v
first_knows zero v e = subst (λ (z : View). Knows [] 0 0 (λ n. 0) false 0 z) (some-injective first_view v e) record {
  turn = tt;
  idle = λ dead. absurd (false_is_not dead);
  knows = λ _. record { number = refl; prefix = ([], refl); mine = refl; stand = refl; shorter = ([], refl); alone = λ _. refl };
}
first_knows (suc j) v e = absurd (some-ne-none v (sym e))

pub led_by : {A : Type 0} (l : List (ℕ × A)) (x : ℕ × A) → l ≡ x ∷ [] → l ≡ x ∷ rest l
led_by l x e = e ∙ (λ i. x ∷ rest (sym e i))

abbrev pub S : Type 0 → Type 0
S T = Option T

abbrev pub St : Type 0 → Type 0
St T = State (S T) View

abbrev pub M : Type 0 → Type 0
M T = Me (S T) View

module _ {T : Type 0} where
  -- the slot stays where it is, when an idle seat draws
  slot_drawn : (state : T) (serving ticket id : ℕ) (owner : ℕ → ℕ) (homes : List (maybe.Option (S T))) (views : List View) (v w : View) (away : Bool)
      → get_elem? views id ≡ some v → v.turn ≡ Idle → serving ≤ ticket
      → ((n : ℕ) (u : View) → away ≡ true → get_elem? views n ≡ some u → u.turn ≡ Served serving → serving < ticket)
      → Slot state serving owner homes views away → Slot state serving (given_to ticket id owner) homes (set views id w) away
  slot_drawn state serving ticket id owner homes views v w false at idle ordered below slot = slot
  slot_drawn state serving ticket id owner homes views v w true at idle ordered below slot =
      let u : View = slot.1.0 in
      let there : get_elem? views (owner serving) ≡ some u = slot.1.1 in
      let served : u.turn ≡ Served serving = slot.1.2 in
      let lt : serving < ticket = below (owner serving) u refl there served in
      let keeps_owner : given_to ticket id owner serving ≡ owner serving = given_else ticket id owner serving (λ is. omega arith) in
      let other : owner serving ≢ id = λ is. absurd (idle_is_not_served serving (sym idle ∙ ap (λ (z : View). z.turn) (some-injective v u (sym at ∙ ap (get_elem? views) (sym is) ∙ there)) ∙ served)) in
      (slot.0, (u, ap (get_elem? (set views id w)) keeps_owner ∙ set_else views id (owner serving) w other ∙ there, served))

  -- where it is the turn of a seat that waits, the slot is at home
  slot_at_turn : (state : T) (serving id : ℕ) (owner : ℕ → ℕ) (homes : List (maybe.Option (S T))) (views : List View) (v : View) (away : Bool)
      → owner serving ≡ id → get_elem? views id ≡ some v → v.turn ≡ Waiting serving → Slot state serving owner homes views away
      → (away ≡ false) × (homes ≡ some (Some state) ∷ [])
  slot_at_turn state serving id owner homes views v false mine at waits slot = (refl, slot)
  slot_at_turn state serving id owner homes views v true mine at waits slot =
      absurd (waiting_is_not_served serving serving (sym waits ∙ ap (λ (z : View). z.turn) (some-injective v slot.1.0 (sym at ∙ ap (get_elem? views) (sym mine) ∙ slot.1.1)) ∙ slot.1.2))

  slot_away : (state : T) (serving : ℕ) (owner : ℕ → ℕ) (homes : List (maybe.Option (S T))) (views : List View) (away : Bool) → away ≡ true → Slot state serving owner homes views away → homes ≡ none ∷ []
  slot_away state serving owner homes views true is slot = slot.0
  slot_away state serving owner homes views false is slot = absurd (true_is_not false refl is)

module _ {T : Type 0} (becomes : T → TableMove → Reply → T → Type 0) {start : T} where
  -- a live seat makes a step
  pub moves : (s : St T) (r : Kept becomes start s) (id : ℕ) (v w : View) (words : List ℕ) (homes : List (maybe.Option (S T))) (log : List SeatEntry) (state : T) (ticket serving : ℕ) (owner : ℕ → ℕ) (away : Bool)
      → get_elem? s.views id ≡ some v → v.live ≡ true → Same v w → Longer id r.log log
      → words ≡ ticket ∷ serving ∷ [] → serving ≤ ticket → ticket < 18446744073709551616 → Makes becomes start log state
      → Slot state serving owner homes (set s.views id w) away
      → Knows log ticket serving owner away id w
      → ((j : ℕ) (u : View) → j ≢ id → Knows r.log r.ticket r.serving r.owner r.away j u → KnowsTurn log ticket serving owner away j u.seen u.turn)
      → Turns ticket serving owner (set s.views id w)
      → Kept becomes start record { words = words; homes = homes; views = set s.views id w }
  moves s r id v w words homes log state ticket serving owner away at live same longer words_are ordered bounded runs slot mine others turns =
      let first = first_stays r.log log s.views id v w r.head at live same longer ((mine.knows (same.live ∙ live)).prefix) r.first in record {
        log = log;
        state = state;
        ticket = ticket;
        serving = serving;
        owner = owner;
        away = away;
        head = first.0;
        words = words_are;
        ordered = ordered;
        bounded = bounded;
        runs = runs;
        slot = slot;
        seats = λ j u there. ⊎_elim
            (λ (t : (j ≡ id) × (w ≡ u)). subst (λ (z : ℕ × View). Knows log ticket serving owner away z.0 z.1) (λ i. (sym t.0 i, t.1 i)) mine)
            (λ (t : (j ≢ id) × (get_elem? s.views j ≡ some u)). let k = r.seats j u t.1 in record {
              turn = others j u t.0 k;
              idle = k.idle;
              knows = λ alive. others_know_log id r.log log longer j u t.0 (k.knows alive);
            })
            (at_set s.views id j w u there);
        turns = turns;
        strangers = λ j far.
            let here : id < length s.views = length_above s.views id v at in
            let size : length (set s.views id w) ≡ length s.views = length-set s.views id w in
            longer.others j (λ is. omega arith) ∙ r.strangers j (omega arith);
        first = first.1;
      }

  -- a step that changes nothing
  pub stays_so : (s : St T) (r : Kept becomes start s) (id : ℕ) (v : View) (words : List ℕ) → get_elem? s.views id ≡ some v → words ≡ r.ticket ∷ r.serving ∷ []
      → Kept becomes start record { words = words; homes = s.homes; views = set s.views id v }
  stays_so s r id v words at are =
      subst (λ (z : List ℕ × List View). Kept becomes start record { words = z.0; homes = s.homes; views = z.1 }) (λ i. ((r.words ∙ sym are) i, sym (set_again s.views id v at) i)) r

  -- all moves of a live seat stand in what it has seen, and all moves of those that it met
  pub stands_of : (s : St T) (r : Kept becomes start s) (id : ℕ) (v : View) → get_elem? s.views id ≡ some v → v.live ≡ true → StandsInSeen v
  stands_of s r id v at live =
      let k = (r.seats id v at).knows live in (
        ap (λ (n : ℕ). entries_by n v.seen) k.number ∙ k.stand,
        dite (ℕ_discrete 0 id)
            (λ first. subst (λ (z : View). HasMet z.seen z.met) (some-injective r.head v (sym r.first.here ∙ ap (get_elem? s.views) first ∙ at)) r.first.stand)
            (λ other. λ i m there. absurd (none_there i m (sym (ap (λ (met : List Met). get_elem? met i) (k.alone (λ is. other (sym is)))) ∙ there))),
      )

  -- a ticket is drawn, where the word is the number asked for
  pub draws : (slots id : ℕ) (me : M T) (old : ℕ) → me.0.turn ≡ Idle → me.0.live ≡ true → old + 1 < 18446744073709551616
      → Allows (Kept becomes start) slots id me 0 (λ n. either (eqb n old) (old + 1) n) (drew (step slots 0 old (old + 1) none) me)
  draws slots id me old idle live small s r _ at _ =
      let x : ℕ = get_or s.words 0 0 in
      let found : x ≡ r.ticket = ap (λ (ws : List ℕ). get_or ws 0 0) r.words in
      let k = r.seats id me.0 at in
      let below : (n : ℕ) (u : View) → r.away ≡ true → get_elem? s.views n ≡ some u → u.turn ≡ Served r.serving → r.serving < r.ticket =
      λ n u out there served. (subst (λ (t : Turn). KnowsTurn r.log r.ticket r.serving r.owner r.away n u.seen t) served ((r.seats n u there).turn)).1 in
      dite (ℕ_discrete x old)
      (λ hit.
      let w : View = with_turn (Waiting old) me.0 in
      let is : r.ticket ≡ old = sym found ∙ hit in
      let new : either (eqb x old) (old + 1) x ≡ old + 1 = rw (eq-eqb x old hit) refl in
      let ordered = r.ordered in (
        w,
        keeps,
        tt,
        moves s r id me.0 w (set s.words 0 (either (eqb x old) (old + 1) x)) s.homes r.log r.state (old + 1) r.serving (given_to old id r.owner) r.away at live (same_view me.0 (Waiting old)) (same_log id r.log)
            (λ i. set (r.words i) 0 (new i)) (omega arith) small r.runs
            (slot_drawn r.state r.serving old id r.owner s.homes s.views me.0 w r.away at idle (omega arith) (λ n u out there served. let lt = below n u out there served in omega arith) r.slot)
            (turned r.log (old + 1) r.serving (given_to old id r.owner) r.away id me.0 (Waiting old) live (k.knows live) (omega arith, omega arith, given_here old id r.owner))
            (λ j u other kn. others_draw r.log r.ticket r.serving old id r.owner r.away j u.seen u.turn is kn.turn)
            (turns_drawn r.ticket r.serving old id r.owner s.views me.0 is at idle r.turns),
        (λ _. refl, λ miss. absurd (miss hit)),
      ))
      (λ miss.
      let same : either (eqb x old) (old + 1) x ≡ x = rw (ne_eqb x old miss) refl in (
        me.0,
        keeps,
        tt,
        stays_so s r id me.0 (set s.words 0 (either (eqb x old) (old + 1) x)) at (λ i. set (r.words i) 0 ((same ∙ found) i)),
        (λ hit. absurd (miss hit), λ _. refl),
      ))

  -- a look at the turn
  pub looks : (slots id : ℕ) (me : M T) (n : ℕ) (told : Option T) → told ≡ Some start → me.0.turn ≡ Waiting n → me.0.live ≡ true → me.1 ≡ []
      → Allows (Kept becomes start) slots id me 1 (λ k. k) (looked_at_turn becomes told (step slots 1 0 0 none) me)
  looks slots id me n told begins waits live bare s r _ at _ =
      let x : ℕ = get_or s.words 1 0 in
      let found : x ≡ r.serving = ap (λ (ws : List ℕ). get_or ws 1 0) r.words in
      let k = r.seats id me.0 at in
      let known : KnowsTurn r.log r.ticket r.serving r.owner r.away id me.0.seen (Waiting n) = subst (λ (t : Turn). KnowsTurn r.log r.ticket r.serving r.owner r.away id me.0.seen t) waits k.turn in
      let one : (m : ℕ) → me.0.turn ≡ Waiting m → m ≡ n = λ m is. ap number_of (sym is ∙ waits) in
      dite (ℕ_discrete x n)
      (λ hit.
      let is : r.serving ≡ n = sym found ∙ hit in
      let mine : r.owner r.serving ≡ id = ap r.owner is ∙ known.2 in
      let home = slot_at_turn r.state r.serving id r.owner s.homes s.views me.0 r.away mine at (waits ∙ ap Waiting (sym is)) r.slot in
      let held : T = r.state in
      let w : View = with_seen (Served n) r.log me.0.mine me.0 in
      let kn = k.knows live in
      let new = moves s r id me.0 w (set s.words 1 x) (set s.homes 0 none) r.log r.state r.ticket r.serving r.owner true at live (same_seen me.0 (Served n) r.log me.0.mine kn.prefix) (same_log id r.log)
      (λ i. set (r.words i) 1 (found i)) r.ordered r.bounded r.runs
      (ap (λ (hs : List (maybe.Option (S T))). set hs 0 none) home.1, (w, ap (get_elem? (set s.views id w)) mine ∙ set_here s.views id w (length_above s.views id me.0 at), ap Served (sym is)))
      record {
        turn = (sym is, known.1, known.2, refl, refl);
        idle = λ dead. absurd (false_is_not (sym live ∙ dead));
        knows = λ _. record { number = kn.number; prefix = starts_again r.log; mine = kn.mine; stand = kn.mine; shorter = kn.shorter; alone = kn.alone };
      }
      (λ j u other ku. others_take r.log r.ticket r.serving r.owner r.away j u.seen u.turn home.0 ku.turn)
      (turns_taken r.ticket r.serving id n r.owner s.views me.0 w at waits refl known.2 r.turns) in (
        w,
        takes 0 (Some held),
        ap (λ (hs : List (maybe.Option (S T))). get_elem? hs 0) home.1,
        new,
        λ m is_m. (
          λ miss. absurd (miss (hit ∙ sym (one m is_m))),
          λ _. (r.log, held, (λ i. (with_seen (Served (sym (one m is_m) i)) r.log me.0.mine me.0, (0, Some held) ∷ bare i)), kn.prefix, from_told becomes told start r.log held begins r.runs, stands_of _ new id w (set_here s.views id w (length_above s.views id me.0 at)) live),
        ),
      ))
      (λ miss. (
        me.0,
        keeps,
        tt,
        stays_so s r id me.0 (set s.words 1 x) at (λ i. set (r.words i) 1 (found i)),
        λ m is_m. (λ _. refl, λ hit. absurd (miss (hit ∙ one m is_m))),
      ))

  -- what the seat whose turn it is knows
  served_knows : (s : St T) (r : Kept becomes start s) (id n : ℕ) (me : View) → get_elem? s.views id ≡ some me → me.turn ≡ Served n
      → KnowsTurn r.log r.ticket r.serving r.owner r.away id me.seen (Served n)
  served_knows s r id n me at served = subst (λ (t : Turn). KnowsTurn r.log r.ticket r.serving r.owner r.away id me.seen t) served ((r.seats id me at).turn)

  -- the seat whose turn it is gives the slot back and passes the turn on, with the history `more`
  ends : (s : St T) (r : Kept becomes start s) (id n : ℕ) (me : M T) (held : T) (w : View) (more : List SeatEntry) → get_elem? s.views id ≡ some me.0 → me.0.turn ≡ Served n → me.0.live ≡ true → me.1 ≡ (0, Some held) ∷ []
      → get_or s.words 1 0 < 18446744073709551616
      → Same me.0 w → w.turn ≡ Idle → Longer id r.log more → Makes becomes start more held → KnowsLog more id w
      → Kept becomes start (stepped s 1 ((get_or s.words 1 0 + 1) % 18446744073709551616) id me.1 w gives)
  ends s r id n me held w more at served live has small same idle longer runs knows =
      let k = served_knows s r id n me.0 at served in
      let found : get_or s.words 1 0 ≡ r.serving = ap (λ (ws : List ℕ). get_or ws 1 0) r.words in
      let bounded = r.bounded in
      let is = k.0 in
      let below = k.1 in
      let fits : r.serving + 1 < 18446744073709551616 = omega arith in
      let next : (get_or s.words 1 0 + 1) % 18446744073709551616 ≡ r.serving + 1 = ap (λ (z : ℕ). (z + 1) % 18446744073709551616) found ∙ mod-eq_of_lt fits in
      moves s r id me.0 w (set s.words 1 ((get_or s.words 1 0 + 1) % 18446744073709551616)) (put_back s.homes me.1) more held r.ticket (r.serving + 1) r.owner false at live same longer
      (λ i. set (r.words i) 1 (next i)) (omega arith) bounded runs
      (λ i. put_back (slot_away r.state r.serving r.owner s.homes s.views r.away k.3 r.slot i) (has i))
      record {
        turn = subst (λ (t : Turn). KnowsTurn more r.ticket (r.serving + 1) r.owner false id w.seen t) (sym idle) tt;
        idle = λ _. idle;
        knows = λ _. knows;
      }
      (λ j u other ku. others_pass r.log more r.ticket r.serving id r.owner r.away j u.seen u.turn (ap r.owner (sym k.0) ∙ k.2) other ku.turn)
      (turns_passed r.ticket r.serving id n r.owner s.views me.0 w at served k.0 r.turns)

  -- a move goes into the history
  pub passes : (slots id : ℕ) (me : M T) (move : TableMove) (reply : Reply) → IsMoveAnswered becomes start move reply me
      → Allows (Kept becomes start) slots id me 1 (λ k. (k + 1) % 18446744073709551616) (passed_on move reply (step slots 1 1 0 none) me)
  passes slots id me move reply a s r _ at small =
      let n = a.number in
      let held = a.held in
      let served = a.turn in
      let live = a.live in
      let has = a.given in
      let k = served_knows s r id n me.0 at served in
      let all : me.0.seen ≡ r.log = k.4 in
      let e : SeatEntry = entry_of_seat me.0.number move reply in
      let kn = (r.seats id me.0 at).knows live in
      let w : View = with_entry me.0 move reply in
      let mine : entries_by id (r.log ++ e ∷ []) ≡ w.mine = entries_own id r.log e kn.number ∙ ap (λ (l : List SeatEntry). l ++ e ∷ []) kn.mine in
      let same_all : me.0.seen ++ e ∷ [] ≡ r.log ++ e ∷ [] = ap (λ (l : List SeatEntry). l ++ e ∷ []) all in
      let new = ends s r id n me held w (r.log ++ e ∷ []) at served live has small
      (same_seen me.0 Idle (me.0.seen ++ e ∷ []) (me.0.mine ++ e ∷ []) (e ∷ [], refl)) refl (longer_log id r.log e kn.number)
      (makes_on becomes start r.log a.before e held (subst (λ (l : List SeatEntry). Makes becomes start l a.before) all a.leads) a.answers)
      record {
        number = kn.number;
        prefix = subst (λ (l : List SeatEntry). StartsWith (r.log ++ e ∷ []) l) (sym same_all) (starts_again (r.log ++ e ∷ []));
        mine = mine;
        stand = ap (entries_by id) same_all ∙ mine;
        shorter = starts_grown r.log me.0.shorter (e ∷ []) kn.shorter;
        alone = kn.alone;
      } in (
        w,
        gives,
        tt,
        new,
        ((λ i. (w, rest (has i))), stands_of _ new id w (set_here s.views id w (length_above s.views id me.0 at)) live),
      )

  -- a turn with no move
  pub skips : (slots id : ℕ) (me : M T) (n : ℕ) (held : T) → me.0.turn ≡ Served n → me.0.live ≡ true → me.1 ≡ (0, Some held) ∷ []
      → Makes becomes start me.0.seen held
      → Allows (Kept becomes start) slots id me 1 (λ k. (k + 1) % 18446744073709551616) (skipped (step slots 1 1 0 none) me)
  skips slots id me n held served live has run s r _ at small =
      let k = served_knows s r id n me.0 at served in
      let kn = (r.seats id me.0 at).knows live in (
        with_turn Idle me.0,
        gives,
        tt,
        ends s r id n me held (with_turn Idle me.0) r.log at served live has small
            (same_view me.0 Idle) refl (same_log id r.log)
            (subst (λ (l : List SeatEntry). Makes becomes start l held) k.4 run)
            record { number = kn.number; prefix = kn.prefix; mine = kn.mine; stand = kn.stand; shorter = kn.shorter; alone = kn.alone },
        (λ i. (with_turn Idle me.0, rest (has i))),
      )

  -- the desk at the start
  pub opens : (slots before : List (S T)) (held : T) → slots ≡ before ++ Some held ∷ [] → before ≡ [] → held ≡ start → Kept becomes start (opening (0 ∷ 0 ∷ []) slots first_view)
  opens slots before held are none_before is = record {
    log = [];
    state = start;
    ticket = 0;
    serving = 0;
    owner = λ n. 0;
    away = false;
    head = first_view;
    words = refl;
    ordered = omega arith;
    bounded = omega arith;
    runs = refl;
    slot = ap (map some) (are ∙ ap (λ l. l ++ Some held ∷ []) none_before) ∙ ap (λ (x : T). some (Some x) ∷ []) is;
    seats = λ j v there. first_knows j v there;
    turns = λ n from below. absurd (omega arith);
    strangers = λ j far. refl;
    first = record {
      here = refl;
      live = refl;
      counts = record {
        all_given = refl;
        all_met = refl;
        known = λ i m there. absurd (none_there i m there);
        every = λ k w there dead. absurd (none_dead k w there dead);
      };
      stand = λ i m there. absurd (none_there i m there);
    };
  }

  -- what the seat whose move went into the history then knows
  pub passed_tells : (slots r : ℕ) (me after : M T) (move : TableMove) (reply : Reply) → IsMoveAnswered becomes start move reply me
      → passed_on move reply (step slots 1 1 0 none) me r after → AnswersMove becomes start move reply me after
  passed_tells slots r me after move reply a told = (
    told.0,
    (a.held, makes_on becomes start me.0.seen a.before (entry_of_seat me.0.number move reply) a.held a.leads a.answers),
    subst (λ (m : M T). StandsInSeen m.0) (sym told.0) told.1,
  )

  -- a seat that has just put the table back
  pub answered : (me given : M T) (n : ℕ) (held new : T) (move : TableMove) (said : Option Reply) → IsServed becomes start n me held
      → given ≡ (me.0, (0, Some new) ∷ []) → IfSome said (λ reply. becomes held move reply new) → IsSome said
      → IsMoveAnswered becomes start move (reply_in said) given
  answered me given n held new move (Some reply) turn is stp there = record {
    number = n;
    before = held;
    held = new;
    turn = ap (λ (m : M T). m.0.turn) is ∙ turn.turn;
    live = ap (λ (m : M T). m.0.live) is ∙ turn.live;
    given = ap (λ (m : M T). m.1) is;
    leads = subst (λ (l : List SeatEntry). Makes becomes start l held) (sym (ap (λ (m : M T). m.0.seen) is)) turn.leads;
    answers = stp;
  }
  answered me given n held new move None turn is stp there = absurd (false_is_not (sym there))

  -- a seat that drew a number, had its turn and made its move
  pub adds_of : (v : View) (n : ℕ) (drawn served after : M T) (held : T) (move : TableMove) (reply : Reply) → entries_by v.number v.seen ≡ v.mine → drawn ≡ (with_turn (Waiting n) v, [])
      → HasTurn becomes (Some start) n drawn.0 served held → AnswersMove becomes start move reply served after → AddsEntry (CanMake becomes start) v move reply after.0
  adds_of v n drawn served after held move reply stand is turn answered =
      let e : SeatEntry = entry_of_seat v.number move reply in
      let t = subst (λ (m : M T). HasTurn becomes (Some start) n m.0 served held) is turn in
      let a = subst (λ (m : M T). AnswersMove becomes start move reply m after) t.now answered in
      subst (λ (m : M T). AddsEntry (CanMake becomes start) v move reply m.0) (sym a.0) record {
        between = t.begins.0;
        seen = ap (λ (l : List SeatEntry). l ++ e ∷ []) t.begins.1;
        others = none_behind v.number v.seen t.begins.0 v.mine stand (ap (entries_by v.number) (sym t.begins.1) ∙ t.stands.0);
        legal = a.1;
        mine = refl;
        stays = record { number = refl; given = refl; met = refl };
      }

  -- the same where it made its move, or didn't
  pub adds_if : (v : View) (n : ℕ) (drawn served after : M T) (held : T) (move : TableMove) (said : Option Reply) → entries_by v.number v.seen ≡ v.mine
      → drawn ≡ (with_turn (Waiting n) v, []) → HasTurn becomes (Some start) n drawn.0 served held
      → IfSome said (λ reply. AnswersMove becomes start move reply served after) → IfSome said (λ reply. AddsEntry (CanMake becomes start) v move reply after.0)
  adds_if v n drawn served after held move (Some reply) stand is turn answered = adds_of v n drawn served after held move reply stand is turn answered
  adds_if v n drawn served after held move None stand is turn answered = tt
