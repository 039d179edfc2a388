-- Seats go out and come back, and links with them.
use mathlib.Core.Option.{some-ne-none}
use Rattle.std.proofs.Common.{◌≡◌, ℕ, zero, ◌+◌, ◌≤◌, ◌<◌, Bool, true, false, List, [], ◌∷◌, ◌++◌, length, map, get_or, set, All, Contains, IsPermutation, MatchOption, ◌⊎◌, inl, inr, ⊎_elim, Option, Some, None, Result, Ok, Err, refl, sym, ap, ◌∙◌, subst, append_assoc, append-nil, length-append, arith, suc}
use Rattle.std.proofs.lemmas.List.{map-append, length-map}
use Rattle.std.proofs.lemmas.List.Elements.{All-nil, All-cons, All-head, All-tail, All-push, All-weaker, All-contains_itself, Contains-append_right}
use Rattle.std.proofs.lemmas.List.Recursion.{is_sum_by}
use Rattle.std.proofs.lemmas.List.Sorted.{IsPermutation-refl, IsPermutation-sym, IsPermutation-trans, IsPermutation-cons, IsPermutation-middle, IsPermutation-to_front, IsPermutation-append_right, IsPermutation-map, length_permutation, All-permutation, Contains-permutation, sum_by-IsPermutation}
use Rattle.atomic_table.specs.Seated.{TableId}
use Rattle.job_table.specs.History.{MoveEntry}
use Rattle.os_io.specs.Streams.{Tells}
use Rattle.os_io.specs.Links.{Comes, IsGivenBack}
use Rattle.desk.specs.declared.view.SeatEntry.{SeatEntry}
use Rattle.desk.specs.declared.view.Met.{Met}
use Rattle.desk.specs.declared.view.View.{View}
use Rattle.desk.specs.History.{StartsWith, by, entries_by}
use Rattle.desk.proofs.Histories.{starts_again}
use Rattle.desk.specs.Rule.{HasMet, one_if, one_more, newcomer, met_as}
use Rattle.desk.specs.SeatMoves.{IsSeatOf, Meets}
use Rattle.server_threads.specs.declared.means.ServeFault.{ServeFault}
use Rattle.server_threads.specs.declared.links.LinkHost.{LinkHost}
use Rattle.server_threads.specs.declared.promise.Finished.{Finished}
use Rattle.desk.specs.SeatHistory.{AskedBy}
use Rattle.server_threads.specs.Talks.{DeskSeat, LinkTalk, Shift, talk_met, shift_met, short_of, Came, GivenBack, AllTalked, AllWorked, IsShift, AnyHistory, Acts}
use Rattle.server_threads.specs.Promises.{Due}
use Rattle.server_threads.specs.Serving.{Stand, taken, Opens, AtOnce, ServesLinks, EndsServing}
use Rattle.server_threads.specs.OpenLinks.{IsSplitOff, AreNumberedFrom, KeepsSeats, Visit, visit, AreAmong, Begun, AllBegun, Conversing, promised, seat_out, number_out, visit_out, served_so, Going, Working, shift_promised, workers_out, worked_so, Hired, Staffed, LinksServed, HaveLeft, CameSo, served_result, KeepsMeans}

pub starts_through : (a b c : List SeatEntry) → StartsWith b a → StartsWith c b → StartsWith c a
starts_through a b c ab bc = (ab.0 ++ bc.0, bc.1 ∙ (ap (λ l. l ++ bc.0) ab.1 ∙ append_assoc a ab.0 bc.0))

-- the moves of the later ones of those that were met
met_suffix : (log : List SeatEntry) (a b : List Met) → HasMet log (a ++ b) → HasMet log b
met_suffix log [] b all = all
met_suffix log (x ∷ xs) b all = met_suffix log xs b (λ i m at. all (suc i) m at)

-- ---- places

module _ {A : Type 0} where
  -- what was in a place, if anything was, was taken out of it
  pub taken_by : (xs : List (Option A)) (i : ℕ) (d r : Option A) → i < length xs → r ≡ get_or xs i d → MatchOption r (taken (set xs i None) ≡ taken xs) (λ x. IsPermutation (taken xs) (x ∷ taken (set xs i None)))
  taken_by [] i d r below is = absurd (omega arith)
  taken_by (o ∷ xs) zero d None below is = ap (λ (p : Option A). taken (p ∷ xs)) is
  taken_by (o ∷ xs) zero d (Some x) below is = subst (λ (p : Option A). IsPermutation (taken (p ∷ xs)) (x ∷ taken xs)) is (IsPermutation-refl (x ∷ taken xs))
  taken_by (None ∷ xs) (suc i) d None below is = taken_by xs i d None (omega arith) is
  taken_by (Some y ∷ xs) (suc i) d None below is = ap (λ (l : List A). y ∷ l) (taken_by xs i d None (omega arith) is)
  taken_by (None ∷ xs) (suc i) d (Some x) below is = taken_by xs i d (Some x) (omega arith) is
  taken_by (Some y ∷ xs) (suc i) d (Some x) below is =
      let rest = taken (set xs i None) in
      IsPermutation-trans (y ∷ taken xs) (y ∷ x ∷ rest) (x ∷ y ∷ rest) (IsPermutation-cons y (taken xs) (x ∷ rest) (taken_by xs i d (Some x) (omega arith) is)) (IsPermutation-middle (y ∷ []) x rest)

  -- something was put into a place that is free
  pub taken_put : (xs : List (Option A)) (i : ℕ) (x : A) → i < length xs → get_or xs i None ≡ None → IsPermutation (x ∷ taken xs) (taken (set xs i (Some x)))
  taken_put [] i x below e = absurd (omega arith)
  taken_put (o ∷ xs) zero x below e = subst (λ (p : Option A). IsPermutation (x ∷ taken (p ∷ xs)) (x ∷ taken xs)) (sym e) (IsPermutation-refl (x ∷ taken xs))
  taken_put (None ∷ xs) (suc i) x below e = taken_put xs i x (omega arith) e
  taken_put (Some y ∷ xs) (suc i) x below e =
      let rest = taken (set xs i (Some x)) in
      IsPermutation-trans (x ∷ y ∷ taken xs) (y ∷ x ∷ taken xs) (y ∷ rest) (IsPermutation-sym (y ∷ x ∷ taken xs) (x ∷ y ∷ taken xs) (IsPermutation-middle (y ∷ []) x (taken xs)))
      (IsPermutation-cons y (x ∷ taken xs) rest (taken_put xs i x (omega arith) e))

  taken_most : (xs : List (Option A)) → length (taken xs) ≤ length xs
  taken_most [] = omega arith
  taken_most (None ∷ xs) = omega (arith, taken_most xs)
  taken_most (Some x ∷ xs) = omega (arith, taken_most xs)

  -- where a place is free, fewer are taken than there are
  pub taken_fewer : (xs : List (Option A)) (i : ℕ) → i < length xs → get_or xs i None ≡ None → length (taken xs) < length xs
  taken_fewer [] i below e = absurd (omega arith)
  taken_fewer (None ∷ xs) i below e = omega (arith, taken_most xs)
  taken_fewer (Some x ∷ xs) zero below e = absurd (cc)
  taken_fewer (Some x ∷ xs) (suc i) below e = omega (arith, taken_fewer xs i (omega arith) e)

  taken_append : (xs ys : List (Option A)) → taken (xs ++ ys) ≡ taken xs ++ taken ys
  taken_append [] ys = refl
  taken_append (None ∷ xs) ys = taken_append xs ys
  taken_append (Some x ∷ xs) ys = ap (λ (l : List A). x ∷ l) (taken_append xs ys)

  pub taken_empty : (xs : List (Option A)) → length xs ≡ 0 → taken xs ≡ []
  taken_empty [] e = refl
  taken_empty (x ∷ xs) e = absurd (omega arith)

  -- the last place was taken away
  pub taken_last : (xs ys : List (Option A)) (x : A) → xs ≡ ys ++ Some x ∷ [] → IsPermutation (taken xs) (x ∷ taken ys)
  taken_last xs ys x e = subst (λ (l : List A). IsPermutation l (x ∷ taken ys)) (sym (ap (λ (l : List (Option A)). taken l) e ∙ taken_append ys (Some x ∷ []))) (IsPermutation-to_front (taken ys) x)

  pub taken_free : (xs ys : List (Option A)) → xs ≡ ys ++ None ∷ [] → taken xs ≡ taken ys
  taken_free xs ys e = ap (λ (l : List (Option A)). taken l) e ∙ taken_append ys (None ∷ []) ∙ append-nil (taken ys)

-- ---- seats

-- a seat made these moves, whichever of its histories are legal
pub acts_by : {T : Type 0} {legal : List SeatEntry → Type 0} (holds : List MoveEntry → Type 0) (was seat : DeskSeat T) (said : List MoveEntry) → IsSeatOf was.table_id seat → AskedBy legal was.me.0 seat.me.0 said → holds said
    → Acts AnyHistory holds was seat
acts_by holds was seat said is asked held = record {
  desk_is = is;
  said = said;
  asked = record { mine = asked.mine; seen = asked.seen; stand = asked.stand; legal = λ _. tt; made_legal = λ _. tt; known = asked.known; stays = asked.stays };
  held = held;
}

module _ {T : Type 0} (desk : TableId) where
  pub keeps_new : (v : View) → v.number ≡ 0 → KeepsSeats {T = T} desk v v [] []
  keeps_new v first = record {
    first = first;
    number = refl;
    met_is = sym (append-nil v.met);
    given = omega arith;
    waits = All-nil (IsSplitOff desk);
    mine = refl;
    seen = starts_again v.seen;
    known = λ i m at. absurd (some-ne-none m (sym at));
  }

  -- the order of the seats that are out doesn't matter
  pub keeps_so : (v w : View) (met : List Met) (out now : List (DeskSeat T)) → IsPermutation out now → KeepsSeats desk v w met out → KeepsSeats desk v w met now
  keeps_so v w met out now same k = record {
    first = k.first;
    number = k.number;
    met_is = k.met_is;
    given = let all = k.given in let many = length_permutation out now same in omega arith;
    waits = All-permutation (IsSplitOff desk) out now same k.waits;
    mine = k.mine;
    seen = k.seen;
    known = k.known;
  }

  -- a seat was split off
  pub keeps_split : (v w after : View) (met : List Met) (out : List (DeskSeat T)) (seat : DeskSeat T) → KeepsSeats desk v w met out
      → after ≡ one_more w → seat.table_id ≡ desk → seat.me.0 ≡ newcomer w → KeepsSeats desk v after met (seat ∷ out)
  keeps_split v w after met out seat k is fits new = record {
    first = ap (λ (u : View). u.number) is ∙ k.first;
    number = ap (λ (u : View). u.number) is ∙ k.number;
    met_is = ap (λ (u : View). u.met) is ∙ k.met_is;
    given = let now : after.given ≡ w.given + 1 = ap (λ (u : View). u.given) is in let before = k.given in omega arith;
    waits = All-cons (IsSplitOff desk) seat out (fits, ap (λ (u : View). u.mine) new) k.waits;
    mine = ap (λ (u : View). u.mine) is ∙ k.mine;
    seen = subst (λ (l : List SeatEntry). StartsWith l v.seen) (sym (ap (λ (u : View). u.seen) is)) k.seen;
    known = subst (λ (l : List SeatEntry). HasMet l met) (sym (ap (λ (u : View). u.seen) is)) k.known;
  }

  -- one of the seats that are out was met
  pub keeps_met : (legal : List SeatEntry → Type 0) (holds : List MoveEntry → Type 0) (v w after : View) (met : List Met) (s other : DeskSeat T) (out : List (DeskSeat T))
      → KeepsSeats desk v w met (s ∷ out) → (a : Acts legal holds s other) → Meets w other.me.0 after → KeepsSeats desk v after (met ++ record { seat = s.me.0.number; entries = by s.me.0.number a.said } ∷ []) out
  keeps_met legal holds v w after met s other out k a m =
      let n : ℕ = s.me.0.number in
      let new : Met = record { seat = n; entries = by n a.said } in
      let was : IsSplitOff desk s = All-head (IsSplitOff desk) s out k.waits in
      let number : other.me.0.number ≡ n = a.asked.stays.number in
      let entries : other.me.0.mine ≡ by n a.said = a.asked.mine ∙ ap (λ (l : List SeatEntry). l ++ by n a.said) was.1 in
      let is_new : met_as other.me.0 ≡ new = λ i. record { seat = number i; entries = entries i } in
      let all : after.met ≡ v.met ++ (met ++ new ∷ []) =
      m.met ∙ ap (λ (x : Met). w.met ++ x ∷ []) is_new ∙ ap (λ (l : List Met). l ++ new ∷ []) k.met_is ∙ append_assoc v.met met (new ∷ []) in record {
        first = m.number ∙ k.first;
        number = m.number ∙ k.number;
        met_is = all;
        given = let before = k.given in let same = m.given in let longer = length-append met (new ∷ []) in omega arith;
        waits = All-tail (IsSplitOff desk) s out k.waits;
        mine = m.mine ∙ k.mine;
        seen = starts_through v.seen w.seen after.seen k.seen m.begins.0;
        known = met_suffix after.seen v.met (met ++ new ∷ []) (subst (λ (l : List Met). HasMet after.seen l) all m.known);
      }

  numbered_push : (n : ℕ) (ss : List (DeskSeat T)) (s : DeskSeat T) → AreNumberedFrom n ss → s.me.0.number ≡ n + length ss → AreNumberedFrom n (ss ++ s ∷ [])
  numbered_push n [] s all is = (omega arith, tt)
  numbered_push n (x ∷ xs) s all is = (all.0, numbered_push (n + 1) xs s all.1 (omega arith))

-- ---- links as they come and are given back

empty_list : {A : Type 0} (l : List A) → length l ≡ 0 → l ≡ []
empty_list [] e = refl
empty_list (x ∷ xs) e = absurd (omega arith)

pub came_more : (a b c : Option (List Tells)) (xs : List Tells) (x : Tells) → Came a b xs → Comes b c x → Came a c (xs ++ x ∷ [])
came_more None b c xs x p q = tt
came_more (Some a) None c xs x p q = absurd p
came_more (Some a) (Some b) None xs x p q = absurd q
came_more (Some a) (Some b) (Some c) xs x p q = p ∙ ap (λ l. xs ++ l) q ∙ sym (append_assoc xs (x ∷ []) c)

back_more : (a b c : Option (List Tells)) (xs : List Tells) (x : Tells) → GivenBack a b xs → IsGivenBack b c x → GivenBack a c (xs ++ x ∷ [])
back_more None b c xs x p q = tt
back_more (Some a) None c xs x p q = absurd p
back_more (Some a) (Some b) None xs x p q = absurd q
back_more (Some a) (Some b) (Some c) xs x p q = q ∙ ap (λ l. l ++ x ∷ []) p ∙ append_assoc a xs (x ∷ [])

pub came_none : (a : Option (List Tells)) → Came a a []
came_none None = tt
came_none (Some a) = refl

pub back_none : (a : Option (List Tells)) → GivenBack a a []
back_none None = tt
back_none (Some a) = sym (append-nil a)

short_snoc : (ts : List LinkTalk) (t : LinkTalk) → short_of (ts ++ t ∷ []) ≡ short_of ts + one_if t.short
short_snoc [] t = omega arith
short_snoc (x ∷ xs) t = omega (arith, short_snoc xs t)

one_or_none : (b : Bool) → one_if b ≤ 1
one_or_none true = omega arith
one_or_none false = omega arith

pub short_fits : (ts : List LinkTalk) → short_of ts ≤ length ts
short_fits [] = omega arith
short_fits (t ∷ ts) = omega (arith, short_fits ts, one_or_none t.short)

-- how many ended for want of memory doesn't depend on the order
short_same : (ts us : List LinkTalk) → IsPermutation ts us → short_of us ≡ short_of ts
short_same ts us same =
    let sums = is_sum_by short_of (λ (t : LinkTalk). one_if t.short) refl (λ t more. refl) in
    sums us ∙ sum_by-IsPermutation (λ (t : LinkTalk). one_if t.short) ts us same ∙ sym (sums ts)

module _ {A : Type 0} where
  at_front : (x y : A) (xs : List A) (k : ℕ) → k < length (x ∷ xs) → get_or (x ∷ xs) k y ≡ y → (x ≡ y) ⊎ Contains xs y
  at_front x y xs zero below is = inl is
  at_front x y xs (suc k) below is = inr (k, omega arith, is)

  -- the first of a list is meant, or one of the others
  front_or_later : (x y : A) (xs : List A) → Contains (x ∷ xs) y → (x ≡ y) ⊎ Contains xs y
  front_or_later x y xs c = at_front x y xs c.0 c.1 c.2

  front : (x : A) (xs : List A) → Contains (x ∷ xs) x
  front x xs = (zero, omega arith, refl)

all_unmapped : {A B : Type 0} (P : B → Type 0) (f : A → B) (xs : List A) → All P (map f xs) → All (λ x. P (f x)) xs
all_unmapped P f [] all = All-nil (λ x. P (f x))
all_unmapped P f (x ∷ xs) all = All-cons (λ y. P (f y)) x xs (All-head P (f x) (map f xs) all) (all_unmapped P f xs (All-tail P (f x) (map f xs) all))

-- of each link that was met all moves are known
met_all : (log : List SeatEntry) (ts : List LinkTalk) → HasMet log (map talk_met ts) → All (λ t. entries_by t.seat log ≡ by t.seat t.said) ts
met_all log [] known = All-nil (λ t. entries_by t.seat log ≡ by t.seat t.said)
met_all log (t ∷ ts) known = All-cons (λ u. entries_by u.seat log ≡ by u.seat u.said) t ts (known zero (talk_met t) refl) (met_all log ts (λ i m at. known (suc i) m at))

among_more : (n : ℕ) (cs : List Tells) (vs ws : List Visit) → ((v : Visit) → Contains vs v → Contains ws v) → AreAmong n cs vs → AreAmong n cs ws
among_more n [] vs ws more all = tt
among_more n (c ∷ cs) vs ws more all = (more (n, c) all.0, among_more (n + 1) cs vs ws more all.1)

among_push : (n m : ℕ) (cs : List Tells) (c : Tells) (vs : List Visit) → m ≡ n + length cs → AreAmong n cs vs → Contains vs (m, c) → AreAmong n (cs ++ c ∷ []) vs
among_push n m [] c vs is all one = (subst (λ (k : ℕ). Contains vs (k, c)) (omega arith) one, tt)
among_push n m (x ∷ xs) c vs is all one = (all.0, among_push (n + 1) m xs c vs (omega arith) all.1 one)

-- links that came later are among the others
among_others : (m : ℕ) (cs : List Tells) (a b : List LinkTalk) (t : LinkTalk) → t.seat < m → AreAmong m cs (map visit (a ++ t ∷ b)) → AreAmong m cs (map visit (a ++ b))
among_others m [] a b t below all = tt
among_others m (c ∷ cs) a b t below all =
    let there = Contains-permutation (map visit (a ++ t ∷ b)) (map visit (t ∷ (a ++ b))) (m, c) (IsPermutation-map visit (a ++ t ∷ b) (t ∷ (a ++ b)) (IsPermutation-middle a t b)) all.0 in (
      ⊎_elim (λ (here : visit t ≡ (m, c)). absurd (let same : t.seat ≡ m = ap (λ (v : Visit). v.0) here in omega arith)) (λ later. later) (front_or_later (visit t) (m, c) (map visit (a ++ b)) there),
      among_others (m + 1) cs a b t (omega arith) all.1,
    )

abbrev Found : List LinkTalk → Visit → Type 0
Found ts v = (before : List LinkTalk) × (t : LinkTalk) × (after : List LinkTalk) × (ts ≡ before ++ t ∷ after) × (visit t ≡ v)

find : (ts : List LinkTalk) (v : Visit) (k : ℕ) → k < length (map visit ts) → get_or (map visit ts) k v ≡ v → Found ts v
find [] v k below is = absurd (omega arith)
find (t ∷ ts) v zero below is = ([], t, ts, refl, is)
find (t ∷ ts) v (suc k) below is = let f = find ts v k (omega arith) is in (t ∷ f.0, f.1, f.2, ap (λ (l : List LinkTalk). t ∷ l) f.3, f.4)

module _ (talked : Tells → List MoveEntry → Tells → Bool → Type 0) where
  abbrev HasTalked : LinkTalk → Type 0
  HasTalked t = talked t.came t.said t.back t.short

  -- links in the order in which they came
  abbrev InOrder : ℕ → List Tells → List LinkTalk → Type 0
  InOrder n cs talks = (links : List LinkTalk) × IsPermutation links talks × (map (λ (t : LinkTalk). t.came) links ≡ cs) × AllTalked talked n links

  in_order : (n : ℕ) (cs : List Tells) (talks : List LinkTalk) → length cs ≡ length talks → AreAmong n cs (map visit talks) → All HasTalked talks → InOrder n cs talks
  in_order n [] talks many all talk = subst (λ (l : List LinkTalk). InOrder n [] l) (sym (empty_list talks (sym many))) ([], IsPermutation-refl [], refl, tt)
  in_order n (c ∷ cs) talks many all talk =
      let f = find talks (n, c) all.0.0 all.0.1 all.0.2 in
      let a = f.0 in
      let t = f.1 in
      let b = f.2 in
      let mid = IsPermutation-middle a t b in
      let number : t.seat ≡ n = ap (λ (v : Visit). v.0) f.4 in
      let longer = length-append a (t ∷ b) in
      let both = length-append a b in
      let size : length talks ≡ length (a ++ t ∷ b) = ap (λ (l : List LinkTalk). length l) f.3 in
      let each = All-permutation HasTalked (a ++ t ∷ b) (t ∷ (a ++ b)) mid (subst (λ (l : List LinkTalk). All HasTalked l) f.3 talk) in
      let o = in_order (n + 1) cs (a ++ b) (omega arith) (among_others (n + 1) cs a b t (omega arith) (subst (λ (l : List LinkTalk). AreAmong (n + 1) cs (map visit l)) f.3 all.1)) (All-tail HasTalked t (a ++ b) each) in
      subst (λ (l : List LinkTalk). InOrder n (c ∷ cs) l) (sym f.3) (
        t ∷ o.0,
        IsPermutation-trans (t ∷ o.0) (t ∷ (a ++ b)) (a ++ t ∷ b) (IsPermutation-cons t o.0 (a ++ b) o.1) (IsPermutation-sym (a ++ t ∷ b) (t ∷ (a ++ b)) mid),
        (λ i. ap (λ (v : Visit). v.1) f.4 i ∷ o.2 i),
        (number, All-head HasTalked t (a ++ b) each, o.3),
      )

-- ---- at most so many at once

module _ (servers : ℕ) where
  -- the order of those that are being served doesn't matter
  begun_so : (given : ℕ) (log : List SeatEntry) (talks : List LinkTalk) (running now : List ℕ) → IsPermutation running now → AllBegun servers given log talks running → AllBegun servers given log talks now
  begun_so given log talks running now same all =
      let seats = map (λ (t : LinkTalk). t.seat) talks in
      All-permutation (λ n. (n < given) × ((seen : List SeatEntry) × Begun servers log talks now n seen)) (seats ++ running) (seats ++ now) (IsPermutation-append_right seats running now same)
      (All-weaker (λ n. (n < given) × ((seen : List SeatEntry) × Begun servers log talks running n seen)) (λ n. (n < given) × ((seen : List SeatEntry) × Begun servers log talks now n seen))
      (λ n b. (b.0, (b.1.0, record { opens = b.1.1.opens; still = All-permutation (λ k. k < n → Contains b.1.1.opens.out k) running now same b.1.1.still }))) (seats ++ running) all)

  -- one link more is being served
  begun_more : (given : ℕ) (log : List SeatEntry) (talks : List LinkTalk) (running : List ℕ) → AllBegun servers given log talks running → length running < servers → entries_by given log ≡ []
      → All (λ t. entries_by t.seat log ≡ by t.seat t.said) talks → AllBegun servers (given + 1) log talks (given ∷ running)
  begun_more given log talks running all few none done =
      let seats = map (λ (t : LinkTalk). t.seat) talks in
      let new : Begun servers log talks (given ∷ running) given log = record {
        opens = record {
          out = running;
          few = few;
          begins = starts_again log;
          none = none;
          earlier = All-weaker (λ t. entries_by t.seat log ≡ by t.seat t.said) (λ t. t.seat < given → Contains running t.seat ⊎ (entries_by t.seat log ≡ by t.seat t.said)) (λ t is less. inr is) talks done;
        };
        still = All-cons (λ k. k < given → Contains running k) given running (λ less. absurd (omega arith))
            (All-weaker (Contains running) (λ k. k < given → Contains running k) (λ k is less. is) running (All-contains_itself running));
      } in
      All-permutation (λ n. (n < given + 1) × ((seen : List SeatEntry) × Begun servers log talks (given ∷ running) n seen)) (given ∷ (seats ++ running)) (seats ++ given ∷ running)
      (IsPermutation-sym (seats ++ given ∷ running) (given ∷ (seats ++ running)) (IsPermutation-middle seats given running))
      (All-cons (λ n. (n < given + 1) × ((seen : List SeatEntry) × Begun servers log talks (given ∷ running) n seen)) given (seats ++ running) (omega arith, (log, new))
      (All-weaker (λ n. (n < given) × ((seen : List SeatEntry) × Begun servers log talks running n seen)) (λ n. (n < given + 1) × ((seen : List SeatEntry) × Begun servers log talks (given ∷ running) n seen))
      (λ n b. (
        let below = b.0 in omega arith,
        (
          b.1.0,
          record {
            opens = b.1.1.opens;
            still = All-cons (λ k. k < n → Contains b.1.1.opens.out k) given running (λ less. absurd (let below = b.0 in omega arith)) b.1.1.still;
          },
        ),
      )) (seats ++ running) all))

  -- one of them was given back
  begun_met : (given : ℕ) (log log' : List SeatEntry) (talks : List LinkTalk) (t : LinkTalk) (running : List ℕ) → StartsWith log' log → AllBegun servers given log talks (t.seat ∷ running) → AllBegun servers given log' (talks ++ t ∷ []) running
  begun_met given log log' talks t running later all =
      let seats = map (λ (u : LinkTalk). u.seat) talks in
      let same : seats ++ t.seat ∷ running ≡ map (λ (u : LinkTalk). u.seat) (talks ++ t ∷ []) ++ running =
      sym (append_assoc seats (t.seat ∷ []) running) ∙ ap (λ (l : List ℕ). l ++ running) (sym (map-append (λ (u : LinkTalk). u.seat) talks (t ∷ []))) in
      subst (λ (l : List ℕ). All (λ n. (n < given) × ((seen : List SeatEntry) × Begun servers log' (talks ++ t ∷ []) running n seen)) l) same
      (All-weaker (λ n. (n < given) × ((seen : List SeatEntry) × Begun servers log talks (t.seat ∷ running) n seen)) (λ n. (n < given) × ((seen : List SeatEntry) × Begun servers log' (talks ++ t ∷ []) running n seen))
      (λ n b. let o = b.1.1.opens in (
        b.0,
        (
          b.1.0,
          record {
            opens = record {
              out = o.out;
              few = o.few;
              begins = starts_through b.1.0 log log' o.begins later;
              none = o.none;
              earlier = All-push (λ u. u.seat < n → Contains o.out u.seat ⊎ (entries_by u.seat b.1.0 ≡ by u.seat u.said)) talks t o.earlier
                  (λ less. inl (All-head (λ k. k < n → Contains o.out k) t.seat running b.1.1.still less));
            };
            still = All-tail (λ k. k < n → Contains o.out k) t.seat running b.1.1.still;
          },
        ),
      )) (seats ++ t.seat ∷ running) all)

  -- none is being served any more
  begun_over : (given : ℕ) (log : List SeatEntry) (links talks : List LinkTalk) → IsPermutation talks links → AllBegun servers given log talks [] → AtOnce servers log links
  begun_over given log links talks same all =
      let seats = map (λ (u : LinkTalk). u.seat) talks in
      All-permutation (λ t. (seen : List SeatEntry) × Opens servers log links t.seat seen) talks links same
      (All-weaker (λ t. (t.seat < given) × ((seen : List SeatEntry) × Begun servers log talks [] t.seat seen)) (λ t. (seen : List SeatEntry) × Opens servers log links t.seat seen)
      (λ t b. let o = b.1.1.opens in (
        b.1.0,
        record {
          out = o.out;
          few = o.few;
          begins = o.begins;
          none = o.none;
          earlier = All-permutation (λ u. u.seat < t.seat → Contains o.out u.seat ⊎ (entries_by u.seat b.1.0 ≡ by u.seat u.said)) talks links same o.earlier;
        },
      )) talks
      (all_unmapped (λ n. (n < given) × ((seen : List SeatEntry) × Begun servers log talks [] n seen)) (λ (u : LinkTalk). u.seat) talks
      (subst (λ (l : List ℕ). All (λ n. (n < given) × ((seen : List SeatEntry) × Begun servers log talks [] n seen)) l) (append-nil seats) all)))

-- ---- links that are being served

module _ {J T L S B : Type 0} (legal : List SeatEntry → Type 0) (talked : Tells → List MoveEntry → Tells → Bool → Type 0) (tells : L → Tells) (servers : ℕ) (desk : TableId) (old : Stand) where
  abbrev Lasting : Stand → ℕ → List (Conversing J T L S B) → Type 0
  Lasting now short places = Going legal talked tells servers desk old now short places

  pub going_begins : (now : Stand) (short : ℕ) (items : List (Conversing J T L S B)) → old ≡ now → now.view.number ≡ 0 → short ≡ 0 → items ≡ [] → Lasting now short items
  going_begins now short items same first none empty = subst (λ (z : Stand × List (Conversing J T L S B)). Lasting z.0 short z.1) (λ i. (same i, sym empty i)) record {
    links = [];
    talks = [];
    keeps = keeps_new desk old.view (ap (λ (s : Stand). s.view.number) same ∙ first);
    due = All-nil (Due (served_so legal talked tells));
    begun = All-nil (λ n. (n < old.view.given) × ((seen : List SeatEntry) × Begun servers old.view.seen [] [] n seen));
    all_talked = All-nil (λ t. talked t.came t.said t.back t.short);
    counted = refl;
    numbered = tt;
    came = came_none old.coming;
    back = back_none old.given_back;
    reached = refl;
    shorts = none;
  }

  pub going_as : (now : Stand) (short : ℕ) (places items : List (Conversing J T L S B)) → items ≡ places → Lasting now short places → Lasting now short items
  going_as now short places items same g = subst (λ (l : List (Conversing J T L S B)). Lasting now short l) (sym same) g

  -- the order of the places doesn't matter
  pub going_so : (now : Stand) (short : ℕ) (places items : List (Conversing J T L S B)) → IsPermutation places items → Lasting now short places → Lasting now short items
  going_so now short places items same g =
      let visits = map (λ (p : Conversing J T L S B). visit_out legal talked tells p) places in
      let visits' = map (λ (p : Conversing J T L S B). visit_out legal talked tells p) items in
      let before = map visit g.talks in record {
        links = g.links;
        talks = g.talks;
        keeps = keeps_so desk old.view now.view (map talk_met g.talks) (map seat_out places) (map seat_out items) (IsPermutation-map seat_out places items same) g.keeps;
        due = All-permutation (Due (served_so legal talked tells)) places items same g.due;
        begun = begun_so servers now.view.given now.view.seen g.talks (map number_out places) (map number_out items) (IsPermutation-map number_out places items same) g.begun;
        all_talked = g.all_talked;
        counted = let many = length_permutation places items same in let all = g.counted in omega arith;
        numbered = among_more old.view.given g.links (before ++ visits) (before ++ visits')
            (λ v. Contains-permutation (before ++ visits) (before ++ visits') v (IsPermutation-append_right before visits visits' (IsPermutation-map (λ (p : Conversing J T L S B). visit_out legal talked tells p) places items same))) g.numbered;
        came = g.came;
        back = g.back;
        reached = g.reached;
        shorts = g.shorts;
      }

  -- a link came, a seat was split off for it, and it is being served
  pub going_more : (now after : Stand) (short : ℕ) (places : List (Conversing J T L S B)) (place : Conversing J T L S B) (link : L) (seat : DeskSeat T) → Lasting now short places → length places < servers
      → Comes now.coming after.coming (tells link) → after.given_back ≡ now.given_back → after.reached ≡ now.reached → after.view ≡ one_more now.view → IsSeatOf desk seat → seat.me.0 ≡ newcomer now.view
      → (promised place).seat.value ≡ seat → (promised place).link.value ≡ link → Due (served_so legal talked tells) place → Lasting after short (place ∷ places)
  going_more now after short places place link seat g room comes back reached is fits new seat_is link_is due =
      let seen : after.view.seen ≡ now.view.seen = ap (λ (v : View). v.seen) is in
      let given : after.view.given ≡ now.view.given + 1 = ap (λ (v : View). v.given) is in
      let it : (seat_out place).me.0 ≡ newcomer now.view = ap (λ (s : DeskSeat T). s.me.0) seat_is ∙ new in
      let number : number_out place ≡ now.view.given = ap (λ (v : View). v.number) it in
      let none : entries_by now.view.given now.view.seen ≡ [] = subst (λ (v : View). entries_by v.number v.seen ≡ v.mine) new fits.ready.stand in
      let its : Tells = tells (promised place).link.value in
      let visits = map (λ (p : Conversing J T L S B). visit_out legal talked tells p) places in
      let before = map visit g.talks in
      let many = length-map places (λ (p : Conversing J T L S B). number_out p) in
      let begun = begun_more servers now.view.given now.view.seen g.talks (map number_out places) g.begun (omega arith) none (met_all now.view.seen g.talks g.keeps.known) in record {
        links = g.links ++ its ∷ [];
        talks = g.talks;
        keeps = keeps_split desk old.view now.view after.view (map talk_met g.talks) (map seat_out places) (seat_out place) g.keeps is (ap (λ (s : DeskSeat T). s.table_id) seat_is ∙ fits.desk_is) it;
        due = All-cons (Due (served_so legal talked tells)) place places due g.due;
        begun = subst (λ (z : ℕ × List SeatEntry × ℕ). AllBegun servers z.0 z.1 g.talks (z.2 ∷ map number_out places)) (λ i. (sym given i, sym seen i, sym number i)) begun;
        all_talked = g.all_talked;
        counted = let all = g.counted in let longer = length-append g.links (its ∷ []) in omega arith;
        numbered = among_push old.view.given (number_out place) g.links its (before ++ (number_out place, its) ∷ visits)
            (let all = g.counted in let seats = g.keeps.given in let mets = length-map g.talks talk_met in let outs = length-map places (λ (p : Conversing J T L S B). seat_out p) in omega arith)
            (among_more old.view.given g.links (before ++ visits) (before ++ (number_out place, its) ∷ visits)
            (λ v c. Contains-permutation ((number_out place, its) ∷ (before ++ visits)) (before ++ (number_out place, its) ∷ visits) v
            (IsPermutation-sym (before ++ (number_out place, its) ∷ visits) ((number_out place, its) ∷ (before ++ visits)) (IsPermutation-middle before (number_out place, its) visits))
            (Contains-append_right ((number_out place, its) ∷ []) (before ++ visits) v c)) g.numbered)
            (Contains-append_right before ((number_out place, its) ∷ visits) (number_out place, its) (front (number_out place, its) visits));
        came = came_more old.coming now.coming after.coming g.links its g.came (subst (λ (x : L). Comes now.coming after.coming (tells x)) (sym link_is) comes);
        back = subst (λ (l : Option (List Tells)). GivenBack old.given_back l (map (λ (t : LinkTalk). t.back) g.talks)) (sym back) g.back;
        reached = reached ∙ g.reached;
        shorts = g.shorts;
      }

  -- how many links ended for want of memory is below the number of those that came
  pub going_few : (now : Stand) (short : ℕ) (items : List (Conversing J T L S B)) → Lasting now short items → now.view.given ≤ old.view.given + 4294967296 → short ≤ 4294967296
  going_few now short items g few =
      let all = g.keeps.given in let same = length-map g.talks talk_met in let least = short_fits g.talks in let is = g.shorts in omega arith

  -- the seat that was promised back is the desk's
  pub seat_of_desk : (now : Stand) (short : ℕ) (places : List (Conversing J T L S B)) (place : Conversing J T L S B) (holds : List MoveEntry → Type 0) (seat : DeskSeat T) → Lasting now short (place ∷ places)
      → Acts legal holds (promised place).seat.value seat → IsSeatOf desk seat
  seat_of_desk now short places place holds seat g a =
      let out : IsSplitOff desk (seat_out place) = All-head (IsSplitOff desk) (seat_out place) (map seat_out places) g.keeps.waits in
      subst (λ (d : TableId). IsSeatOf d seat) out.0 a.desk_is

  pub place_due : (now : Stand) (short : ℕ) (places : List (Conversing J T L S B)) (place : Conversing J T L S B) → Lasting now short (place ∷ places) → Due (served_so legal talked tells) place
  place_due now short places place g = All-head (Due (served_so legal talked tells)) place places g.due

  -- a link was served as was promised, its seat was met, and it was given back
  pub going_met : (now after : Stand) (short short' : ℕ) (places : List (Conversing J T L S B)) (place : Conversing J T L S B) (done : Finished (DeskSeat T) L) → Lasting now short (place ∷ places)
      → served_so {S = S} {B = B} legal talked tells (promised place) done → Meets now.view done.seat.me.0 after.view → IsGivenBack now.given_back after.given_back (tells done.link)
      → after.coming ≡ now.coming → after.reached ≡ now.reached → short' ≡ short + one_if done.short → Lasting after short' places
  going_met now after short short' places place done g a met back coming reached counted =
      let t : LinkTalk = record { came = tells (promised place).link.value; back = tells done.link; seat = number_out place; said = a.said; short = done.short } in
      let k = keeps_met desk legal (λ said. talked (tells (promised place).link.value) said (tells done.link) done.short) old.view now.view after.view (map talk_met g.talks) (seat_out place) done.seat (map seat_out places) g.keeps a met in
      let visits = map (λ (p : Conversing J T L S B). visit_out legal talked tells p) places in
      let before = map visit g.talks in
      let same : before ++ visit t ∷ visits ≡ map visit (g.talks ++ t ∷ []) ++ visits =
      sym (append_assoc before (visit t ∷ []) visits) ∙ ap (λ (l : List Visit). l ++ visits) (sym (map-append visit g.talks (t ∷ []))) in
      let longer = length-append g.talks (t ∷ []) in record {
        links = g.links;
        talks = g.talks ++ t ∷ [];
        keeps = subst (λ (l : List Met). KeepsSeats desk old.view after.view l (map seat_out places)) (sym (map-append talk_met g.talks (t ∷ []))) k;
        due = All-tail (Due (served_so legal talked tells)) place places g.due;
        begun = subst (λ (n : ℕ). AllBegun servers n after.view.seen (g.talks ++ t ∷ []) (map number_out places)) (sym met.given)
            (begun_met servers now.view.given now.view.seen after.view.seen g.talks t (map number_out places) met.begins.0 g.begun);
        all_talked = All-push (λ u. talked u.came u.said u.back u.short) g.talks t g.all_talked a.held;
        counted = let all = g.counted in omega arith;
        numbered = subst (λ (l : List Visit). AreAmong old.view.given g.links l) same g.numbered;
        came = subst (λ (l : Option (List Tells)). Came old.coming l g.links) (sym coming) g.came;
        back = subst (λ (l : List Tells). GivenBack old.given_back after.given_back l) (sym (map-append (λ (u : LinkTalk). u.back) g.talks (t ∷ [])))
            (back_more old.given_back now.given_back after.given_back _ _ g.back back);
        reached = reached ∙ g.reached;
        shorts = counted ∙ ap (λ (k : ℕ). k + one_if done.short) g.shorts ∙ sym (short_snoc g.talks t);
      }

  -- none is being served any more
  pub going_over : (now : Stand) (short : ℕ) (items : List (Conversing J T L S B)) → Lasting now short items → items ≡ [] → (o : LinksServed talked servers old now) × (short ≡ short_of o.links)
  going_over now short items all none =
      let g = subst (λ (l : List (Conversing J T L S B)). Lasting now short l) none all in
      let o = in_order talked old.view.given g.links g.talks (let many = g.counted in omega arith) (subst (λ (l : List Visit). AreAmong old.view.given g.links l) (append-nil (map visit g.talks)) g.numbered) g.all_talked in
      let same = IsPermutation-sym o.0 g.talks o.1 in (
        record {
          links = o.0;
          returned = g.talks;
          all_back = o.1;
          all_talked = o.3;
          at_once = begun_over servers now.view.given now.view.seen o.0 g.talks same g.begun;
          came = subst (λ (l : List Tells). Came old.coming now.coming l) (sym o.2) g.came;
          back = g.back;
          reached = g.reached;
          number = g.keeps.number;
          met = g.keeps.met_is;
          given = let all = g.keeps.given in let mets = length-map g.talks talk_met in let many = length_permutation o.0 g.talks o.1 in omega arith;
          mine = g.keeps.mine;
          seen = g.keeps.seen;
          known = g.keeps.known;
        },
        g.shorts ∙ short_same o.0 g.talks o.1,
      )

-- ---- workers

module _ (made : List ℕ → List ℕ → List Bool → Option (List ℕ) → Type 0) where
  all_worked_snoc : (n : ℕ) (ss : List Shift) (s : Shift) → AllWorked made n ss → s.seat ≡ n + length ss → IsShift made s.said → AllWorked made n (ss ++ s ∷ [])
  all_worked_snoc n [] s all is one = (omega arith, one, tt)
  all_worked_snoc n (x ∷ xs) s all is one = (all.0, all.1, all_worked_snoc (n + 1) xs s all.2 (omega arith) one)

module _ {J T S : Type 0} (legal : List SeatEntry → Type 0) (made : List ℕ → List ℕ → List Bool → Option (List ℕ) → Type 0) (desk : TableId) (v : View) where
  pub hired_begins : (items : List (Working J T S)) → v.number ≡ 0 → items ≡ [] → Hired legal made desk v v 0 items
  hired_begins items first empty = subst (λ (l : List (Working J T S)). Hired legal made desk v v 0 l) (sym empty) record {
    keeps = keeps_new desk v first;
    numbered = tt;
    due = All-nil (Due (worked_so legal made));
    counted = refl;
  }

  -- one worker more
  pub hired_more : (w after : View) (count : ℕ) (places items : List (Working J T S)) (place : Working J T S) → Hired legal made desk v w count places → after ≡ one_more w
      → (shift_promised place).seat.value.table_id ≡ desk → (shift_promised place).seat.value.me.0 ≡ newcomer w → Due (worked_so legal made) place → items ≡ places ++ place ∷ [] → Hired legal made desk v after (count + 1) items
  hired_more w after count places items place h is fits new due are =
      let it : DeskSeat T = (shift_promised place).seat.value in
      let seats : workers_out (places ++ place ∷ []) ≡ workers_out places ++ it ∷ [] = map-append (λ (p : Working J T S). (shift_promised p).seat.value) places (place ∷ []) in
      subst (λ (l : List (Working J T S)). Hired legal made desk v after (count + 1) l) (sym are) record {
        keeps = subst (λ (out : List (DeskSeat T)). KeepsSeats desk v after [] out) (sym seats)
            (keeps_so desk v after [] (it ∷ workers_out places) (workers_out places ++ it ∷ []) (IsPermutation-sym (workers_out places ++ it ∷ []) (it ∷ workers_out places) (IsPermutation-to_front (workers_out places) it))
            (keeps_split desk v w after [] (workers_out places) it h.keeps is fits new));
        numbered = subst (λ (out : List (DeskSeat T)). AreNumberedFrom v.given out) (sym seats)
            (numbered_push desk v.given (workers_out places) it h.numbered (let number : it.me.0.number ≡ w.given = ap (λ (u : View). u.number) new in let all = h.keeps.given in omega arith));
        due = All-push (Due (worked_so legal made)) places place h.due due;
        counted = let before = h.counted in let longer = length-append places (place ∷ []) in omega arith;
      }

  -- while they worked, other seats were split off and met
  pub staffed_begins : {talked : Tells → List MoveEntry → Tells → Bool → Type 0} (u : View) (servers : ℕ) (old new : Stand) (count : ℕ) (places : List (Working J T S)) → (o : LinksServed talked servers old new) → v ≡ u → Hired legal made desk u old.view count places
      → Staffed legal made desk v new.view count (map talk_met o.returned) places
  staffed_begins u servers old new count places o is hired =
      let h = subst (λ (z : View). Hired legal made desk z old.view count places) (sym is) hired in
      let met : List Met = map talk_met o.returned in record {
        shifts = [];
        keeps = record {
          first = o.number ∙ h.keeps.first;
          number = o.number ∙ h.keeps.number;
          met_is = o.met ∙ ap (λ (l : List Met). l ++ met) (h.keeps.met_is ∙ append-nil v.met) ∙ ap (λ (l : List Met). v.met ++ l) (sym (append-nil met));
          given = let before = h.keeps.given in let after = o.given in let same = length-append met [] in let many = length-map o.returned talk_met in let all = length_permutation o.links o.returned o.all_back in omega arith;
          waits = h.keeps.waits;
          mine = o.mine ∙ h.keeps.mine;
          seen = starts_through v.seen old.view.seen new.view.seen h.keeps.seen o.seen;
          known = subst (λ (l : List Met). HasMet new.view.seen l) (sym (append-nil met)) o.known;
        };
        numbered = subst (λ (j : ℕ). AreNumberedFrom j (workers_out places)) (omega arith) h.numbered;
        due = h.due;
        worked = tt;
        counted = let all = h.counted in omega arith;
      }

  pub worker_of_desk : (w : View) (count : ℕ) (met : List Met) (items rest : List (Working J T S)) (place : Working J T S) (holds : List MoveEntry → Type 0) (seat : DeskSeat T) → Staffed legal made desk v w count met items
      → items ≡ place ∷ rest → Acts legal holds (shift_promised place).seat.value seat → IsSeatOf desk seat
  worker_of_desk w count met items rest place holds seat s is a =
      let went = subst (λ (l : List (Working J T S)). Staffed legal made desk v w count met l) is s in
      let out : IsSplitOff desk (shift_promised place).seat.value = All-head (IsSplitOff desk) (shift_promised place).seat.value (workers_out rest) went.keeps.waits in
      subst (λ (d : TableId). IsSeatOf d seat) out.0 a.desk_is

  -- a worker left, and was met
  pub staffed_met : (w after : View) (count : ℕ) (met : List Met) (items places : List (Working J T S)) (place : Working J T S) (seat : DeskSeat T) → Staffed legal made desk v w count met items
      → items ≡ place ∷ places → worked_so legal made (shift_promised place) seat → Meets w seat.me.0 after → Staffed legal made desk v after count met places
  staffed_met w after count met items places place seat all is a meets =
      let s = subst (λ (l : List (Working J T S)). Staffed legal made desk v w count met l) is all in
      let n : ℕ = v.given + length s.shifts in
      let t : Shift = record { seat = n; said = a.said } in
      let it : DeskSeat T = (shift_promised place).seat.value in
      let number : it.me.0.number ≡ n = s.numbered.0 in
      let k = keeps_met desk legal (IsShift made) v w after (met ++ map shift_met s.shifts) it seat (workers_out places) s.keeps a meets in
      let one : (met ++ map shift_met s.shifts) ++ record { seat = it.me.0.number; entries = by it.me.0.number a.said } ∷ [] ≡ (met ++ map shift_met s.shifts) ++ shift_met t ∷ [] =
      ap (λ (j : ℕ). (met ++ map shift_met s.shifts) ++ record { seat = j; entries = by j a.said } ∷ []) number in
      let mets : (met ++ map shift_met s.shifts) ++ shift_met t ∷ [] ≡ met ++ map shift_met (s.shifts ++ t ∷ []) =
      append_assoc met (map shift_met s.shifts) (shift_met t ∷ []) ∙ ap (λ (l : List Met). met ++ l) (sym (map-append shift_met s.shifts (t ∷ []))) in
      let longer = length-append s.shifts (t ∷ []) in record {
        shifts = s.shifts ++ t ∷ [];
        keeps = subst (λ (l : List Met). KeepsSeats desk v after l (workers_out places)) (one ∙ mets) k;
        numbered = subst (λ (j : ℕ). AreNumberedFrom j (workers_out places)) (omega arith) s.numbered.1;
        due = All-tail (Due (worked_so legal made)) place places s.due;
        worked = all_worked_snoc made v.given s.shifts t s.worked refl a.held;
        counted = let before = s.counted in omega arith;
      }

  -- all workers have left
  pub staffed_over : (w : View) (count : ℕ) (met : List Met) (items : List (Working J T S)) → Staffed legal made desk v w count met items → length items ≡ 0 → HaveLeft made v w count met
  staffed_over w count met items all none =
      let s = subst (λ (l : List (Working J T S)). Staffed legal made desk v w count met l) (empty_list items none) all in record {
        shifts = s.shifts;
        worked = s.worked;
        counted = let many = s.counted in omega arith;
        number = s.keeps.number;
        met_is = s.keeps.met_is;
        given =
            let many = s.keeps.given in
            let both = length-append met (map shift_met s.shifts) in
            let same = length-map s.shifts shift_met in omega arith;
        mine = s.keeps.mine;
        seen = s.keeps.seen;
        known = s.keeps.known;
      }

-- workers came, links were served, and the workers left
pub serves : {J T S : Type 0} (legal : List SeatEntry → Type 0) (made : List ℕ → List ℕ → List Bool → Option (List ℕ) → Type 0) (talked : Tells → List MoveEntry → Tells → Bool → Type 0) (desk : TableId) (v : View) (servers : ℕ) (old staffed served new : Stand) (count : ℕ) (places : List (Working J T S))
    → v ≡ old.view → Hired legal made desk old.view staffed.view count places → staffed.coming ≡ old.coming → staffed.given_back ≡ old.given_back → staffed.reached ≡ old.reached → (o : LinksServed talked servers staffed served)
    → HaveLeft made v new.view count (map talk_met o.returned) → StartsWith new.view.seen served.view.seen → new.coming ≡ served.coming → new.given_back ≡ served.given_back → new.reached ≡ served.reached → ServesLinks made talked servers count old new o.links
serves {J} {T} {S} legal made talked desk v servers old staffed served new count places is h coming back reached o left later coming' back' reached' =
    let l = subst (λ (u : View). HaveLeft made u new.view count (map talk_met o.returned)) is left in record {
      shifts = l.shifts;
      returned = o.returned;
      all_back = o.all_back;
      staff = let all = l.counted in omega arith;
      worked = l.worked;
      all_talked = subst (λ (n : ℕ). AllTalked talked n o.links)
          (let given = h.keeps.given in let many = h.counted in let all = l.counted in let same = length-map places (λ (p : Working J T S). (shift_promised p).seat.value) in omega arith) o.all_talked;
      at_once = All-weaker (λ t. (seen : List SeatEntry) × Opens servers served.view.seen o.links t.seat seen) (λ t. (seen : List SeatEntry) × Opens servers new.view.seen o.links t.seat seen)
          (λ t is. (is.0, record { out = is.1.out; few = is.1.few; begins = starts_through is.0 served.view.seen new.view.seen is.1.begins later; none = is.1.none; earlier = is.1.earlier })) o.links o.at_once;
      came = subst (λ (z : Option (List Tells) × Option (List Tells)). Came z.0 z.1 (map (λ (t : LinkTalk). t.came) o.links)) (λ i. (coming i, sym coming' i)) o.came;
      back = subst (λ (z : Option (List Tells) × Option (List Tells)). GivenBack z.0 z.1 (map (λ (t : LinkTalk). t.back) o.returned)) (λ i. (back i, sym back' i)) o.back;
      reached = reached' ∙ (o.reached ∙ reached);
      met = l.met_is;
      known = l.known;
      seen = l.seen;
      mine = l.mine;
      number = l.number;
      out =
          let given = l.given in
          let longer = length-append old.view.met (map talk_met o.returned ++ map shift_met l.shifts) in
          let both = length-append (map talk_met o.returned) (map shift_met l.shifts) in
          let same = length-map l.shifts shift_met in
          let met : length new.view.met ≡ length (old.view.met ++ (map talk_met o.returned ++ map shift_met l.shifts)) = ap (λ (ms : List Met). length ms) l.met_is in omega arith;
    }

-- of the links that were served it is known how many they are, by the seats that were split off
ends : {X E : Type 0} (talked : Tells → List MoveEntry → Tells → Bool → Type 0) (servers : ℕ) (old served : Stand) (came : Result X E) (short connections faults faults' : ℕ) → (o : LinksServed talked servers old served) → short ≡ short_of o.links
    → CameSo came connections old.view.given served.view.given faults faults' → EndsServing (served_result came short) connections o.links faults faults'
ends talked servers old served (Ok x) short connections faults faults' o shorts c = (shorts, (let all = o.given in let is = c.0 in omega arith), c.1)
ends talked servers old served (Err e) short connections faults faults' o shorts c = (let all = o.given in let is = c.0 in omega arith, c.1)

-- all links that came were served
pub links_served : {X E : Type 0} (talked : Tells → List MoveEntry → Tells → Bool → Type 0) (servers : ℕ) (begun old served : Stand) (came : Result X E) (short connections seats faults faults' faults'' : ℕ) (answer : Result ℕ ServeFault) → begun ≡ old
    → (over : (o : LinksServed talked servers begun served) × (short ≡ short_of o.links)) → CameSo came connections old.view.given seats faults faults' → served.view.given ≡ seats → faults'' ≡ faults' → answer ≡ served_result came short
    → (o : LinksServed talked servers old served) × EndsServing answer connections o.links faults faults''
links_served talked servers begun old served came short connections seats faults faults' faults'' answer start over c given same is =
    let went : CameSo came connections begun.view.given served.view.given faults faults'' = subst (λ (z : ℕ × ℕ × ℕ). CameSo came connections z.0 z.1 faults z.2) (λ i. ((sym start i).view.given, sym given i, sym same i)) c in
    subst (λ (z : Stand). (o : LinksServed talked servers z served) × EndsServing answer connections o.links faults faults'') start (
      over.0,
      subst (λ (a : Result ℕ ServeFault). EndsServing a connections over.0.links faults faults'') (sym is) (ends talked servers begun served came short connections faults faults'' over.0 over.1 went),
    )

-- where there was no room, nothing was served
pub serves_none : (made : List ℕ → List ℕ → List Bool → Option (List ℕ) → Type 0) (talked : Tells → List MoveEntry → Tells → Bool → Type 0) (servers count : ℕ) (old : Stand) → ServesLinks made talked servers count old old []
serves_none made talked servers count old = record {
  shifts = [];
  returned = [];
  all_back = IsPermutation-refl [];
  staff = omega arith;
  worked = tt;
  all_talked = tt;
  at_once = All-nil (λ t. (seen : List SeatEntry) × Opens servers old.view.seen [] t.seat seen);
  came = came_none old.coming;
  back = back_none old.given_back;
  reached = refl;
  met = sym (append-nil old.view.met);
  known = λ i m at. absurd (some-ne-none m (sym at));
  seen = starts_again old.view.seen;
  mine = refl;
  number = refl;
  out = refl;
}

-- ---- what a host keeps

module _ {E J T N L R S B : Type 0} {host host' : LinkHost E J T N L R S B} (kept : KeepsMeans host host') where
  pub same_start : host'.before.seat.value.me.0.given ≡ host.before.seat.value.me.0.given
  same_start i = (kept.before i).seat.value.me.0.given

  pub same_servers : host'.means.limits.servers ≡ host.means.limits.servers
  same_servers i = (kept.means i).limits.servers

  pub same_connections : host'.means.limits.connections ≡ host.means.limits.connections
  same_connections i = (kept.means i).limits.connections
