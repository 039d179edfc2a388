-- The second phase goes on, and is over before there are no more bases.
use Rattle.std.proofs.Common.{◌≡◌, ℕ, suc, ◌+◌, ◌-◌, ◌^◌, ◌<◌, ◌≤◌, inl, inr, Bool, cond, nat_eq, List, [], ◌∷◌, ◌++◌, length, get_or, refl, sym, ◌∙◌, ap, subst, arith, length-append}
use Rattle.std.proofs.lemmas.Bool.{eq-eqb, ne_eqb}
use Rattle.std.proofs.lemmas.List.{get_or_push, get_or_append_left}
use Rattle.evidence.specs.Instance.{Instance, IsInstance, width, height}
use Rattle.evidence.proofs.Columns.{by_lt, by_eq}
use Rattle.bases.specs.Dictionary.{Entries, Values}
use Rattle.bases.specs.Program.{goal_column}
use Rattle.simplex_rules.specs.declared.columns.Status.{Status}
use Rattle.simplex_rules.specs.declared.columns.Way.{Way}
use Rattle.simplex_rules.specs.Statuses.{status_at, IsFirstBasis}
use Rattle.simplex_rules.specs.Ends.{Terms, Clock, TurnsOut}
use Rattle.simplex_rules.specs.Runs.{Moment, To, Out, PassesTurn, BeginsTurn, MovesColumn, IsNext, ComesInRun, begins, goes_on, HasNoClash, Run}
use Rattle.simplex_rules.proofs.Moments.{comes_placed}
use Rattle.no_cycles.specs.Phase.{IsImprovingTurn, AreTurns, IsSettled, BeginsSettled, HasNoneTwice, came_through}
use Rattle.no_cycles.proofs.Repeats.{is_next, taken, once}
use Rattle.no_cycles.proofs.Feasible.{stays_settled}
use Rattle.no_cycles.proofs.Pigeonholes.{pigeons, code, code_below, code_one}

pub few : (I : Instance) (zeroed : Bool) (t : Terms) (c : Clock) (at : ℕ → Moment) (k : ℕ) → IsInstance I → HasNoClash I → ComesInRun I zeroed t c (at 0) → AreTurns I zeroed t at k → k < 4 ^ goal_column I
few I zeroed t c at k good room first turns =
    pigeons (4 ^ goal_column I) (λ i. code (at i).statuses (goal_column I)) k
    (λ i h. code_below (at i).statuses (goal_column I))
    (λ i j h l e.
    let same = code_one (at i).statuses (at j).statuses (goal_column I) e in
    by_lt i j
    (λ g. absurd (once I zeroed t c at k good room first turns i j g l same))
    (λ g. by_lt j i
    (λ f. absurd (once I zeroed t c at k good room first turns j i f h (λ b m. sym (same b m))))
    (λ f. omega arith)))

-- the next moment of one at which no column is out comes by a turn of the second phase
pub settled_turn : (I : Instance) (zeroed : Bool) (t : Terms) (m n : Moment) → IsSettled I zeroed m.statuses → IsNext I zeroed t m (To n) → IsImprovingTurn I zeroed t m n
settled_turn I zeroed t m n s (u, d, inl (f, e)) = absurd (cc)
settled_turn I zeroed t m n s (u, d, inr (w, f, v, inl (b, wanted, out, r))) = absurd (s u w d v b out.inside wanted out.out)
settled_turn I zeroed t m n s (u, d, inr (w, f, v, inr (none_out, r))) = record { entries = u; dictionary = d; columns = w; fit = f; values = v; none_out = none_out; improves = r }

pub turn_settles : (I : Instance) (zeroed : Bool) (t : Terms) (c : Clock) (m n : Moment) → IsInstance I → HasNoClash I → ComesInRun I zeroed t c m → IsImprovingTurn I zeroed t m n → IsSettled I zeroed n.statuses
turn_settles I zeroed t c m n good room first turn u w d v =
    let x = taken I zeroed t m n turn in
    let y = x.1 in
    stays_settled I good zeroed room m.statuses x.0 n.statuses u y.0 d (comes_placed first) (comes_placed (goes_on first (is_next turn))) y.1 w v

-- one more turn on the clock
passes_clock : (t : Terms) (c : Clock) (ss : List Status) (n : Moment) → PassesTurn t c ss (To n) → n.clock.turns ≡ c.turns
passes_clock t c ss n (inl (a, e)) = let f : n ≡ record { statuses = ss; clock = c } = cc in ap (λ (x : Moment). x.clock.turns) f
passes_clock t c ss n (inr (inl (a, b, e))) = absurd (cc)
passes_clock t c ss n (inr (inr (a, b, e))) = let f : n ≡ record { statuses = ss; clock = record c { looks = c.looks + 1 } } = cc in ap (λ (x : Moment). x.clock.turns) f

begins_clock : (t : Terms) (c : Clock) (F : Type 0) (ss : List Status) (n : Moment) → BeginsTurn t c F ss (To n) → n.clock.turns ≡ c.turns + 1
begins_clock t c F ss n (inl (a, e)) = absurd (cc)
begins_clock t c F ss n (inr (inl (a, b, e))) = absurd (cc)
begins_clock t c F ss n (inr (inr (a, b, e))) = passes_clock t _ ss n e

moves_clock : (I : Instance) (zeroed : Bool) (t : Terms) (m n : Moment) (u : Entries) (w : Values) (e : ℕ) (way : Way) → MovesColumn I zeroed t m u w e way (To n) → n.clock.turns ≡ m.clock.turns + 1
moves_clock I zeroed t m n u w e way (inl (a, f)) = absurd (cc)
moves_clock I zeroed t m n u w e way (inr (inl (v, d, f, g, p, q, h))) = absurd (cc)
moves_clock I zeroed t m n u w e way (inr (inr (inl (f, l, g)))) = begins_clock t m.clock _ _ n g
moves_clock I zeroed t m n u w e way (inr (inr (inr (b, f, l, d, g)))) = begins_clock t m.clock _ _ n g

next_clock : (I : Instance) (zeroed : Bool) (t : Terms) (m n : Moment) → IsNext I zeroed t m (To n) → n.clock.turns ≡ m.clock.turns + 1
next_clock I zeroed t m n (u, x, inl (f, e)) = absurd (cc)
next_clock I zeroed t m n (u, x, inr (w, f, v, inl (b, wanted, out, inl (off, e)))) = absurd (cc)
next_clock I zeroed t m n (u, x, inr (w, f, v, inl (b, wanted, out, inr (e, way, help, g)))) = begins_clock t m.clock _ _ n g
next_clock I zeroed t m n (u, x, inr (w, f, v, inr (none_out, inl (off, z, g, e)))) = absurd (cc)
next_clock I zeroed t m n (u, x, inr (w, f, v, inr (none_out, inr (inl (b, y, off, g, p, q, e))))) = absurd (cc)
next_clock I zeroed t m n (u, x, inr (w, f, v, inr (none_out, inr (inr (e, way, help, g))))) = moves_clock I zeroed t m n u w e way g

-- as many bases as turns, and the first
all_clocked : {I : Instance} {zeroed : Bool} {t : Terms} {c : Clock} {m : Moment} (comes : ComesInRun I zeroed t c m) → m.clock.turns + 1 ≡ c.turns + length (came_through comes)
all_clocked {I} {zeroed} {t} {c} (begins {ss} f) = omega arith
all_clocked {I} {zeroed} {t} {c} (goes_on {m} {n} before next) =
    let past = all_clocked before in
    let more = next_clock I zeroed t m n next in
    let long = length-append (came_through before) (n.statuses ∷ []) in
    omega arith

-- the moments from place i of the bases on, at which no column is out
record Since (I : Instance) (zeroed : Bool) (t : Terms) (c : Clock) (i : ℕ) (past : List (List Status)) (m : Moment) : Type 0 where
  turns : ℕ
  count : i + turns + 1 ≡ length past
  at : ℕ → Moment
  first : ComesInRun I zeroed t c (at 0)
  each : AreTurns I zeroed t at turns
  last : at turns ≡ m
  places : (k : ℕ) → k ≤ turns → (at k).statuses ≡ get_or past (i + k) []
  settled : IsSettled I zeroed m.statuses

-- the moment itself, at the last place
here : {I : Instance} {zeroed : Bool} {t : Terms} {c : Clock} {m : Moment} (i : ℕ) (past : List (List Status)) → ComesInRun I zeroed t c m → IsSettled I zeroed m.statuses → i + 1 ≡ length past → m.statuses ≡ get_or past i [] → Since I zeroed t c i past m
here {I} {zeroed} {t} {c} {m} i past comes settled count is = record {
  turns = 0;
  count = omega arith;
  at = λ k. m;
  first = comes;
  each = λ k h. absurd (omega arith);
  last = refl;
  places = λ k h. let e : i ≡ i + k = omega arith in is ∙ ap (λ j. get_or past j []) e;
  settled = settled;
}

-- and one more, by a turn of the second phase
further : {I : Instance} {zeroed : Bool} {t : Terms} {c : Clock} {m : Moment} (n : Moment) (i : ℕ) (past : List (List Status)) → IsInstance I → HasNoClash I → ComesInRun I zeroed t c m → IsNext I zeroed t m (To n) → Since I zeroed t c i past m → Since I zeroed t c i (past ++ n.statuses ∷ []) n
further {I} {zeroed} {t} {c} {m} n i past good room before next h =
    let k : ℕ = h.turns in
    let turn = settled_turn I zeroed t m n h.settled next in
    let at : ℕ → Moment = λ j. cond (nat_eq j (suc h.turns)) n (h.at j) in
    let old : (j : ℕ) → j ≤ h.turns → h.at j ≡ at j = λ j l. let d : j ≡ suc h.turns → ⊥ = λ z. omega arith in rw (ne_eqb j (suc h.turns) d) refl in
    let new : n ≡ at (suc h.turns) = let z : suc h.turns ≡ suc h.turns = refl in rw (eq-eqb (suc h.turns) (suc h.turns) z) refl in
    let count = h.count in
    let long = length-append past (n.statuses ∷ []) in
    record {
      turns = suc h.turns;
      count = omega arith;
      at = at;
      first = subst (ComesInRun I zeroed t c) (old 0 (omega arith)) h.first;
      each = λ j l.
          by_eq j h.turns
          (λ e.
          let a : m ≡ at j = sym h.last ∙ ap h.at (sym e) ∙ old j (omega arith) in
          let b : n ≡ at (suc j) = new ∙ ap (λ j. at (suc j)) (sym e) in
          subst (λ x. IsImprovingTurn I zeroed t x (at (suc j))) a (subst (IsImprovingTurn I zeroed t m) b turn))
          (λ e.
          subst (λ x. IsImprovingTurn I zeroed t x (at (suc j))) (old j (omega arith)) (subst (IsImprovingTurn I zeroed t (h.at j)) (old (suc j) (omega arith)) (h.each j (omega arith))));
      last = sym new;
      places = λ j l.
          by_eq j (suc h.turns)
          (λ e.
          let z : i + j ≡ length past = omega arith in
          ap (λ (x : Moment). x.statuses) (ap at e ∙ sym new) ∙ sym (get_or_push past n.statuses [] (i + j) (sym z)))
          (λ e.
          let z : i + j < length past = omega arith in
          ap (λ (x : Moment). x.statuses) (sym (old j (omega arith))) ∙ h.places j (omega arith) ∙ sym (get_or_append_left past (n.statuses ∷ []) [] (i + j) z));
      settled = turn_settles I zeroed t c m n good room before turn;
    }

since : {I : Instance} {zeroed : Bool} {t : Terms} {c : Clock} {m : Moment} → IsInstance I → HasNoClash I → (comes : ComesInRun I zeroed t c m) (i : ℕ) → i < length (came_through comes) → IsSettled I zeroed (get_or (came_through comes) i []) → Since I zeroed t c i (came_through comes) m
since {I} {zeroed} {t} {c} good room (begins {ss} f) i within s =
    let z : i ≡ 0 = omega arith in
    let is : ss ≡ get_or (ss ∷ []) i [] = ap (λ j. get_or (ss ∷ []) j []) (sym z) in
    here i (ss ∷ []) (begins f) (subst (IsSettled I zeroed) (sym is) s) (omega arith) is
since {I} {zeroed} {t} {c} good room (goes_on {m} {n} before next) i within s =
    let past = came_through before in
    let long = length-append (came_through before) (n.statuses ∷ []) in
    by_eq i (length (came_through before))
    (λ e.
    let is : n.statuses ≡ get_or (came_through before ++ n.statuses ∷ []) i [] = sym (get_or_push (came_through before) n.statuses [] i (sym e)) in
    here i (came_through before ++ n.statuses ∷ []) (goes_on before next) (subst (IsSettled I zeroed) (sym is) s) (omega arith) is)
    (λ e.
    let l : i < length (came_through before) = omega arith in
    further n i (came_through before) good room before next (since good room before i l (subst (IsSettled I zeroed) (get_or_append_left (came_through before) (n.statuses ∷ []) [] i l) s)))

-- of the bases that a run came through
pub none_twice : {I : Instance} {zeroed : Bool} {t : Terms} {c : Clock} {m : Moment} → IsInstance I → HasNoClash I → (comes : ComesInRun I zeroed t c m) → HasNoneTwice I zeroed (came_through comes)
none_twice {I} {zeroed} {t} {c} good room comes i j h l s same =
    let x = since good room comes i (omega arith) s in
    let count = x.count in
    let z : i + 0 ≡ i = omega arith in
    let y : i + (j - i) ≡ j = omega arith in
    let a : (x.at 0).statuses ≡ get_or (came_through comes) i [] = x.places 0 (omega arith) ∙ ap (λ p. get_or (came_through comes) p []) z in
    let b : (x.at (j - i)).statuses ≡ get_or (came_through comes) j [] = x.places (j - i) (omega arith) ∙ ap (λ p. get_or (came_through comes) p []) y in
    once I zeroed t c x.at x.turns good room x.first x.each 0 (j - i) (omega arith) (omega arith) (λ e g. ap (λ ss. status_at ss e) a ∙ same e g ∙ sym (ap (λ ss. status_at ss e) b))

-- the first basis is the first of them
first_is : {I : Instance} {zeroed : Bool} {t : Terms} {c : Clock} {m : Moment} (comes : ComesInRun I zeroed t c m) → (0 < length (came_through comes)) × IsFirstBasis I (get_or (came_through comes) 0 [])
first_is {I} {zeroed} {t} {c} (begins {ss} f) = (omega arith, f)
first_is {I} {zeroed} {t} {c} (goes_on {m} {n} before next) =
    let first = first_is before in
    let long = length-append (came_through before) (n.statuses ∷ []) in
    (omega (arith, first.0), subst (IsFirstBasis I) (sym (get_or_append_left (came_through before) (n.statuses ∷ []) [] 0 first.0)) first.1)

-- the limit of turns comes where as many were done
begins_out : (t : Terms) (c : Clock) (F : Type 0) (ss : List Status) (d : Clock) → BeginsTurn t c F ss (Out TurnsOut d) → t.turns ≤ c.turns
begins_out t c F ss d (inl (a, e)) = a
begins_out t c F ss d (inr (inl (a, b, e))) = absurd (cc)
begins_out t c F ss d (inr (inr (a, b, inl (f, e)))) = absurd (cc)
begins_out t c F ss d (inr (inr (a, b, inr (inl (f, g, e))))) = absurd (cc)
begins_out t c F ss d (inr (inr (a, b, inr (inr (f, g, e))))) = absurd (cc)

moves_out : (I : Instance) (zeroed : Bool) (t : Terms) (m : Moment) (d : Clock) (u : Entries) (w : Values) (e : ℕ) (way : Way) → MovesColumn I zeroed t m u w e way (Out TurnsOut d) → t.turns ≤ m.clock.turns
moves_out I zeroed t m d u w e way (inl (a, f)) = absurd (cc)
moves_out I zeroed t m d u w e way (inr (inl (v, x, f, g, p, q, h))) = absurd (cc)
moves_out I zeroed t m d u w e way (inr (inr (inl (f, l, g)))) = begins_out t m.clock _ _ d g
moves_out I zeroed t m d u w e way (inr (inr (inr (b, f, l, a, g)))) = begins_out t m.clock _ _ d g

out_of_turns : (I : Instance) (zeroed : Bool) (t : Terms) (m : Moment) (d : Clock) → IsNext I zeroed t m (Out TurnsOut d) → t.turns ≤ m.clock.turns
out_of_turns I zeroed t m d (u, x, inl (f, e)) = absurd (cc)
out_of_turns I zeroed t m d (u, x, inr (w, f, v, inl (b, wanted, out, inl (off, e)))) = absurd (cc)
out_of_turns I zeroed t m d (u, x, inr (w, f, v, inl (b, wanted, out, inr (n, way, help, e)))) = begins_out t m.clock _ _ d e
out_of_turns I zeroed t m d (u, x, inr (w, f, v, inr (none_out, inl (off, z, g, e)))) = absurd (cc)
out_of_turns I zeroed t m d (u, x, inr (w, f, v, inr (none_out, inr (inl (b, y, off, g, p, q, e))))) = absurd (cc)
out_of_turns I zeroed t m d (u, x, inr (w, f, v, inr (none_out, inr (inr (n, way, help, e))))) = moves_out I zeroed t m d u w n way e

pub never_out : (I : Instance) (zeroed : Bool) (t : Terms) (c d : Clock) → IsInstance I → (HasNoClash I → BeginsSettled I zeroed) → c.turns + 4 ^ (width I + height I) ≤ t.turns → Run I zeroed t c TurnsOut d → ⊥
never_out I zeroed t c d good s enough (inl (k, f, e, g)) = cc
never_out I zeroed t c d good s enough (inr r) =
    let first = first_is r.comes in
    let h = since good r.room r.comes 0 first.0 (s r.room _ first.1) in
    let a = few I zeroed t c h.at h.turns good r.room h.first h.each in
    let b = out_of_turns I zeroed t r.last d r.ends in
    let count = h.count in
    let e = all_clocked r.comes in
    omega arith
