-- The lists of the matrix and its entries are never held at once.
use Rattle.osil_grammar.proofs.Words.{◌≡◌, ℕ, ◌*◌, ◌≤◌, inl, inr, Bool, true, false, List, [], ◌∷◌, length, refl, ap, sym, subst, arith, lit<, All, All-head, All-tail, Frac, Entry, Goal, Mark, Start, Char, Finish, AllPass, TakesMark, AreTaken, Place, Led, around, State, start, begins, tests, leads, Fails, Begins, Ends, Leaves, osil, IsSoundSoFar, AreGoals, HasGoalsIn, is_in_matrix, AreHeldApart, HoldsApart, MakesSoFar, goals_held, held}
use Rattle.osil_grammar.specs.declared.elements.Part.TheVariants as parts
use Rattle.osil_grammar.specs.declared.elements.Listing.TheVariants as listings
use Rattle.osil_grammar.specs.declared.elements.Place.TheVariants as places
use Rattle.osil_grammar.specs.declared.elements.Led.TheVariants as led
use Rattle.osil_grammar.proofs.SoundStates.{sound_kept, sound_start}
use Rattle.osil_grammar.proofs.GoalStates.{IsPassedIn, StandsIn, leads_in, goals_kept, goals_start}

-- a start tag leads from the matrix to what stands in it, from elsewhere to what doesn't, or into a part
abbrev IsOnSide : Bool → Led → Type 0
IsOnSide b (led.To (places.Part part)) = Unit {0}
IsOnSide b (led.To p) = is_in_matrix p ≡ b
IsOnSide b l = Unit {0}

around_side : (q : Place) → IsOnSide (is_in_matrix (around q)) (led.To q)
around_side (places.Part part) = tt
around_side q = refl

passed_side : (p : Place) → IsPassedIn p → IsOnSide (is_in_matrix p) (led.To places.Passed)
passed_side places.Osil from = refl
passed_side places.Passed from = refl
passed_side p from = absurd from

on_side : (p : Place) (l : Led) → StandsIn p l → IsOnSide (is_in_matrix p) l
on_side p (led.To places.Passed) from = passed_side p from
on_side p (led.To q) from = subst (λ (x : Place). IsOnSide (is_in_matrix x) (led.To q)) (sym from) (around_side q)
on_side p l from = tt

abbrev ApartAt : Bool → State → Type 0
ApartAt b s = AreHeldApart b s.part s.entries s.starts s.indices s.values

-- before the last part no entry is held, and behind it no list
before_last : (b : Bool) (s : State) → (4 ≤ s.part → ⊥) → ApartAt b s → AreHeldApart true 4 s.entries s.starts s.indices s.values
before_last true s first h = absurd (let at = h.0 in first (omega (arith, at)))
before_last false s first h = (refl, h.3 (omega (arith, first)))

in_other_part : (b : Bool) (s : State) (n : ℕ) → n ≤ 4 → (n ≤ s.part → ⊥) → ApartAt b s → AreHeldApart false n s.entries s.starts s.indices s.values
in_other_part true s n small first h = absurd (let at = h.0 in first (omega (arith, at, small)))
in_other_part false s n small first h = (h.0, h.1, h.2, λ low. h.3 (omega (arith, first, small)))

module _ (s : State) (m : Mark) (apart : HoldsApart s) where
  abbrev here : Bool
  here = is_in_matrix s.place

  -- into an element on the same side
  same_side : (b : Bool) → b ≡ here → ApartAt b s
  same_side b side = subst (λ (x : Bool). ApartAt x s) (sym side) apart

  begun_apart : (p : Place) (z : State) → IsOnSide here (led.To p) → AllPass (Fails s m) (tests (begins (led.To p))) → Begins s m p z → HoldsApart z
  begun_apart (places.Part parts.Variables) z side pass (d, says, e) = subst HoldsApart (sym e) (in_other_part here s 1 (omega arith) pass.0 apart)
  begun_apart (places.Part parts.Objectives) z side pass (d, says, e) = subst HoldsApart (sym e) (in_other_part here s 2 (omega arith) pass.0 apart)
  begun_apart (places.Part parts.Constraints) z side pass (d, says, e) = subst HoldsApart (sym e) (in_other_part here s 3 (omega arith) pass.0 apart)
  begun_apart (places.Part parts.Coefficients) z side pass (d, says, e) = subst HoldsApart (sym e) (before_last here s pass.0 apart)
  begun_apart places.Var z side pass (v, n, x, t, e) = subst HoldsApart (sym e) (same_side false side)
  begun_apart places.Con z side pass (r, n, x, t, e) = subst HoldsApart (sym e) (same_side false side)
  begun_apart places.Obj z side pass (g, c, d, n, x, k, l, t, e) = subst HoldsApart (sym e) (same_side false side)
  begun_apart places.Coef z side pass (j, x, e) = subst HoldsApart (sym e) (same_side false side)
  begun_apart (places.Listed listings.Starts) z side pass e = subst HoldsApart (sym e) (same_side true side)
  begun_apart (places.Listed l) z side pass e = subst HoldsApart (sym e) (same_side true side)
  begun_apart (places.El listings.Values) z side pass (n, d, t, u, e) = subst HoldsApart (sym e) (same_side true side)
  begun_apart (places.El l) z side pass (n, d, t, u, e) = subst HoldsApart (sym e) (same_side true side)
  begun_apart p z side pass e = subst HoldsApart (sym e) (same_side false side)

  passed_apart : (z : State) → s.place ≡ places.Passed → Ends s places.Passed z → HoldsApart z
  passed_apart z at (inl h) = subst HoldsApart (sym h.1) apart
  passed_apart z at (inr h) = subst HoldsApart (sym h.1) (subst (λ (p : Place). ApartAt (is_in_matrix p) s) at apart)

  ended_apart : (p : Place) (z : State) → s.place ≡ p → ApartAt (is_in_matrix p) s → Ends s p z → HoldsApart z
  ended_apart places.Passed z at h e = passed_apart z at e
  ended_apart (places.Part parts.Coefficients) z at h (es, x, e) = subst HoldsApart (sym e) (refl, refl, refl, λ low. absurd (let last = h.0 in omega (arith, last, low)))
  ended_apart (places.El listings.Values) z at h (x, xs, r, i, e) = subst HoldsApart (sym e) h
  ended_apart (places.El listings.Starts) z at h (new, x, e) = subst HoldsApart (sym e) h
  ended_apart (places.El listings.RowIndices) z at h (new, x, e) = subst HoldsApart (sym e) h
  ended_apart (places.El listings.ColumnIndices) z at h (new, x, e) = subst HoldsApart (sym e) h
  ended_apart places.Coef z at h (x, y, r, i, e) = subst HoldsApart (sym e) h
  ended_apart p z at h e = subst HoldsApart (sym e) h

  led_apart : (l : Led) (z : State) → IsOnSide here l → AllPass (Fails s m) (tests (begins l)) → Leaves s m (begins l) z → HoldsApart z
  led_apart (led.To p) z side pass h = begun_apart p z side pass h
  led_apart l z side pass h = absurd h

apart_kept : (s z : State) (m : Mark) → HoldsApart s → TakesMark osil s m z → HoldsApart z
apart_kept s z (Start name as') apart takes = led_apart s (Start name as') apart (leads s.place name) z (on_side s.place (leads s.place name) (leads_in s.place name)) takes.0 takes.1
apart_kept s z (Char c) apart takes = subst HoldsApart (sym takes.1) apart
apart_kept s z (Finish name) apart takes = ended_apart s (Finish name) apart s.place z refl apart takes.1

pub apart_start : HoldsApart start
apart_start = (refl, refl, refl, λ low. refl)

-- HOW MANY ITEMS ARE HELD: those of goals, of which each has a cost for each variable
goals_few : (n : ℕ) (gs : List Goal) → n ≤ 1000 → All (λ g. length g.costs ≡ n) gs → goals_held gs ≤ length gs * 1001
goals_few n [] few each = omega arith
goals_few n (g ∷ gs) few each =
    let first = All-head (λ (x : Goal). length x.costs ≡ n) g gs each in
    let rest = goals_few n gs few (All-tail (λ (x : Goal). length x.costs ≡ n) g gs each) in
    omega (arith, first, rest, few)

module _ (s : State) (sound : IsSoundSoFar s) (goals : AreGoals (length s.vars) s.goals) where
  few_goals : goals_held s.goals ≤ 8008
  few_goals = let all = goals_few (length s.vars) s.goals sound.0.few_vars goals.one_each in let few = goals.few in omega (arith, all, few)

  -- in an `obj` no list of the matrix is held, and elsewhere no costs but those of the goals
  open_few : ApartAt false s → s.part ≡ 2 → length s.costs ≡ length s.vars → held s ≤ 211009
  open_few apart at each =
      let vars = sound.0.few_vars in let rows = sound.0.few_rows in let gs = few_goals in
      let starts = ap (λ (l : List ℕ). length l) apart.0 in let indices = ap (λ (l : List ℕ). length l) apart.1 in let values = ap (λ (l : List Frac). length l) apart.2 in
      let entries = ap (λ (l : List Entry). length l) (apart.3 (omega (arith, at))) in
      omega (arith, vars, rows, gs, starts, indices, values, entries, each)

  closed_few : (b : Bool) → ApartAt b s → s.costs ≡ [] → held s ≤ 211009
  closed_few true apart none =
      let vars = sound.0.few_vars in let rows = sound.0.few_rows in let gs = few_goals in
      let starts = sound.1 in let indices = sound.2 in let values = sound.4 in
      let entries = ap (λ (l : List Entry). length l) apart.1 in let costs = ap (λ (l : List Frac). length l) none in
      omega (arith, vars, rows, gs, starts, indices, values, entries, costs)
  closed_few false apart none =
      let vars = sound.0.few_vars in let rows = sound.0.few_rows in let gs = few_goals in
      let starts = ap (λ (l : List ℕ). length l) apart.0 in let indices = ap (λ (l : List ℕ). length l) apart.1 in let values = ap (λ (l : List Frac). length l) apart.2 in
      let entries = sound.5.few in let costs = ap (λ (l : List Frac). length l) none in
      omega (arith, vars, rows, gs, starts, indices, values, entries, costs)

held_at : (p : Place) (s : State) → IsSoundSoFar s → ApartAt (is_in_matrix p) s → HasGoalsIn p s → held s ≤ 211009
held_at places.Obj s sound apart goals = open_few s sound goals.0 apart (goals.2 (lit< tt)) goals.3.0
held_at places.Coef s sound apart goals = open_few s sound goals.0 apart (goals.2 (lit< tt)) goals.3.0
held_at p s sound apart goals = closed_few s sound goals.0 (is_in_matrix p) apart goals.3

pub held_few : (s : State) → MakesSoFar s → held s ≤ 211009
held_few s fit = held_at s.place s fit.0.0 fit.1 fit.2

pub fit_start : MakesSoFar start
fit_start = (sound_start, apart_start, goals_start)

pub fit_kept : (s : State) (ms : List Mark) (z : State) → AreTaken osil s ms z → MakesSoFar s → MakesSoFar z
fit_kept s [] z taken fit = subst MakesSoFar (sym taken) fit
fit_kept s (m ∷ ms) z (w, takes, more) fit = fit_kept w ms z more (sound_kept s w m fit.0 takes, apart_kept s w m fit.1 takes, goals_kept s w m fit.2 takes)
