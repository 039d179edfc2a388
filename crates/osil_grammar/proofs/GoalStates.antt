-- A mark that is taken leaves the goals as those of an instance as far as it goes.
use Rattle.osil_grammar.proofs.Words.{◌≡◌, ◌∙◌, ◌+◌, ◌-◌, ◌<◌, ◌≤◌, ℕ, inl, inr, Bool, true, false, cond, List, [], ◌∷◌, ◌++◌, length, replicate, refl, sym, subst, arith, lit<, bytes_eq, All, All-nil, All-append, All-replicate, length-replicate, length-set, Attribute, Mark, Start, Char, Finish, Goal, nought, AllPass, TakesMark, Child, Place, Led, State, start, among, content, otherwise, leads, part_row, begins, tests, Fails, most, around, Begins, Ends, Leaves, goal_so_far, heard, keeps_text, osil, AreGoals, AreGoalsLate, IsInPart, AreCostsAt, HasGoals, HasGoalsIn}
use Rattle.osil_grammar.specs.declared.elements.Part.TheVariants as parts
use Rattle.osil_grammar.specs.declared.elements.Listing.TheVariants as listings
use Rattle.osil_grammar.specs.declared.elements.Place.TheVariants as places
use Rattle.osil_grammar.specs.declared.elements.Led.TheVariants as led
use Rattle.osil_grammar.proofs.SoundStates.{not_more, replicated}

-- WHERE AN ELEMENT STANDS: in the one that its end tag leads back to; one that is passed over also in such a one
abbrev pub IsPassedIn : Place → Type 0
IsPassedIn places.Osil = Unit {0}
IsPassedIn places.Passed = Unit {0}
IsPassedIn p = ⊥

abbrev pub StandsIn : Place → Led → Type 0
StandsIn p (led.To places.Passed) = IsPassedIn p
StandsIn p (led.To q) = p ≡ around q
StandsIn p l = Unit {0}

abbrev AllSo : (Led → Type 0) → List (Child Place) → Type 0
AllSo P [] = Unit {0}
AllSo P (c ∷ cs) = P (led.To c.place) × AllSo P cs

either_so : (P : Led → Type 0) (b : Bool) (l m : Led) → P l → P m → P (cond b l m)
either_so P true l m p q = p
either_so P false l m p q = q

among_so : (P : Led → Type 0) (name : List ℕ) (cs : List (Child Place)) (other : Led) → AllSo P cs → P other → P (among (λ (p : Place). led.To p) name cs other)
among_so P name [] other all last = last
among_so P name (c ∷ cs) other all last = either_so P (bytes_eq name c.name) (led.To c.place) (among (λ (p : Place). led.To p) name cs other) all.0 (among_so P name cs other all.1 last)

in_content : (p : Place) → AllSo (StandsIn p) (content p)
in_content places.Outside = (refl, tt)
in_content places.Osil = (refl, tt)
in_content places.Data = (refl, (refl, (refl, (refl, tt))))
in_content (places.Part parts.Coefficients) = (refl, (refl, (refl, (refl, tt))))
in_content (places.Part part) = (refl, tt)
in_content places.Obj = (refl, tt)
in_content (places.Listed l) = (refl, tt)
in_content p = tt

in_other : (p : Place) → StandsIn p (otherwise p)
in_other places.Data = refl
in_other p = tt

pub leads_in : (p : Place) (name : List ℕ) → StandsIn p (leads p name)
leads_in p name = among_so (StandsIn p) name (content p) (otherwise p) (in_content p) (in_other p)

-- START TAGS
no_part : (n : ℕ) → 0 < 0 → n ≡ 0
no_part n some = absurd (omega (arith, some))

-- no goals are late, and those of no variables more
late_from : (n : ℕ) (s : State) → AreGoalsLate s → (n ≤ s.part → ⊥) → n < 2 → s.goals ≡ []
late_from n s late first low = late (omega (arith, first, low))

fewer_goals : (n m : ℕ) (gs : List Goal) → gs ≡ [] → AreGoals n gs → AreGoals m gs
fewer_goals n m gs none h = record { few = h.few; one_each = subst (λ (l : List Goal). All (λ (g : Goal). length g.costs ≡ m) l) (sym none) (All-nil (λ (g : Goal). length g.costs ≡ m)) }

module _ (s : State) (name : List ℕ) (as' : List Attribute) (h : HasGoals s) where
  -- what is so in the element that this one stands in
  part_from : (p : Place) → s.place ≡ p → IsInPart p s.part
  part_from p at = subst (λ (q : Place). IsInPart q s.part) at h.2

  costs_from : (p : Place) → s.place ≡ p → AreCostsAt p s
  costs_from p at = subst (λ (q : Place). AreCostsAt q s) at h.3

  passed_costs : (p : Place) → IsPassedIn p → AreCostsAt p s → s.costs ≡ []
  passed_costs places.Osil is none = none
  passed_costs places.Passed is none = none
  passed_costs p is none = absurd is

  begin_goals : (p : Place) (z : State) → StandsIn s.place (led.To p) → AllPass (Fails s (Start name as')) (tests (begins (led.To p))) → Begins s (Start name as') p z → HasGoals z
  begin_goals places.Passed z from pass is = subst HasGoals (sym is) (h.0, h.1, no_part s.part, passed_costs s.place from h.3)
  begin_goals (places.Part part) z from pass (d, says, is) = subst HasGoals (sym is) (h.0, late_from (part_row part) s h.1 pass.0, (λ some. refl), costs_from places.Data from)
  begin_goals places.Var z from pass (v, n, says, times, is) =
      let first = part_from (places.Part parts.Variables) from (lit< tt) in
      subst HasGoals (sym is) (fewer_goals (length s.vars) (length (s.vars ++ replicate n v)) s.goals (h.1 (omega (arith, first))) h.0, h.1, part_from (places.Part parts.Variables) from, costs_from (places.Part parts.Variables) from)
  begin_goals places.Con z from pass (r, n, says, times, is) = subst HasGoals (sym is) (h.0, h.1, part_from (places.Part parts.Constraints) from, costs_from (places.Part parts.Constraints) from)
  begin_goals places.Obj z from pass (g, x, d, n, a, b, c, e, is) =
      let room = not_more (most places.Obj) (length s.goals + n) (λ many. pass.1.1.1.1.1.1.1.0 (n, e, many)) in
      subst HasGoals (sym is) (h.0, h.1, part_from (places.Part parts.Objectives) from, (length-replicate (length s.vars) nought, room))
  begin_goals places.Coef z from pass (j, says, is) = subst HasGoals (sym is) (h.0, h.1, part_from places.Obj from, costs_from places.Obj from)
  begin_goals (places.Listed listings.Starts) z from pass is = subst HasGoals (sym is) (h.0, h.1, part_from (places.Part parts.Coefficients) from, costs_from (places.Part parts.Coefficients) from)
  begin_goals (places.Listed l) z from pass is = subst HasGoals (sym is) (h.0, h.1, part_from (places.Part parts.Coefficients) from, costs_from (places.Part parts.Coefficients) from)
  begin_goals (places.El listings.Values) z from pass (m, d, times, step, is) = subst HasGoals (sym is) (h.0, h.1, part_from (places.Listed listings.Values) from, costs_from (places.Listed listings.Values) from)
  begin_goals (places.El l) z from pass (m, d, times, step, is) = subst HasGoals (sym is) (h.0, h.1, part_from (places.Listed l) from, costs_from (places.Listed l) from)
  begin_goals p z from pass is = subst HasGoals (sym is) (h.0, h.1, no_part s.part, costs_from (around p) from)

  start_goals : (l : Led) (z : State) → StandsIn s.place l → AllPass (Fails s (Start name as')) (tests (begins l)) × Leaves s (Start name as') (begins l) z → HasGoals z
  start_goals (led.To p) z from h = begin_goals p z from h.0 h.1
  start_goals l z from h = absurd h.1

-- CHARACTERS
text_goals : (p : Place) (s : State) (text : List ℕ) → HasGoalsIn p s → HasGoalsIn p (record s { text = text })
text_goals places.Obj s text h = h
text_goals p s text h = h

-- END TAGS
out_part : (p : Place) (n : ℕ) → IsInPart p n → IsInPart (around p) n
out_part (places.Part part) n h = no_part n
out_part p n h = h

end_goals : (s : State) (p : Place) (z : State) → s.place ≡ p → HasGoalsIn p s → Ends s p z → HasGoals z
end_goals s places.Passed z at h (inl e) = subst HasGoals (sym e.1) (subst (λ (q : Place). HasGoalsIn q (record s { depth = s.depth - 1 })) (sym at) h)
end_goals s places.Passed z at h (inr e) = subst HasGoals (sym e.1) (h.0, h.1, no_part s.part, h.3)
end_goals s (places.Part parts.Coefficients) z at h (es, matrix, is) = subst HasGoals (sym is) (h.0, h.1, no_part s.part, h.3)
end_goals s places.Obj z at h is =
    let long = replicated s.goals s.times (goal_so_far s) in
    let room = h.3.1 in
    let in_order = h.2 (lit< tt) in
    subst HasGoals (sym is) (
      record { few = omega (arith, long, room); one_each = All-append (λ (g : Goal). length g.costs ≡ length s.vars) s.goals (replicate s.times (goal_so_far s)) h.0.one_each (All-replicate (λ (g : Goal). length g.costs ≡ length s.vars) s.times (goal_so_far s) h.3.0) },
      (λ low. absurd (omega (arith, in_order, low))),
      h.2,
      refl,
    )
end_goals s places.Coef z at h (x, y, reads, same, is) = subst HasGoals (sym is) (h.0, h.1, h.2, (length-set s.costs s.variable y ∙ h.3.0, h.3.1))
end_goals s (places.El listings.Starts) z at h (new, adds, is) = subst HasGoals (sym is) (h.0, h.1, h.2, h.3)
end_goals s (places.El listings.RowIndices) z at h (new, adds, is) = subst HasGoals (sym is) (h.0, h.1, h.2, h.3)
end_goals s (places.El listings.ColumnIndices) z at h (new, adds, is) = subst HasGoals (sym is) (h.0, h.1, h.2, h.3)
end_goals s (places.El listings.Values) z at h (first, added, reads, same, is) = subst HasGoals (sym is) (h.0, h.1, h.2, h.3)
end_goals s p z at h is = subst HasGoals (sym is) (h.0, h.1, out_part p s.part h.2, h.3)

-- no mark, and one
pub goals_start : HasGoals start
goals_start = (record { few = omega arith; one_each = All-nil (λ (g : Goal). length g.costs ≡ 0) }, (λ low. refl), no_part 0, refl)

pub goals_kept : (s z : State) (m : Mark) → HasGoals s → TakesMark osil s m z → HasGoals z
goals_kept s z (Start name as') h takes = start_goals s name as' h (leads s.place name) z (leads_in s.place name) takes
goals_kept s z (Char c) h takes = subst HasGoals (sym takes.1) (text_goals s.place s (heard (keeps_text s.place) s.text c) h)
goals_kept s z (Finish name) h takes = end_goals s s.place z refl h takes.1
