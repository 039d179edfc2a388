-- What is asked of a search by legal rules: what holds at its moments, what it ends with, its bound, how near its best point is, and that nothing asked leaves the search as it is.
use Rattle.std.proofs.Common.{◌≡◌, inl, inr, suc, Option, None, Some, List, [], ◌∷◌, ◌++◌, length, map, refl, sym, ◌∙◌, ap, subst}
use Rattle.rational.specs.Ratio.{Ratio, IsAtMost}
use Rattle.evidence.specs.Sums.{none}
use Rattle.evidence.specs.Instance.{Problem, IsProblem}
use Rattle.evidence.specs.Point.{objective, IsFeasible}
use Rattle.evidence.specs.ProvedBounds.{ProvedBound, IsWithinGap}
use Rattle.evidence.specs.Claim.{Accepts}
use Rattle.certificate.specs.declared.causes.Cause.{Cause}
use Rattle.simplex_rules.specs.Ends.{Terms, Clock}
use Rattle.search_rules.specs.Branching.{Case}
use Rattle.search_rules.specs.Search.{Found, NextOfSearch, Outcome, BestSoFar, To, Out, reached, StopsBefore}
use Rattle.search_rules.specs.Outcomes.{IsPoint, IsShown}
use Rattle.search_rules.specs.Bounds.{Carried, IsShownBound, claimed}
use Rattle.search_rules.specs.Gaps.{Gap, IsNearBy}
use Rattle.search_rules.specs.Beginnings.{IsFirstBest}
use Rattle.search_rules.specs.Asked.{Asked, nothing, TellsOf}
use Rattle.search_rules.specs.RuleSearch.{SearchRules, AreLegalSearches, MomentBy, On, Off, with_basis, IsNextBy}
use Rattle.search_rules.specs.RuleBeginnings.{ComesFromBy, begins, goes_on, IsAnswerFromBy, searched, given_up, given_up_after}
use Rattle.search_rules.specs.RuleAsked.{carried_by, number_by, EndsAskedBy, near_by, ends_by, ComesAskedBy, begins_asked, visits_on, climbs_on, AskedSearchBy, IsAskedAnswerBy, asked_by, gave_up_by, gave_up_after_by, gave_up_closing_by}
use Rattle.search_rules.proofs.SidedMoments.{HoldsBy}
use Rattle.search_rules.proofs.Outcomes.{early_shown}
use Rattle.search_rules.proofs.OpenBounds.{AllCarry}
use Rattle.search_rules.proofs.BoundLaws.{has_values}
use Rattle.search_rules.proofs.NearSearches.{AllNumbered, to_carry, within_gap}
use Rattle.search_rules.proofs.AskedBounds.{told_proved}
use Rattle.search_rules.proofs.RuleSearches.{next_holds, next_shown}
use Rattle.search_rules.proofs.RulePoints.{start_holds}
use Rattle.search_rules.proofs.RuleParts.{visit_part, begins_level, visit_numbers, level_numbers}
use Rattle.search_rules.proofs.RuleBounds.{closing_certificate, closing_proves, found_shown_by}

module _ (S : SearchRules) (legal : AreLegalSearches S) (P : Problem) (t : Terms) (a : Asked) (good : IsProblem P) (gs : Option (List (Option Ratio))) (start : Option Found) (is : IsFirstBest P gs start) where
  pub asked_holds : (s : MomentBy) (ks : List Carried) (xs : List (Option Ratio)) → ComesAskedBy S P t a start s ks xs → HoldsBy P s.moment s.turned
  asked_holds s ks xs begins_asked = start_holds S legal P t good gs start is
  asked_holds s ks xs (visits_on {s = before} {k} {ks = ls} {x} {xs = ys} c far v new e) = next_holds S legal P t before s (asked_holds before (k ∷ ls) (x ∷ ys) c) (inr (inr v))
  asked_holds s ks xs (climbs_on {s = before} c empty next) = next_holds S legal P t before s (asked_holds before [] [] c) next

  pub asked_numbers : (s : MomentBy) (ks : List Carried) (xs : List (Option Ratio)) → ComesAskedBy S P t a start s ks xs → AllNumbered s.moment.waiting ks xs
  asked_numbers s ks xs begins_asked = (tt, tt)
  asked_numbers n ls ys (visits_on {s} {k} {ks} {x} {xs} c far v new e) =
      let h = asked_holds s (k ∷ ks) (x ∷ xs) c in
      visit_numbers S legal P t s n h (next_holds S legal P t s n h (inr (inr v))) k x ks xs v new e (asked_numbers s (k ∷ ks) (x ∷ xs) c)
  asked_numbers n ls ys (climbs_on {s} c empty next) = level_numbers S legal P t s n empty next

  pub asked_carry : (s : MomentBy) (ks : List Carried) (xs : List (Option Ratio)) → ComesAskedBy S P t a start s ks xs → AllCarry s.moment.waiting ks
  asked_carry s ks xs c = to_carry s.moment.waiting ks xs (asked_numbers s ks xs c)

  ended_shown : (s : MomentBy) (xs : List (Option Ratio)) (o : Outcome) (c : Clock) → HoldsBy P s.moment s.turned → EndsAskedBy S P t a s xs o c → IsShown P o
  ended_shown s xs o c h (near_by near) = early_shown P s.moment h.holds s.moment.best _ refl
  ended_shown s xs o c h (ends_by far next) = next_shown S legal P t s o c h next

  pub answer_shown_by : (o : Outcome) (b : Option ProvedBound) (c : Clock) → IsAskedAnswerBy S P t a start o b c → IsShown P o
  answer_shown_by o b c (asked_by s) = ended_shown s.last s.numbers o c (asked_holds s.last s.carried s.numbers s.comes) s.ends
  answer_shown_by o b c (gave_up_by {s} {ks} {xs} k) = let h = asked_holds s ks xs k in early_shown P s.moment h.holds s.moment.best _ refl
  answer_shown_by o b c (gave_up_after_by {s} {ks} {xs} k r) = let h = asked_holds s ks xs k in early_shown P s.moment h.holds s.moment.best _ refl
  answer_shown_by o b c (gave_up_closing_by {s} {ks} {xs} e k over) = let h = asked_holds s ks xs k in early_shown P s.moment h.holds s.moment.best _ refl

  pub answer_bound_by : (o : Outcome) (d : Option ProvedBound) (b : ProvedBound) (c : Clock) → d ≡ Some b → IsAskedAnswerBy S P t a start o d c → IsShownBound P b
  answer_bound_by o d b c e (asked_by s) =
      found_shown_by P s.last s.carried (asked_holds s.last s.carried s.numbers s.comes) (asked_carry s.last s.carried s.numbers s.comes) a.bound o d b e s.has
  answer_bound_by o d b c e (gave_up_by k) = absurd (cc)
  answer_bound_by o d b c e (gave_up_after_by k r) = absurd (cc)
  answer_bound_by o d b c e (gave_up_closing_by q k over) = absurd (cc)

  -- and so what is told is accepted
  pub best_accepted_by : (x vs : List Ratio) (k : Cause) (b : Option ProvedBound) (c : Clock) → AskedSearchBy S P t a start (BestSoFar x vs k) b c → (d : Option ProvedBound) → TellsOf P b d → Accepts P (claimed (BestSoFar x vs k) d)
  best_accepted_by x vs k b c s d tells =
      let point : IsPoint P x vs = answer_shown_by (BestSoFar x vs k) b c (asked_by s) in
      (has_values P x vs point, point.fits, told_proved P b d tells)

  -- where the best point is near enough, no point is better by more than the gap allows
  pub near_true_by : (g : Gap) (s : MomentBy) (ks : List Carried) (xs : List (Option Ratio)) → ComesAskedBy S P t a start s ks xs → (near : IsNearBy P g s.moment xs) → IsAtMost none near.allowed → (y : List Ratio) → IsFeasible P.program y → IsWithinGap P.program (reached s.moment.level near.found) (objective P.program y) near.allowed
  near_true_by g s ks xs c near from y f =
      let h = asked_holds s ks xs c in
      within_gap P s.moment ks xs good h.holds (asked_numbers s ks xs c) g near from (closing_certificate s) (λ mss w e low. closing_proves P s ks h (asked_carry s ks xs c) mss w e low) y f

-- nothing is asked
module _ (S : SearchRules) (legal : AreLegalSearches S) (P : Problem) (t : Terms) (start : Option Found) where
  plain_comes : (s : MomentBy) (ks : List Carried) (xs : List (Option Ratio)) → ComesAskedBy S P t nothing start s ks xs → ComesFromBy S P t start s
  plain_comes s ks xs begins_asked = begins
  plain_comes s ks xs (visits_on {s = before} {k} {ks = ls} {x} {xs = ys} c far v new e) = goes_on (plain_comes before (k ∷ ls) (x ∷ ys) c) (inr (inr v))
  plain_comes s ks xs (climbs_on {s = before} c empty next) = goes_on (plain_comes before [] [] c) next

  plain_ends : (s : MomentBy) (xs : List (Option Ratio)) (o : Outcome) (c : Clock) → EndsAskedBy S P t nothing s xs o c → IsNextBy S P t s (Off o c)
  plain_ends s xs o c (near_by n) = absurd (n.near)
  plain_ends s xs o c (ends_by far next) = next

  pub nothing_asked_by : (o : Outcome) (b : Option ProvedBound) (c : Clock) → IsAskedAnswerBy S P t nothing start o b c → IsAnswerFromBy S P t start o c × (b ≡ None)
  nothing_asked_by o b c (asked_by s) = (searched (record { last = s.last; comes = plain_comes s.last s.carried s.numbers s.comes; ends = plain_ends s.last s.numbers o c s.ends }), s.has)
  nothing_asked_by o b c (gave_up_by {s} {ks} {xs} k) = (given_up (plain_comes s ks xs k), refl)
  nothing_asked_by o b c (gave_up_after_by {s} {ks} {xs} k r) = (given_up_after (plain_comes s ks xs k) r, refl)
  nothing_asked_by o b c (gave_up_closing_by e k over) = absurd (cc)

  -- one of each open case
  added : {X : Type 0} (f : Case → X) (new rest : List Case) (zs : List X) → length zs ≡ length rest → length (map f new ++ zs) ≡ length (new ++ rest)
  added f [] rest zs e = e
  added f (C ∷ new) rest zs e = ap (λ n. suc n) (added f new rest zs e)

  counts : (s : MomentBy) (ks : List Carried) (xs : List (Option Ratio)) → ComesAskedBy S P t nothing start s ks xs → (length ks ≡ length s.moment.waiting) × (length xs ≡ length s.moment.waiting)
  counts s ks xs begins_asked = (refl, refl)
  counts n ks xs (visits_on {s} {k} {ks = ls} {x} {xs = ys} c far v new is) =
      let before = counts s (k ∷ ls) (x ∷ ys) c in
      let all : length s.moment.waiting ≡ suc (length v.visit.rest) = ap (λ (Cs : List Case). length Cs) v.visit.is in
      let one : suc (length ls) ≡ suc (length v.visit.rest) = before.0 ∙ all in
      let other : suc (length ys) ≡ suc (length v.visit.rest) = before.1 ∙ all in
      let end : length (new ++ v.visit.rest) ≡ length n.moment.waiting = ap (λ (Cs : List Case). length Cs) (sym is) in
      (added (λ C. carried_by v.visit.case.ray v.finish k) new v.visit.rest ls (cc) ∙ end, added (λ C. number_by v.visit.case.ray v.finish x) new v.visit.rest ys (cc) ∙ end)
  counts n ks xs (climbs_on {s} c empty next) = let e : 1 ≡ length n.moment.waiting = subst (λ (Cs : List Case). 1 ≡ length Cs) (sym (begins_level S legal P t s n empty next)) refl in (e, e)

  abbrev Asks : MomentBy → Type 0
  Asks s = (ks : List Carried) × (xs : List (Option Ratio)) × ComesAskedBy S P t nothing start s ks xs

  no_more : {X : Type 0} (xs : List X) → length xs ≡ 0 → xs ≡ []
  no_more [] e = refl
  no_more (x ∷ xs) e = absurd (cc)

  never_stops : (s n : MomentBy) (o : NextOfSearch) → StopsBefore P t s.moment o → On n ≡ with_basis s.basis s.turned o → Asks n
  never_stops s n (To k) (inl (limit, q)) e = absurd (cc)
  never_stops s n (To k) (inr (within, stop, q)) e = absurd (cc)
  never_stops s n (Out o c) p e = absurd (cc)

  goes_asked : (s n : MomentBy) (ks : List Carried) (xs : List (Option Ratio)) → ComesAskedBy S P t nothing start s ks xs → length ks ≡ length s.moment.waiting → length xs ≡ length s.moment.waiting → IsNextBy S P t s (On n) → Asks n
  goes_asked s n ks xs c e f (inl (o, empty, l, q)) =
      let zero : length s.moment.waiting ≡ 0 = ap (λ (Cs : List Case). length Cs) empty in
      let here = subst (λ ls. ComesAskedBy S P t nothing start s ls []) (no_more ks (e ∙ zero)) (subst (λ ys. ComesAskedBy S P t nothing start s ks ys) (no_more xs (f ∙ zero)) c) in
      (None ∷ [], None ∷ [], climbs_on here empty (inl (o, empty, l, q)))
  goes_asked s n ks xs c e f (inr (inl (o, some, p, q))) = never_stops s n o p q
  goes_asked s n [] xs c e f (inr (inr v)) = let g : 0 ≡ suc (length v.visit.rest) = e ∙ ap (λ (Cs : List Case). length Cs) v.visit.is in absurd (cc)
  goes_asked s n (k ∷ ks) [] c e f (inr (inr v)) = let g : 0 ≡ suc (length v.visit.rest) = f ∙ ap (λ (Cs : List Case). length Cs) v.visit.is in absurd (cc)
  goes_asked s n (k ∷ ks) (x ∷ xs) c e f (inr (inr v)) =
      let part = visit_part S legal P t s n v in
      (map (λ C. carried_by v.visit.case.ray v.finish k) part.new ++ ks, map (λ C. number_by v.visit.case.ray v.finish x) part.new ++ xs, visits_on c (λ s. s.near) v part.new part.is)

  comes_asked : (s : MomentBy) → ComesFromBy S P t start s → Asks s
  comes_asked s begins = (None ∷ [], None ∷ [], begins_asked)
  comes_asked n (goes_on {m} c next) =
      let (ks, xs, k) = comes_asked m c in
      let both = counts m ks xs k in
      goes_asked m n ks xs k both.0 both.1 next

  pub asked_nothing_by : (o : Outcome) (c : Clock) → IsAnswerFromBy S P t start o c → IsAskedAnswerBy S P t nothing start o None c
  asked_nothing_by o c (searched s) =
      let (ks, xs, k) = comes_asked s.last s.comes in
      asked_by (record { last = s.last; carried = ks; numbers = xs; comes = k; ends = ends_by (λ f. f.near) s.ends; has = refl })
  asked_nothing_by o c (given_up {m} k) = let (ks, xs, j) = comes_asked m k in gave_up_by j
  asked_nothing_by o c (given_up_after {m} k r) = let (ks, xs, j) = comes_asked m k in gave_up_after_by j r
