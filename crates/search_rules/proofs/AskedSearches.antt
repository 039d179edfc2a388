-- Searches of which more is asked: what holds at their moments, what they show, and that without a gap they are the searches.
use Rattle.std.proofs.Common.{◌≡◌, inl, inr, suc, Bool, false, Option, None, List, [], ◌∷◌, ◌++◌, length, map, refl, sym, ◌∙◌, ap, subst}
use Rattle.rational.specs.Ratio.{Ratio}
use Rattle.evidence.specs.Instance.{Problem, IsProblem}
use Rattle.evidence.specs.ProvedBounds.{ProvedBound}
use Rattle.simplex_rules.specs.Ends.{Terms, Clock}
use Rattle.simplex_rules.specs.Runs.{looked_once}
use Rattle.search_rules.specs.Branching.{Case}
use Rattle.search_rules.specs.Search.{Found, SearchMoment, Outcome, To, Out, IsNextInSearch}
use Rattle.search_rules.specs.Outcomes.{IsShown}
use Rattle.search_rules.specs.Bounds.{Carried, carried_after}
use Rattle.search_rules.specs.Gaps.{number_after}
use Rattle.search_rules.specs.Beginnings.{IsFirstBest, ComesFrom, begins, goes_on, SearchFrom, IsAnswerFrom, searched, given_up, given_up_after}
use Rattle.search_rules.specs.Asked.{Asked, nothing, without_gap, ComesAsked, asked_first, asked_on, asked_level, EndsAsked, near, ends, AskedSearch, IsAskedAnswer, asked, gave_up, gave_up_after, gave_up_closing}
use Rattle.search_rules.proofs.Moments.{Holds, next_holds}
use Rattle.search_rules.proofs.Outcomes.{early_shown, next_shown}
use Rattle.search_rules.proofs.OpenBounds.{goes_part, level_begins}
use Rattle.search_rules.proofs.FirstPoints.{first_holds}

module _ (P : Problem) (t : Terms) (a : Asked) where
  pub ends_shown : (m : SearchMoment) (xs : List (Option Ratio)) (o : Outcome) (c : Clock) → Holds P m → EndsAsked P t a m xs o c → IsShown P o
  ends_shown m xs o c h (near s) = early_shown P m h m.best _ refl
  ends_shown m xs o c h (ends far next) = next_shown P t m h o c next

  -- from the point of these values
  module _ (good : IsProblem P) (gs : Option (List (Option Ratio))) (start : Option Found) (is : IsFirstBest P gs start) where
    pub asked_hold : (m : SearchMoment) (ks : List Carried) (xs : List (Option Ratio)) → ComesAsked P t a start m ks xs → Holds P m
    asked_hold m ks xs asked_first = first_holds P t good gs start is
    asked_hold m ks xs (asked_on {m = before} {k} {ks = ls} {x} {xs = ys} c far v new e) = next_holds P t before m (asked_hold before (k ∷ ls) (x ∷ ys) c) (inr (inr v))
    asked_hold m ks xs (asked_level {m = before} c none next) = next_holds P t before m (asked_hold before [] [] c) next

    pub answer_shown : (o : Outcome) (b : Option ProvedBound) (c : Clock) → IsAskedAnswer P t a start o b c → IsShown P o
    answer_shown o b c (asked s) = ends_shown s.last s.numbers o c (asked_hold s.last s.carried s.numbers s.comes) s.ends
    answer_shown o b c (gave_up {m} {ks} {xs} k) = early_shown P m (asked_hold m ks xs k) m.best _ refl
    answer_shown o b c (gave_up_after {m} {ks} {xs} k r) = early_shown P m (asked_hold m ks xs k) m.best _ refl
    answer_shown o b c (gave_up_closing {m} {ks} {xs} e comes over) = early_shown P m (asked_hold m ks xs comes) m.best _ refl

  module _ (start : Option Found) where
    -- one of each open case
    pub counts : (m : SearchMoment) (ks : List Carried) (xs : List (Option Ratio)) → ComesAsked P t a start m ks xs → (length ks ≡ length m.waiting) × (length xs ≡ length m.waiting)
    counts m ks xs asked_first = (refl, refl)
    counts n ks xs (asked_on {m} {k} {ks = ls} {x} {xs = ys} c far v new is) =
        let before = counts m (k ∷ ls) (x ∷ ys) c in
        let all : length m.waiting ≡ suc (length v.visit.rest) = ap (λ (Cs : List Case). length Cs) v.visit.is in
        let one : suc (length ls) ≡ suc (length v.visit.rest) = before.0 ∙ all in
        let other : suc (length ys) ≡ suc (length v.visit.rest) = before.1 ∙ all in
        let end : length (new ++ v.visit.rest) ≡ length n.waiting = ap (λ (Cs : List Case). length Cs) (sym is) in
        (added (λ C. carried_after v.visit.case.ray v.end k) new v.visit.rest ls (cc) ∙ end, added (λ C. number_after v.visit.case.ray v.end x) new v.visit.rest ys (cc) ∙ end)
      where
        added : {X : Type 0} (f : Case → X) (new rest : List Case) (zs : List X) → length zs ≡ length rest → length (map f new ++ zs) ≡ length (new ++ rest)
        added f [] rest zs e = e
        added f (C ∷ new) rest zs e = ap (λ n. suc n) (added f new rest zs e)
    counts n ks xs (asked_level {m} c none next) = let e : 1 ≡ length n.waiting = subst (λ (Cs : List Case). 1 ≡ length Cs) (sym (level_begins P t m n none next)) refl in (e, e)

-- whatever is asked, a moment is one of the search; where no gap is asked for, each one is
module _ (P : Problem) (t : Terms) (start : Option Found) where
  pub asked_from : (a : Asked) (m : SearchMoment) (ks : List Carried) (xs : List (Option Ratio)) → ComesAsked P t a start m ks xs → ComesFrom P t start m
  asked_from a m ks xs asked_first = begins
  asked_from a m ks xs (asked_on {m = before} {k} {ks = ls} {x} {xs = ys} c far v new is) = goes_on (asked_from a before (k ∷ ls) (x ∷ ys) c) (inr (inr v))
  asked_from a m ks xs (asked_level {m = before} c none next) = goes_on (asked_from a before [] [] c) next

  plain_ends : (asks : Bool) (m : SearchMoment) (xs : List (Option Ratio)) (o : Outcome) (c : Clock) → EndsAsked P t (without_gap asks) m xs o c → IsNextInSearch P t m (Out o c)
  plain_ends asks m xs o c (near s) = absurd s.near
  plain_ends asks m xs o c (ends far next) = next

  pub plain_search : (asks : Bool) (o : Outcome) (b : Option ProvedBound) (c : Clock) → AskedSearch P t (without_gap asks) start o b c → SearchFrom P t start o c
  plain_search asks o b c s = record { last = s.last; comes = asked_from (without_gap asks) s.last s.carried s.numbers s.comes; ends = plain_ends asks s.last s.numbers o c s.ends }

  pub plain_answer : (o : Outcome) (b : Option ProvedBound) (c : Clock) → IsAskedAnswer P t nothing start o b c → IsAnswerFrom P t start o c × (b ≡ None)
  plain_answer o b c (asked s) = (searched (plain_search false o b c s), s.has)
  plain_answer o b c (gave_up {m} {ks} {xs} k) = (given_up (asked_from nothing m ks xs k), refl)
  plain_answer o b c (gave_up_after {m} {ks} {xs} k r) = (given_up_after (asked_from nothing m ks xs k) r, refl)
  plain_answer o b c (gave_up_closing e comes over) = absurd (cc)

  abbrev Asks : Bool → SearchMoment → Type 0
  Asks asks m = (ks : List Carried) × (xs : List (Option Ratio)) × ComesAsked P t (without_gap asks) start m ks xs

  no_more : {X : Type 0} (xs : List X) → length xs ≡ 0 → xs ≡ []
  no_more [] e = refl
  no_more (x ∷ xs) e = absurd (cc)

  goes_asked : (asks : Bool) (m n : SearchMoment) (ks : List Carried) (xs : List (Option Ratio)) → ComesAsked P t (without_gap asks) start m ks xs → length ks ≡ length m.waiting → length xs ≡ length m.waiting → IsNextInSearch P t m (To n) → Asks asks n
  goes_asked asks m n ks xs c e f (inl (none, l)) =
      let zero : length m.waiting ≡ 0 = ap (λ (Cs : List Case). length Cs) none in
      let here = subst (λ ls. ComesAsked P t (without_gap asks) start m ls []) (no_more ks (e ∙ zero)) (subst (λ ys. ComesAsked P t (without_gap asks) start m ks ys) (no_more xs (f ∙ zero)) c) in
      (None ∷ [], None ∷ [], asked_level here none (inl (none, l)))
  goes_asked asks m n ks xs c e f (inr (inl (some, inl (limit, q)))) = absurd (cc)
  goes_asked asks m n ks xs c e f (inr (inl (some, inr (within, stop, q)))) = absurd (cc)
  goes_asked asks m n [] xs c e f (inr (inr v)) = let g : 0 ≡ suc (length v.visit.rest) = e ∙ ap (λ (Cs : List Case). length Cs) v.visit.is in absurd (cc)
  goes_asked asks m n (k ∷ ks) [] c e f (inr (inr v)) = let g : 0 ≡ suc (length v.visit.rest) = f ∙ ap (λ (Cs : List Case). length Cs) v.visit.is in absurd (cc)
  goes_asked asks m n (k ∷ ks) (x ∷ xs) c e f (inr (inr v)) =
      let part = goes_part P t v.visit.case v.visit.rest (record m { clock = v.clock }) (looked_once m.clock) v.end n v.goes in
      (map (λ C. carried_after v.visit.case.ray v.end k) part.new ++ ks, map (λ C. number_after v.visit.case.ray v.end x) part.new ++ xs, asked_on c (λ s. s.near) v part.new part.is)

  pub comes_asked : (asks : Bool) (m : SearchMoment) → ComesFrom P t start m → Asks asks m
  comes_asked asks m begins = (None ∷ [], None ∷ [], asked_first)
  comes_asked asks n (goes_on {m} c next) =
      let (ks, xs, k) = comes_asked asks m c in
      let both = counts P t (without_gap asks) start m ks xs k in
      goes_asked asks m n ks xs k both.0 both.1 next

  pub asked_back : (o : Outcome) (c : Clock) → IsAnswerFrom P t start o c → IsAskedAnswer P t nothing start o None c
  asked_back o c (searched s) =
      let (ks, xs, k) = comes_asked false s.last s.comes in
      asked (record { last = s.last; carried = ks; numbers = xs; comes = k; ends = ends (λ f. f.near) s.ends; has = refl })
  asked_back o c (given_up {m} k) = let (ks, xs, j) = comes_asked false m k in gave_up j
  asked_back o c (given_up_after {m} k r) = let (ks, xs, j) = comes_asked false m k in gave_up_after j r
