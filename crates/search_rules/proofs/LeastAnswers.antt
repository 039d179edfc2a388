-- Whatever is asked of a search by the least variable and the rules of least indices, it is the search of which that is asked.
use Rattle.std.proofs.Common.{◌≡◌, inl, inr, Bool, true, false, Option, None, Some, List, [], ◌∷◌, ◌++◌, map, refl, sym, ◌∙◌, ap, ap₂, subst}
use Rattle.rational.specs.Ratio.{Ratio}
use Rattle.evidence.specs.Instance.{Problem}
use Rattle.evidence.specs.ProvedBounds.{ProvedBound}
use Rattle.simplex_rules.specs.Ends.{Terms, Clock}
use Rattle.simplex_rules.specs.Rules.{Given}
use Rattle.simplex_rules.specs.RuleRuns.{Finish, Ends}
use Rattle.search_rules.specs.Branching.{Case}
use Rattle.search_rules.specs.Search.{Found, SearchMoment, NextOfSearch, Outcome, Optimal, Infeasible, Unbounded, BestSoFar, Unsure, To, Out, IsVisit, IsNextInSearch}
use Rattle.search_rules.specs.Bounds.{Carried, carried_after, IsOpenBound, IsBoundOf}
use Rattle.search_rules.specs.Gaps.{number_after}
use Rattle.search_rules.specs.Asked.{Asked, FindsBound, FindsAsked, EndsAsked, near, ends, ComesAsked, asked_first, asked_on, asked_level, IsAskedAnswer, asked, gave_up, gave_up_after, gave_up_closing}
use Rattle.search_rules.specs.RuleSearch.{MomentBy, On, with_basis, bland_search}
use Rattle.search_rules.specs.RuleAsked.{carried_by, number_by, placed_bound, IsBoundBy, FindsBoundBy, FindsAskedBy, EndsAskedBy, near_by, ends_by, ComesAskedBy, begins_asked, visits_on, climbs_on, IsAskedAnswerBy, asked_by, gave_up_by, gave_up_after_by, gave_up_closing_by}
use Rattle.search_rules.proofs.LeastSearches.{held, visit_on, visit_back, next_on, next_back, out_back, case_on, case_back}

-- where the case of at least k + 1 came first behind no node, the bounds are the same
module _ (P : Problem) (s : MomentBy) (low : s.turned ≡ []) (ks : List Carried) where
  bound_on : (b : ProvedBound) → IsBoundOf P s.moment ks b → IsBoundBy P s ks b
  bound_on b (inl o) = inl (b, o, sym (ap (λ ts. placed_bound ts b) low))
  bound_on b (inr r) = inr r

  bound_back : (b : ProvedBound) → IsBoundBy P s ks b → IsBoundOf P s.moment ks b
  bound_back b (inl (d, o, e)) = let same : b ≡ d = e ∙ ap (λ ts. placed_bound ts d) low in inl (subst (λ b. IsOpenBound P s.moment ks b) (sym same) o)
  bound_back b (inr r) = inr r

  finds_on : (b : Option ProvedBound) → FindsBound P s.moment ks b → FindsBoundBy P s ks b
  finds_on None none = λ b is fit. none b (bound_back b is) fit
  finds_on (Some b) f = (bound_on b f.0, f.1)

  finds_back : (b : Option ProvedBound) → FindsBoundBy P s ks b → FindsBound P s.moment ks b
  finds_back None none = λ b is fit. none b (bound_on b is) fit
  finds_back (Some b) f = (bound_back b f.0, f.1)

  has_on : (asks : Bool) (o : Outcome) (b : Option ProvedBound) → FindsAsked P asks s.moment ks o b → FindsAskedBy P asks s ks o b
  has_on false o b e = e
  has_on true (Optimal x vs cs) b e = e
  has_on true (Infeasible c) b e = e
  has_on true (Unbounded x vs cs r) b e = e
  has_on true (BestSoFar x vs c) b f = finds_on b f
  has_on true (Unsure c) b f = finds_on b f

  has_back : (asks : Bool) (o : Outcome) (b : Option ProvedBound) → FindsAskedBy P asks s ks o b → FindsAsked P asks s.moment ks o b
  has_back false o b e = e
  has_back true (Optimal x vs cs) b e = e
  has_back true (Infeasible c) b e = e
  has_back true (Unbounded x vs cs r) b e = e
  has_back true (BestSoFar x vs c) b f = finds_back b f
  has_back true (Unsure c) b f = finds_back b f

module _ (P : Problem) (t : Terms) (a : Asked) where
  ends_on : (m : SearchMoment) (g : Given) (xs : List (Option Ratio)) (o : Outcome) (c : Clock) → EndsAsked P t a m xs o c → EndsAskedBy bland_search P t a (held P t m g) xs o c
  ends_on m g xs o c (near n) = near_by n
  ends_on m g xs o c (ends far next) = let r = next_on P t m g (Out o c) next in ends_by far r.1

  ends_back : (s : MomentBy) (xs : List (Option Ratio)) (o : Outcome) (c : Clock) → s.turned ≡ [] → EndsAskedBy bland_search P t a s xs o c → EndsAsked P t a s.moment xs o c
  ends_back s xs o c low (near_by n) = near n
  ends_back s xs o c low (ends_by far next) = ends far (out_back P t s o c low next)

  module _ (start : Option Found) where
    comes_on : (m : SearchMoment) (ks : List Carried) (xs : List (Option Ratio)) → ComesAsked P t a start m ks xs → (g : Given) × ComesAskedBy bland_search P t a start (held P t m g) ks xs
    comes_on m ks xs asked_first = (None, begins_asked)
    comes_on n ls ys (asked_on {m} {k} {ks} {x} {xs} c far v new is) =
        let r = comes_on m (k ∷ ks) (x ∷ xs) c in
        let (h, w, p, q, f) = visit_on P t m r.0 (To n) v in
        let there : n.waiting ≡ new ++ w.visit.rest = is ∙ ap (λ (rest : List Case). new ++ rest) (sym q) in
        let here = visits_on {s = held P t m r.0} {n = held P t n h} r.1 far w new there in
        let one : carried_by w.visit.case.ray w.finish k ≡ carried_after v.visit.case.ray v.end k = ap₂ (λ (D : Case) (f : Finish). carried_by D.ray f k) p f in
        let other : number_by w.visit.case.ray w.finish x ≡ number_after v.visit.case.ray v.end x = ap₂ (λ (D : Case) (f : Finish). number_by D.ray f x) p f in (
          h,
          subst (λ ys. ComesAskedBy bland_search P t a start (held P t n h) (map (λ C. carried_after v.visit.case.ray v.end k) new ++ ks) ys) (ap (λ (y : Option Ratio). map (λ (C : Case). y) new ++ xs) other)
              (subst (λ ls. ComesAskedBy bland_search P t a start (held P t n h) ls (map (λ C. number_by w.visit.case.ray w.finish x) new ++ xs)) (ap (λ (l : Carried). map (λ (C : Case). l) new ++ ks) one) here),
        )
    comes_on n ls ys (asked_level {m} c none next) =
        let r = comes_on m [] [] c in
        let q = next_on P t m r.0 (To n) next in
        (q.0, climbs_on {s = held P t m r.0} {n = held P t n q.0} r.1 none q.1)

    comes_back : (s : MomentBy) (ks : List Carried) (xs : List (Option Ratio)) → ComesAskedBy bland_search P t a start s ks xs → (s.turned ≡ []) × ComesAsked P t a start s.moment ks xs
    comes_back s ks xs begins_asked = (refl, asked_first)
    comes_back n ls ys (visits_on {s} {k} {ks} {x} {xs} c far v new is) = let i = comes_back s (k ∷ ks) (x ∷ xs) c in let r = visit_back P t s (On n) i.0 v in by i.1 r.0 r.1 r.2 r.3 r.4 r.5 r.6
      where
        by : ComesAsked P t a start s.moment (k ∷ ks) (x ∷ xs) → (b : NextOfSearch) (h : Given) → On n ≡ with_basis h [] b → (w : IsVisit P t s.moment b) → w.visit.case ≡ v.visit.case → w.visit.rest ≡ v.visit.rest → v.finish ≡ Ends w.end
            → (n.turned ≡ []) × ComesAsked P t a start n.moment (map (λ C. carried_by v.visit.case.ray v.finish k) new ++ ks) (map (λ C. number_by v.visit.case.ray v.finish x) new ++ xs)
        by j (To l) h e w p q f =
            let same : l ≡ n.moment = cc in
            let low : n.turned ≡ [] = cc in
            let there : l.waiting ≡ new ++ w.visit.rest = ap (λ (m : SearchMoment). m.waiting) same ∙ is ∙ ap (λ (rest : List Case). new ++ rest) (sym q) in
            let here = asked_on {m = s.moment} {n = l} j far w new there in
            let one : carried_after w.visit.case.ray w.end k ≡ carried_by v.visit.case.ray v.finish k = ap₂ (λ (D : Case) (f : Finish). carried_by D.ray f k) p (sym f) in
            let other : number_after w.visit.case.ray w.end x ≡ number_by v.visit.case.ray v.finish x = ap₂ (λ (D : Case) (f : Finish). number_by D.ray f x) p (sym f) in
            let carried = subst (λ ls. ComesAsked P t a start l ls (map (λ C. number_after w.visit.case.ray w.end x) new ++ xs)) (ap (λ (l : Carried). map (λ (C : Case). l) new ++ ks) one) here in
            let numbered = subst (λ ys. ComesAsked P t a start l (map (λ C. carried_by v.visit.case.ray v.finish k) new ++ ks) ys) (ap (λ (y : Option Ratio). map (λ (C : Case). y) new ++ xs) other) carried in
            (low, subst (λ (m : SearchMoment). ComesAsked P t a start m (map (λ C. carried_by v.visit.case.ray v.finish k) new ++ ks) (map (λ C. number_by v.visit.case.ray v.finish x) new ++ xs)) same numbered)
        by j (Out o d) h e w p q f = absurd (cc)
    comes_back n ls ys (climbs_on {s} c none next) = let i = comes_back s [] [] c in let r = next_back P t s (On n) i.0 next in by i.1 r.0 r.1 r.2 r.3
      where
        by : ComesAsked P t a start s.moment [] [] → (b : NextOfSearch) (h : Given) → On n ≡ with_basis h [] b → IsNextInSearch P t s.moment b → (n.turned ≡ []) × ComesAsked P t a start n.moment (None ∷ []) (None ∷ [])
        by j (To l) h e y = let same : l ≡ n.moment = cc in let low : n.turned ≡ [] = cc in (low, subst (λ (m : SearchMoment). ComesAsked P t a start m (None ∷ []) (None ∷ [])) same (asked_level {m = s.moment} {n = l} j none y))
        by j (Out o d) h e y = absurd (cc)

    pub asked_by_least : (o : Outcome) (b : Option ProvedBound) (c : Clock) → IsAskedAnswer P t a start o b c → IsAskedAnswerBy bland_search P t a start o b c
    asked_by_least o b c (asked s) =
        let r = comes_on s.last s.carried s.numbers s.comes in
        asked_by (record { last = held P t s.last r.0; carried = s.carried; numbers = s.numbers; comes = r.1; ends = ends_on s.last r.0 s.numbers o c s.ends; has = has_on P (held P t s.last r.0) refl s.carried a.bound o b s.has })
    asked_by_least o b c (gave_up {m} {ks} {xs} k) = let r = comes_on m ks xs k in gave_up_by {s = held P t m r.0} r.1
    asked_by_least o b c (gave_up_after {m} {ks} {xs} {e} {c = d} k v) =
        let r = comes_on m ks xs k in
        let n = case_on P t m r.0 e d v in
        gave_up_after_by {s = held P t m r.0} {f = Ends e} {h = n.0} r.1 n.1
    asked_by_least o b c (gave_up_closing {m} {ks} {xs} {o = p} {c = d} q k over) = let r = comes_on m ks xs k in gave_up_closing_by {s = held P t m r.0} q r.1 (ends_on m r.0 xs p d over)

    pub least_asked : (o : Outcome) (b : Option ProvedBound) (c : Clock) → IsAskedAnswerBy bland_search P t a start o b c → IsAskedAnswer P t a start o b c
    least_asked o b c (asked_by s) =
        let k = comes_back s.last s.carried s.numbers s.comes in
        asked (record { last = s.last.moment; carried = s.carried; numbers = s.numbers; comes = k.1; ends = ends_back s.last s.numbers o c k.0 s.ends; has = has_back P s.last k.0 s.carried a.bound o b s.has })
    least_asked o b c (gave_up_by {s} {ks} {xs} k) = let q = comes_back s ks xs k in gave_up {m = s.moment} q.1
    least_asked o b c (gave_up_after_by {s} {ks} {xs} {f} {c = d} {h} k v) =
        let q = comes_back s ks xs k in
        let r = case_back P t s f d h v in
        gave_up_after {m = s.moment} {e = r.0} q.1 r.1
    least_asked o b c (gave_up_closing_by {s} {ks} {xs} {o = p} {c = d} e k over) = let q = comes_back s ks xs k in gave_up_closing {m = s.moment} e q.1 (ends_back s xs p d q.0 over)
