-- A search by legal rules none of whose choices has two answers has one outcome, one bound or none, and one clock, whatever is asked of it.
use Rattle.std.proofs.Common.{◌≡◌, inr, Option, None, Some, List, [], ◌∷◌, ◌++◌, map, refl, sym, ◌∙◌, ap, ap₂, subst}
use Rattle.std.specs.Option.{is_some}
use Rattle.std.proofs.lemmas.List.{append_cancel_right}
use Rattle.rational.specs.Ratio.{Ratio}
use Rattle.evidence.specs.Instance.{Problem, IsInstance, IsProblem}
use Rattle.evidence.specs.ProvedBounds.{ProvedBound}
use Rattle.simplex_rules.specs.Ends.{Terms, Clock}
use Rattle.simplex_rules.specs.Runs.{looked_once}
use Rattle.simplex_rules.specs.RuleRuns.{Finish, RunBy}
use Rattle.simplex_rules.proofs.RuleEnds.{run_once}
use Rattle.search_rules.specs.Branching.{Case}
use Rattle.search_rules.specs.Search.{Found, Outcome}
use Rattle.search_rules.specs.Bounds.{Carried}
use Rattle.search_rules.specs.Gaps as gaps
use Rattle.search_rules.specs.Gaps.{IsNearEnough}
use Rattle.search_rules.specs.Beginnings.{IsFirstBest}
use Rattle.search_rules.specs.Asked.{Asked, StopsNear}
use Rattle.search_rules.specs.RuleSearch.{SearchRules, AreLegalSearches, AreSingleSearches, MomentBy, On, Off, best_value, IsVisitBy, IsNextBy}
use Rattle.search_rules.specs.RuleAsked.{carried_by, number_by, FindsAskedBy, EndsAskedBy, near_by, ends_by, ComesAskedBy, begins_asked, visits_on, climbs_on, AskedSearchBy}
use Rattle.search_rules.proofs.Moments.{this}
use Rattle.search_rules.proofs.SidedMoments.{HoldsBy}
use Rattle.search_rules.proofs.FirstPoints.{first_once}
use Rattle.search_rules.proofs.NearSearches.{AllNumbered, to_carry}
use Rattle.search_rules.proofs.RuleSearches.{next_holds}
use Rattle.search_rules.proofs.RuleOutcomes.{next_once}
use Rattle.search_rules.proofs.RulePoints.{beginning, start_holds}
use Rattle.search_rules.proofs.RuleParts.{visit_numbers, level_numbers}
use Rattle.search_rules.proofs.RuleBounds.{has_once_by}

-- what the cases in place of one have, the one as the other
lists_same : {X : Type 0} (after : Option (List Ratio) → Finish → X → X) (C D : Case) (e f : Finish) (a b : List Case) (k l : X) (ks hs : List X) → C ≡ D → e ≡ f → a ≡ b → k ≡ l → ks ≡ hs
    → map (λ (K : Case). after C.ray e k) a ++ ks ≡ map (λ (K : Case). after D.ray f l) b ++ hs
lists_same {X} after C D e f a b k l ks hs c g new p q =
    let same : after C.ray e k ≡ after D.ray f l = ap₂ (λ (D : Case) (e : Finish). after D.ray e k) c g ∙ ap (λ (k : X). after D.ray f k) p in
    ap₂ (λ (x : X) (new : List Case). map (λ (K : Case). x) new ++ ks) same new ∙ ap (λ (hs : List X). map (λ (K : Case). after D.ray f l) b ++ hs) q

module _ (S : SearchRules) (legal : AreLegalSearches S) (single : AreSingleSearches S) (P : Problem) (t : Terms) (a : Asked) (good : IsProblem P) where
  -- two visits of one moment are of one case, with one end, and leave the same in its place
  visits_alike : (s i : MomentBy) → HoldsBy P s.moment s.turned → i ≡ s → (n o : MomentBy) → n ≡ o → (v : IsVisitBy S P t s (On n)) (w : IsVisitBy S P t i (On o)) (xs ys : List Case) → n.moment.waiting ≡ xs ++ v.visit.rest → o.moment.waiting ≡ ys ++ w.visit.rest
      → (v.visit.case ≡ w.visit.case) × (v.finish ≡ w.finish) × (xs ≡ ys)
  visits_alike s i h e n o f v w xs ys p q =
      let C = w.visit.case in
      let waits : s.moment.waiting ≡ C ∷ w.visit.rest = ap (λ (s : MomentBy). s.moment.waiting) (sym e) ∙ w.visit.is in
      let l : v.visit.case ∷ v.visit.rest ≡ C ∷ w.visit.rest = sym v.visit.is ∙ waits in
      let c : v.visit.case ≡ C = cc in
      let r : v.visit.rest ≡ w.visit.rest = cc in
      let numbers : IsInstance C.program = let o = this P C w.visit.rest s.moment waits h.holds in o.case.numbers in
      let mine = subst (λ D. RunBy S.runs D.program (is_some D.ray) t s.basis (best_value s.moment.level s.moment.best) (looked_once s.moment.clock) v.finish v.clock v.basis) c v.visit.run in
      let other = subst (λ (s : MomentBy). RunBy S.runs C.program (is_some C.ray) t s.basis (best_value s.moment.level s.moment.best) (looked_once s.moment.clock) w.finish w.clock w.basis) e w.visit.run in
      let once = run_once S.runs C.program (is_some C.ray) t s.basis (best_value s.moment.level s.moment.best) (looked_once s.moment.clock) v.finish w.finish v.clock w.clock v.basis w.basis legal.runs single.runs numbers mine other in
      let there : n.moment.waiting ≡ ys ++ w.visit.rest = ap (λ (s : MomentBy). s.moment.waiting) f ∙ q in
      let new : xs ≡ ys = append_cancel_right xs ys w.visit.rest (subst (λ s. xs ++ s ≡ ys ++ w.visit.rest) r (sym p ∙ there)) in
      (c, once.0, new)

  -- one step, with both that the open cases have
  data AskedStepBy : MomentBy → List Carried → List (Option Ratio) → MomentBy → List Carried → List (Option Ratio) → Type 0 where
    visits_by : {s n : MomentBy} {k : Carried} {ks : List Carried} {x : Option Ratio} {xs : List (Option Ratio)} → (v : IsVisitBy S P t s (On n)) → (new : List Case) → n.moment.waiting ≡ new ++ v.visit.rest
        → AskedStepBy s (k ∷ ks) (x ∷ xs) n (map (λ C. carried_by v.visit.case.ray v.finish k) new ++ ks) (map (λ C. number_by v.visit.case.ray v.finish x) new ++ xs)
    climbs_by : {s n : MomentBy} → s.moment.waiting ≡ [] → IsNextBy S P t s (On n) → AskedStepBy s [] [] n (None ∷ []) (None ∷ [])

  asked_next : (s : MomentBy) (ks : List Carried) (xs : List (Option Ratio)) (n : MomentBy) (ls : List Carried) (ys : List (Option Ratio)) → AskedStepBy s ks xs n ls ys → IsNextBy S P t s (On n)
  asked_next s ks xs n ls ys (visits_by v new is) = inr (inr v)
  asked_next s ks xs n ls ys (climbs_by empty next) = next

  -- and one next moment
  one_next : (s i : MomentBy) → HoldsBy P s.moment s.turned → i ≡ s → (n o : MomentBy) → IsNextBy S P t s (On n) → IsNextBy S P t i (On o) → n ≡ o
  one_next s i h e n o p q = let same = next_once S legal single P good t s (On n) (On o) h p (subst (λ i. IsNextBy S P t i (On o)) e q) in cc

  step_once : (s : MomentBy) (ks : List Carried) (xs : List (Option Ratio)) (n : MomentBy) (ls : List Carried) (ys : List (Option Ratio)) → HoldsBy P s.moment s.turned → AskedStepBy s ks xs n ls ys
      → (i : MomentBy) (js : List Carried) (zs : List (Option Ratio)) (o : MomentBy) (us : List Carried) (ws : List (Option Ratio)) → i ≡ s → js ≡ ks → zs ≡ xs → AskedStepBy i js zs o us ws → (n ≡ o) × (ls ≡ us) × (ys ≡ ws)
  step_once s gs rs n ls ys h (visits_by {k} {ks} {x} {xs} v new p) i js zs o us ws e f g (visits_by {k = l} {ks = hs} {x = y} {xs = vs} w other q) =
      let same : n ≡ o = one_next s i h e n o (inr (inr v)) (inr (inr w)) in
      let c : k ≡ l = cc in
      let d : ks ≡ hs = cc in
      let b : x ≡ y = cc in
      let r : xs ≡ vs = cc in
      let alike = visits_alike s i h e n o same v w new other p q in
      (same, lists_same carried_by v.visit.case w.visit.case v.finish w.finish new other k l ks hs alike.0 alike.1 alike.2 c d, lists_same number_by v.visit.case w.visit.case v.finish w.finish new other x y xs vs alike.0 alike.1 alike.2 b r)
  step_once s gs rs n ls ys h (visits_by v new p) i js zs o us ws e f g (climbs_by empty next) = absurd (cc)
  step_once s gs rs n ls ys h (climbs_by empty next) i js zs o us ws e f g (visits_by w other q) = absurd (cc)
  step_once s gs rs n ls ys h (climbs_by empty next) i js zs o us ws e f g (climbs_by vacant other) = (one_next s i h e n o next other, refl, refl)

  numbered_on : (s : MomentBy) (ks : List Carried) (xs : List (Option Ratio)) (n : MomentBy) (ls : List Carried) (ys : List (Option Ratio)) → HoldsBy P s.moment s.turned → AskedStepBy s ks xs n ls ys → AllNumbered s.moment.waiting ks xs → AllNumbered n.moment.waiting ls ys
  numbered_on s gs zs n ls ys h (visits_by {k} {ks} {x} {xs} v new is) all = visit_numbers S legal P t s n h (next_holds S legal P t s n h (inr (inr v))) k x ks xs v new is all
  numbered_on s gs zs n ls ys h (climbs_by empty next) all = level_numbers S legal P t s n empty next

  -- where no case is left it isn't near
  never_near : (s : MomentBy) → StopsNear P t a s.moment [] → ⊥
  never_near s n = by a.gap n.near
    where
      by : (g : Option gaps.Gap) → IsNearEnough P g s.moment [] → ⊥
      by None h = h
      by (Some g) h = h.some refl

  -- the moments from one on, to the end
  data HaltsAskedBy : MomentBy → List Carried → List (Option Ratio) → Outcome → Option ProvedBound → Clock → Type 0 where
    now_by : {s : MomentBy} {ks : List Carried} {xs : List (Option Ratio)} {o : Outcome} {b : Option ProvedBound} {c : Clock} → EndsAskedBy S P t a s xs o c → FindsAskedBy P a.bound s ks o b → HaltsAskedBy s ks xs o b c
    later_by : {s n : MomentBy} {ks ls : List Carried} {xs ys : List (Option Ratio)} {o : Outcome} {b : Option ProvedBound} {c : Clock} → (StopsNear P t a s.moment xs → ⊥) → AskedStepBy s ks xs n ls ys → HaltsAskedBy n ls ys o b c → HaltsAskedBy s ks xs o b c

  from_first_by : (start : Option Found) (s : MomentBy) (ks : List Carried) (xs : List (Option Ratio)) (o : Outcome) (b : Option ProvedBound) (c : Clock) → ComesAskedBy S P t a start s ks xs → HaltsAskedBy s ks xs o b c → HaltsAskedBy (beginning P start) (None ∷ []) (None ∷ []) o b c
  from_first_by start s ks xs o b c begins_asked h = h
  from_first_by start n ls ys o b c (visits_on {s} {k} {ks} {x} {xs} before far v new is) h = from_first_by start s (k ∷ ks) (x ∷ xs) o b c before (later_by far (visits_by v new is) h)
  from_first_by start n ls ys o b c (climbs_on {s} before empty next) h = from_first_by start s [] [] o b c before (later_by (never_near s) (climbs_by empty next) h)

  ends_once : (s : MomentBy) (xs : List (Option Ratio)) (o : Outcome) (c : Clock) → HoldsBy P s.moment s.turned → EndsAskedBy S P t a s xs o c → (p : Outcome) (d : Clock) → EndsAskedBy S P t a s xs p d → (o ≡ p) × (c ≡ d)
  ends_once s xs o c h (near_by n) p d (near_by u) = (refl, refl)
  ends_once s xs o c h (near_by n) p d (ends_by far next) = absurd (far n)
  ends_once s xs o c h (ends_by far next) p d (near_by u) = absurd (far u)
  ends_once s xs o c h (ends_by far next) p d (ends_by off other) = let q = next_once S legal single P good t s (Off o c) (Off p d) h next other in (cc, cc)

  never_goes : (s : MomentBy) (ks : List Carried) (xs : List (Option Ratio)) (n : MomentBy) (ls : List Carried) (ys : List (Option Ratio)) (o : Outcome) (c : Clock) → HoldsBy P s.moment s.turned → EndsAskedBy S P t a s xs o c → (StopsNear P t a s.moment xs → ⊥) → AskedStepBy s ks xs n ls ys → ⊥
  never_goes s ks xs n ls ys o c h (near_by u) far step = far u
  never_goes s ks xs n ls ys o c h (ends_by off next) far step = let q = next_once S legal single P good t s (Off o c) (On n) h next (asked_next s ks xs n ls ys step) in cc

  halts_asked_once : (s : MomentBy) (ks : List Carried) (xs : List (Option Ratio)) (o : Outcome) (b : Option ProvedBound) (c : Clock) → HoldsBy P s.moment s.turned → AllNumbered s.moment.waiting ks xs → HaltsAskedBy s ks xs o b c
      → (i : MomentBy) (js : List Carried) (zs : List (Option Ratio)) (p : Outcome) (d : Option ProvedBound) (e : Clock) → i ≡ s → js ≡ ks → zs ≡ xs → HaltsAskedBy i js zs p d e → (o ≡ p) × (b ≡ d) × (c ≡ e)
  halts_asked_once s ks xs o b c h all (now_by end has) i js zs p d e f g k (now_by last had) =
      let there : EndsAskedBy S P t a s xs p e = subst (λ zs. EndsAskedBy S P t a s zs p e) k (subst (λ r. EndsAskedBy S P t a r zs p e) f last) in
      let q = ends_once s xs o c h end p e there in
      let own : FindsAskedBy P a.bound s ks o d = subst (λ u. FindsAskedBy P a.bound s ks u d) (sym q.0) (subst (λ ls. FindsAskedBy P a.bound s ls p d) g (subst (λ r. FindsAskedBy P a.bound r js p d) f had)) in
      (q.0, has_once_by P s ks h (to_carry s.moment.waiting ks xs all) good a.bound o b d has own, q.1)
  halts_asked_once s ks xs o b c h all (now_by end has) i js zs p d e f g k (later_by {n} {ls} {ys} far step rest) =
      let there : AskedStepBy s ks xs n ls ys = subst (λ r. AskedStepBy r ks xs n ls ys) f (subst (λ js. AskedStepBy i js xs n ls ys) g (subst (λ zs. AskedStepBy i js zs n ls ys) k step)) in
      let off : StopsNear P t a s.moment xs → ⊥ = subst (λ (r : MomentBy). StopsNear P t a r.moment xs → ⊥) f (subst (λ zs. StopsNear P t a i.moment zs → ⊥) k far) in
      absurd (never_goes s ks xs n ls ys o c h end off there)
  halts_asked_once s ks xs o b c h all (later_by {n} {ls} {ys} far step rest) i js zs p d e f g k (now_by last had) =
      let there : EndsAskedBy S P t a s xs p e = subst (λ zs. EndsAskedBy S P t a s zs p e) k (subst (λ r. EndsAskedBy S P t a r zs p e) f last) in
      absurd (never_goes s ks xs n ls ys p e h there far step)
  halts_asked_once s ks xs o b c h all (later_by {n} {ls} {ys} far step rest) i js zs p d e f g k (later_by {n = u} {ls = us} {ys = ws} off other more) =
      let both = step_once s ks xs n ls ys h step i js zs u us ws f g k other in
      halts_asked_once n ls ys o b c (next_holds S legal P t s n h (asked_next s ks xs n ls ys step)) (numbered_on s ks xs n ls ys h step all) rest u us ws p d e (sym both.0) (sym both.1) (sym both.2) more

  pub asked_once_by : (gs : Option (List (Option Ratio))) (i j : Option Found) (o p : Outcome) (b d : Option ProvedBound) (c e : Clock) → IsFirstBest P gs i → IsFirstBest P gs j → AskedSearchBy S P t a i o b c → AskedSearchBy S P t a j p d e → (o ≡ p) × (b ≡ d) × (c ≡ e)
  asked_once_by gs i j o p b d c e is other s w =
      let u = subst (λ start. AskedSearchBy S P t a start p d e) (sym (first_once P gs i j good is other)) w in
      halts_asked_once (beginning P i) (None ∷ []) (None ∷ []) o b c (start_holds S legal P t good gs i is) (tt, tt) (from_first_by i s.last s.carried s.numbers o b c s.comes (now_by s.ends s.has)) (beginning P i) (None ∷ []) (None ∷ []) p d e refl refl refl
      (from_first_by i u.last u.carried u.numbers p d e u.comes (now_by u.ends u.has))
