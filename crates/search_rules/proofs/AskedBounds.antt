-- What is found of the bound of an asked search, what is told of it, and that there is one outcome and one bound.
use Rattle.std.proofs.Common.{◌≡◌, inr, Bool, true, false, Option, None, Some, IfSome, List, [], ◌∷◌, ◌++◌, map, refl, sym, ◌∙◌, ap, subst}
use Rattle.rational.specs.Ratio.{Ratio}
use Rattle.evidence.specs.Instance.{Problem, IsProblem}
use Rattle.evidence.specs.ProvedBounds.{ProvedBound, IsProvedBound}
use Rattle.evidence.specs.Claim.{Accepts}
use Rattle.certificate.specs.declared.causes.Cause.{Cause}
use Rattle.simplex_rules.specs.Ends.{Terms, Clock}
use Rattle.search_rules.specs.Branching.{Case}
use Rattle.search_rules.specs.Search.{Found, SearchMoment, Outcome, Optimal, Infeasible, Unbounded, BestSoFar, Unsure, To, Out, IsVisit, IsNextInSearch}
use Rattle.search_rules.specs.Outcomes.{IsPoint}
use Rattle.search_rules.specs.Bounds.{Carried, carried_after, IsBoundOf, IsShownBound, claimed}
use Rattle.search_rules.specs.Gaps as gaps
use Rattle.search_rules.specs.Gaps.{number_after, IsNearEnough}
use Rattle.search_rules.specs.Beginnings.{IsFirstBest, first_with}
use Rattle.search_rules.specs.Asked.{Asked, FindsBound, FindsAsked, TellsOf, StopsNear, EndsAsked, near, ends, ComesAsked, asked_first, asked_on, asked_level, AskedSearch, IsAskedAnswer, asked, gave_up, gave_up_after, gave_up_closing}
use Rattle.search_rules.proofs.Moments.{Holds, next_holds}
use Rattle.search_rules.proofs.OneOutcome.{next_once}
use Rattle.search_rules.proofs.OpenBounds.{AllCarry, bound_shown}
use Rattle.search_rules.proofs.BoundLaws.{is_one, has_values, Steps, visits, climbs, step_once}
use Rattle.search_rules.proofs.FirstPoints.{first_holds, first_once}
use Rattle.search_rules.proofs.AskedSearches.{asked_hold, answer_shown}
use Rattle.search_rules.proofs.NearSearches.{AllNumbered, to_carry, visit_numbered, level_numbered}
use Rattle.search_rules.proofs.AskedCases.{carry}

-- what is told is proved
pub told_proved : (P : Problem) (b d : Option ProvedBound) → TellsOf P b d → IfSome d (λ d. IsProvedBound P d)
told_proved P b None tells = tt
told_proved P None (Some d) tells = absurd (cc)
told_proved P (Some b) (Some d) tells = subst (IsProvedBound P) (sym tells.0) tells.1

module _ (P : Problem) (t : Terms) (a : Asked) (good : IsProblem P) (gs : Option (List (Option Ratio))) (start : Option Found) (is_first : IsFirstBest P gs start) where
  -- a bound that is found is shown
  pub found_shown : (o : Outcome) (d : Option ProvedBound) (b : ProvedBound) (c : Clock) → d ≡ Some b → IsAskedAnswer P t a start o d c → IsShownBound P b
  found_shown o d b c e (asked s) = by a.bound o d e s.has
    where
      shown : IsBoundOf P s.last s.carried b → IsShownBound P b
      shown is = bound_shown P s.last s.carried (asked_hold P t a good gs start is_first s.last s.carried s.numbers s.comes) (carry P t a good gs start is_first s.last s.carried s.numbers s.comes) b is

      by : (asks : Bool) (o : Outcome) (d : Option ProvedBound) → d ≡ Some b → FindsAsked P asks s.last s.carried o d → IsShownBound P b
      by asks o None e h = absurd (cc)
      by false o (Some x) e h = absurd (cc)
      by true (Optimal x vs cs) (Some y) e h = absurd (cc)
      by true (Infeasible x) (Some y) e h = absurd (cc)
      by true (Unbounded x vs cs r) (Some y) e h = absurd (cc)
      by true (BestSoFar x vs k) (Some y) e h = let same : y ≡ b = cc in shown (subst (λ y. IsBoundOf P s.last s.carried y) same h.0)
      by true (Unsure k) (Some y) e h = let same : y ≡ b = cc in shown (subst (λ y. IsBoundOf P s.last s.carried y) same h.0)
  found_shown o d b c e (gave_up k) = absurd (cc)
  found_shown o d b c e (gave_up_after k r) = absurd (cc)
  found_shown o d b c e (gave_up_closing q comes over) = absurd (cc)

  -- and so what is told is accepted
  pub best_accepted : (x vs : List Ratio) (k : Cause) (b : Option ProvedBound) (c : Clock) → AskedSearch P t a start (BestSoFar x vs k) b c → (d : Option ProvedBound) → TellsOf P b d → Accepts P (claimed (BestSoFar x vs k) d)
  best_accepted x vs k b c s d tells =
      let point : IsPoint P x vs = answer_shown P t a good gs start is_first (BestSoFar x vs k) b c (asked s) in
      (has_values P x vs point, point.fits, told_proved P b d tells)

-- one bound of a moment
module _ (P : Problem) (good : IsProblem P) (m : SearchMoment) (ks : List Carried) (h : Holds P m) (all : AllCarry m.waiting ks) where
  found_once : (b d : Option ProvedBound) → FindsBound P m ks b → FindsBound P m ks d → b ≡ d
  found_once None None x y = refl
  found_once None (Some d) x y = absurd (x d y.0 y.1)
  found_once (Some b) None x y = absurd (y b x.0 x.1)
  found_once (Some b) (Some d) x y = ap (λ b. Some b) (is_one P good m ks h all b d x.0 y.0)

  has_once : (asks : Bool) (o : Outcome) (b d : Option ProvedBound) → FindsAsked P asks m ks o b → FindsAsked P asks m ks o d → b ≡ d
  has_once false o b d p q = p ∙ sym q
  has_once true (Optimal x vs cs) b d p q = p ∙ sym q
  has_once true (Infeasible k) b d p q = p ∙ sym q
  has_once true (Unbounded x vs cs r) b d p q = p ∙ sym q
  has_once true (BestSoFar x vs k) b d p q = found_once b d p q
  has_once true (Unsure k) b d p q = found_once b d p q

-- one answer of a search that comes to its end
module _ (P : Problem) (t : Terms) (a : Asked) (good : IsProblem P) where
  -- one step, with both that the open cases have
  data AskedStep : SearchMoment → List Carried → List (Option Ratio) → SearchMoment → List Carried → List (Option Ratio) → Type 0 where
    visits_asked : {m n : SearchMoment} {k : Carried} {ks : List Carried} {x : Option Ratio} {xs : List (Option Ratio)} → (v : IsVisit P t m (To n)) → (new : List Case) → n.waiting ≡ new ++ v.visit.rest
        → AskedStep m (k ∷ ks) (x ∷ xs) n (map (λ C. carried_after v.visit.case.ray v.end k) new ++ ks) (map (λ C. number_after v.visit.case.ray v.end x) new ++ xs)
    climbs_asked : {m n : SearchMoment} → m.waiting ≡ [] → IsNextInSearch P t m (To n) → AskedStep m [] [] n (None ∷ []) (None ∷ [])

  carried_step : (m : SearchMoment) (ks : List Carried) (xs : List (Option Ratio)) (n : SearchMoment) (ls : List Carried) (ys : List (Option Ratio)) → AskedStep m ks xs n ls ys → Steps P t good carried_after None m ks n ls
  carried_step m ks xs n ls ys (visits_asked v new is) = visits v new is
  carried_step m ks xs n ls ys (climbs_asked empty next) = climbs empty next

  number_step : (m : SearchMoment) (ks : List Carried) (xs : List (Option Ratio)) (n : SearchMoment) (ls : List Carried) (ys : List (Option Ratio)) → AskedStep m ks xs n ls ys → Steps P t good number_after None m xs n ys
  number_step m ks xs n ls ys (visits_asked v new is) = visits v new is
  number_step m ks xs n ls ys (climbs_asked empty next) = climbs empty next

  asked_next : (m : SearchMoment) (ks : List Carried) (xs : List (Option Ratio)) (n : SearchMoment) (ls : List Carried) (ys : List (Option Ratio)) → AskedStep m ks xs n ls ys → IsNextInSearch P t m (To n)
  asked_next m ks xs n ls ys (visits_asked v new is) = inr (inr v)
  asked_next m ks xs n ls ys (climbs_asked empty next) = next

  numbered_on : (m : SearchMoment) (ks : List Carried) (xs : List (Option Ratio)) (n : SearchMoment) (ls : List Carried) (ys : List (Option Ratio)) → Holds P m → AskedStep m ks xs n ls ys → AllNumbered m.waiting ks xs → AllNumbered n.waiting ls ys
  numbered_on m gs zs n ls ys h (visits_asked {k} {ks} {x} {xs} v new is) all = visit_numbered P t good m n h (next_holds P t m n h (inr (inr v))) k x ks xs v new is all
  numbered_on m gs zs n ls ys h (climbs_asked empty next) all = level_numbered P t good m n empty next

  -- where no case is left it isn't near
  never_near : (m : SearchMoment) → StopsNear P t a m [] → ⊥
  never_near m s = by a.gap s.near
    where
      by : (g : Option gaps.Gap) → IsNearEnough P g m [] → ⊥
      by None h = h
      by (Some g) h = h.some refl

  -- the moments from one on, to the end
  data HaltsAsked : SearchMoment → List Carried → List (Option Ratio) → Outcome → Option ProvedBound → Clock → Type 0 where
    now_asked : {m : SearchMoment} {ks : List Carried} {xs : List (Option Ratio)} {o : Outcome} {b : Option ProvedBound} {c : Clock} → EndsAsked P t a m xs o c → FindsAsked P a.bound m ks o b → HaltsAsked m ks xs o b c
    later_asked : {m n : SearchMoment} {ks ls : List Carried} {xs ys : List (Option Ratio)} {o : Outcome} {b : Option ProvedBound} {c : Clock} → (StopsNear P t a m xs → ⊥) → AskedStep m ks xs n ls ys → HaltsAsked n ls ys o b c → HaltsAsked m ks xs o b c

  from_first_asked : (start : Option Found) (m : SearchMoment) (ks : List Carried) (xs : List (Option Ratio)) (o : Outcome) (b : Option ProvedBound) (c : Clock) → ComesAsked P t a start m ks xs → HaltsAsked m ks xs o b c → HaltsAsked (first_with P start) (None ∷ []) (None ∷ []) o b c
  from_first_asked start m ks xs o b c asked_first h = h
  from_first_asked start n ls ys o b c (asked_on {m} {k} {ks} {x} {xs} before far v new is) h = from_first_asked start m (k ∷ ks) (x ∷ xs) o b c before (later_asked far (visits_asked v new is) h)
  from_first_asked start n ls ys o b c (asked_level {m} before empty next) h = from_first_asked start m [] [] o b c before (later_asked (never_near m) (climbs_asked empty next) h)

  ends_once : (m : SearchMoment) (xs : List (Option Ratio)) (o : Outcome) (c : Clock) → Holds P m → EndsAsked P t a m xs o c → (p : Outcome) (d : Clock) → EndsAsked P t a m xs p d → (o ≡ p) × (c ≡ d)
  ends_once m xs o c h (near s) p d (near u) = (refl, refl)
  ends_once m xs o c h (near s) p d (ends far next) = absurd (far s)
  ends_once m xs o c h (ends far next) p d (near u) = absurd (far u)
  ends_once m xs o c h (ends far next) p d (ends off other) = let q = next_once P good t m (Out o c) (Out p d) h next other in (cc, cc)

  never_goes : (m : SearchMoment) (ks : List Carried) (xs : List (Option Ratio)) (n : SearchMoment) (ls : List Carried) (ys : List (Option Ratio)) (o : Outcome) (c : Clock) → Holds P m → EndsAsked P t a m xs o c → (StopsNear P t a m xs → ⊥) → AskedStep m ks xs n ls ys → ⊥
  never_goes m ks xs n ls ys o c h (near s) far step = far s
  never_goes m ks xs n ls ys o c h (ends off next) far step = let q = next_once P good t m (Out o c) (To n) h next (asked_next m ks xs n ls ys step) in cc

  halts_asked_once : (m : SearchMoment) (ks : List Carried) (xs : List (Option Ratio)) (o : Outcome) (b : Option ProvedBound) (c : Clock) → Holds P m → AllNumbered m.waiting ks xs → HaltsAsked m ks xs o b c
      → (i : SearchMoment) (js : List Carried) (zs : List (Option Ratio)) (p : Outcome) (d : Option ProvedBound) (e : Clock) → i ≡ m → js ≡ ks → zs ≡ xs → HaltsAsked i js zs p d e → (o ≡ p) × (b ≡ d) × (c ≡ e)
  halts_asked_once m ks xs o b c h all (now_asked end has) i js zs p d e f g k (now_asked last had) =
      let there : EndsAsked P t a m xs p e = subst (λ zs. EndsAsked P t a m zs p e) k (subst (λ s. EndsAsked P t a s zs p e) f last) in
      let q = ends_once m xs o c h end p e there in
      let own : FindsAsked P a.bound m ks o d = subst (λ u. FindsAsked P a.bound m ks u d) (sym q.0) (subst (λ ls. FindsAsked P a.bound m ls p d) g (subst (λ s. FindsAsked P a.bound s js p d) f had)) in
      (q.0, has_once P good m ks h (to_carry m.waiting ks xs all) a.bound o b d has own, q.1)
  halts_asked_once m ks xs o b c h all (now_asked end has) i js zs p d e f g k (later_asked {n} {ls} {ys} far step rest) =
      let there : AskedStep m ks xs n ls ys = subst (λ s. AskedStep s ks xs n ls ys) f (subst (λ js. AskedStep i js xs n ls ys) g (subst (λ zs. AskedStep i js zs n ls ys) k step)) in
      let off : StopsNear P t a m xs → ⊥ = subst (λ s. StopsNear P t a s xs → ⊥) f (subst (λ zs. StopsNear P t a i zs → ⊥) k far) in
      absurd (never_goes m ks xs n ls ys o c h end off there)
  halts_asked_once m ks xs o b c h all (later_asked {n} {ls} {ys} far step rest) i js zs p d e f g k (now_asked last had) =
      let there : EndsAsked P t a m xs p e = subst (λ zs. EndsAsked P t a m zs p e) k (subst (λ s. EndsAsked P t a s zs p e) f last) in
      absurd (never_goes m ks xs n ls ys p e h there far step)
  halts_asked_once m ks xs o b c h all (later_asked {n} {ls} {ys} far step rest) i js zs p d e f g k (later_asked {n = u} {ls = us} {ys = ws} off other more) =
      let both = step_once P t good carried_after None m ks n ls h (carried_step m ks xs n ls ys step) i js u us f g (carried_step i js zs u us ws other) in
      let numbers = step_once P t good number_after None m xs n ys h (number_step m ks xs n ls ys step) i zs u ws f k (number_step i js zs u us ws other) in
      halts_asked_once n ls ys o b c (next_holds P t m n h (asked_next m ks xs n ls ys step)) (numbered_on m ks xs n ls ys h step all) rest u us ws p d e (sym both.0) (sym both.1) (sym numbers.1) more

  pub asked_once : (gs : Option (List (Option Ratio))) (i j : Option Found) (o p : Outcome) (b d : Option ProvedBound) (c e : Clock) → IsFirstBest P gs i → IsFirstBest P gs j → AskedSearch P t a i o b c → AskedSearch P t a j p d e → (o ≡ p) × (b ≡ d) × (c ≡ e)
  asked_once gs i j o p b d c e is other s w =
      let u = subst (λ start. AskedSearch P t a start p d e) (sym (first_once P gs i j good is other)) w in
      halts_asked_once (first_with P i) (None ∷ []) (None ∷ []) o b c (first_holds P t good gs i is) (tt, tt) (from_first_asked i s.last s.carried s.numbers o b c s.comes (now_asked s.ends s.has)) (first_with P i) (None ∷ []) (None ∷ []) p d e refl refl refl
      (from_first_asked i u.last u.carried u.numbers p d e u.comes (now_asked u.ends u.has))

pub unsure_accepted : (P : Problem) (k : Cause) (b : Option ProvedBound) (d : ProvedBound) → TellsOf P b (Some d) → Accepts P (claimed (Unsure k) (Some d))
unsure_accepted P k b d tells = told_proved P b (Some d) tells
