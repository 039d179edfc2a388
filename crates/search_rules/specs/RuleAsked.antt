-- The search by rules that is asked for: it may begin with a point, stop where its best point is near enough to the bound, and tell its bound where it is given up.
use Rattle.std.specs.Prelude.{◌≡◌, ℕ, ◌⊎◌, Bool, true, false, Option, None, Some, List, [], ◌∷◌, ◌++◌, map}
use Rattle.rational.specs.Ratio.{Ratio}
use Rattle.evidence.specs.Instance.{Problem}
use Rattle.evidence.specs.Rounds.{Certificate}
use Rattle.evidence.specs.ProvedBounds.{ProvedBound}
use Rattle.certificate.specs.declared.causes.Cause.TheVariants.{Gap, Memory}
use Rattle.simplex_rules.specs.Ends.{Terms, Clock}
use Rattle.simplex_rules.specs.Rules.{Given}
use Rattle.simplex_rules.specs.RuleRuns.{Finish, Ends, Passed}
use Rattle.search_rules.specs.Branching.{Case}
use Rattle.search_rules.specs.Search.{Found, Outcome, BestSoFar, Unsure, early}
use Rattle.search_rules.specs.Bounds.{Carried, carried_after, IsOpenBound, IsReachedBound}
use Rattle.search_rules.specs.Gaps.{number_after}
use Rattle.search_rules.specs.Beginnings.{first_with}
use Rattle.search_rules.specs.Asked.{Asked, AllOpenFit, StopsNear}
use Rattle.search_rules.specs.Sides.{told}
use Rattle.search_rules.specs.RuleSearch.{SearchRules, MomentBy, On, Off, IsRunOfCase, IsVisitBy, IsNextBy}

-- after the run of a case that carried k; a bound that was enough closes the case, so that nothing carries on
abbrev pub carried_by : Option (List Ratio) → Finish → Carried → Carried
carried_by ray (Ends e) k = carried_after ray e k
carried_by ray (Passed b ms) k = k

-- and of one that had the value x
abbrev pub number_by : Option (List Ratio) → Finish → Option Ratio → Option Ratio
number_by ray (Ends e) x = number_after ray e x
number_by ray (Passed b ms) x = x

-- its nodes as they are told, those at these places having had the case of at least k + 1 first
abbrev pub placed_certificate : List ℕ → Certificate → Certificate
placed_certificate ts c = record { rounds = c.rounds; nodes = told ts c.nodes }

abbrev pub placed_bound : List ℕ → ProvedBound → ProvedBound
placed_bound ts b = record { number = b.number; certificate = placed_certificate ts b.certificate }

-- the bound at a moment: that of the open cases, the nodes so far and then the leaves told as a certificate has them; or the value that the first level reached
abbrev pub IsBoundBy : Problem → MomentBy → List Carried → ProvedBound → Type 0
IsBoundBy P s ks b = ((d : ProvedBound) × IsOpenBound P s.moment ks d × (b ≡ placed_bound s.turned d)) ⊎ IsReachedBound s.moment b

-- the bound that is found at a moment that is given up: its bound, where it has one and the sums of its open cases fit
abbrev pub FindsBoundBy : Problem → MomentBy → List Carried → Option ProvedBound → Type 0
FindsBoundBy P s ks None = (b : ProvedBound) → IsBoundBy P s ks b → AllOpenFit s.moment ks → ⊥
FindsBoundBy P s ks (Some b) = IsBoundBy P s ks b × AllOpenFit s.moment ks

-- an outcome has a bound only where the search is given up, and one is asked for
abbrev pub FindsAskedBy : Problem → Bool → MomentBy → List Carried → Outcome → Option ProvedBound → Type 0
FindsAskedBy P false s ks o b = b ≡ None
FindsAskedBy P true s ks (BestSoFar x vs c) b = FindsBoundBy P s ks b
FindsAskedBy P true s ks (Unsure c) b = FindsBoundBy P s ks b
FindsAskedBy P true s ks o b = b ≡ None

-- P is searched by rules S within these terms
module _ (S : SearchRules) (P : Problem) (t : Terms) (a : Asked) where
  -- how it ends from a moment: it is near enough, behind the limit of nodes and before the look; or as each search by these rules does
  pub data EndsAskedBy (s : MomentBy) (xs : List (Option Ratio)) : Outcome → Clock → Type 0 where
    near_by : StopsNear P t a s.moment xs → EndsAskedBy s xs (early s.moment.best Gap) s.moment.clock
    ends_by : {o : Outcome} {c : Clock} → (StopsNear P t a s.moment xs → ⊥) → IsNextBy S P t s (Off o c) → EndsAskedBy s xs o c

-- and from this best point on, or from none
module _ (S : SearchRules) (P : Problem) (t : Terms) (a : Asked) (start : Option Found) where
  -- a moment of the search, with what its open cases carry and the numbers that they are bounded by, the next one first: none before it was near enough
  pub data ComesAskedBy : MomentBy → List Carried → List (Option Ratio) → Type 0 where
    begins_asked : ComesAskedBy (record { moment = first_with P start; basis = None; turned = [] }) (None ∷ []) (None ∷ [])
    visits_on : {s n : MomentBy} {k : Carried} {ks : List Carried} {x : Option Ratio} {xs : List (Option Ratio)} → ComesAskedBy s (k ∷ ks) (x ∷ xs) → (StopsNear P t a s.moment (x ∷ xs) → ⊥) → (v : IsVisitBy S P t s (On n)) → (new : List Case) → n.moment.waiting ≡ new ++ v.visit.rest
        → ComesAskedBy n (map (λ C. carried_by v.visit.case.ray v.finish k) new ++ ks) (map (λ C. number_by v.visit.case.ray v.finish x) new ++ xs)
    climbs_on : {s n : MomentBy} → ComesAskedBy s [] [] → s.moment.waiting ≡ [] → IsNextBy S P t s (On n) → ComesAskedBy n (None ∷ []) (None ∷ [])

  -- the search ends so, with this clock, and has this bound
  pub record AskedSearchBy (o : Outcome) (b : Option ProvedBound) (c : Clock) : Type 0 where
    pub last : MomentBy
    pub carried : List Carried
    pub numbers : List (Option Ratio)
    pub comes : ComesAskedBy last carried numbers
    pub ends : EndsAskedBy S P t a last numbers o c
    pub has : FindsAskedBy P a.bound last carried o b

  -- what may be answered once the clock is this: what the search ends with; or want of memory at a moment, where the run after it has ended, or where a bound was to be told, with the moment's best point and no bound
  pub data IsAskedAnswerBy : Outcome → Option ProvedBound → Clock → Type 0 where
    asked_by : {o : Outcome} {b : Option ProvedBound} {c : Clock} → AskedSearchBy o b c → IsAskedAnswerBy o b c
    gave_up_by : {s : MomentBy} {ks : List Carried} {xs : List (Option Ratio)} → ComesAskedBy s ks xs → IsAskedAnswerBy (early s.moment.best Memory) None s.moment.clock
    gave_up_after_by : {s : MomentBy} {ks : List Carried} {xs : List (Option Ratio)} {f : Finish} {c : Clock} {h : Given} → ComesAskedBy s ks xs → IsRunOfCase S P t s f c h → IsAskedAnswerBy (early s.moment.best Memory) None c
    gave_up_closing_by : {s : MomentBy} {ks : List Carried} {xs : List (Option Ratio)} {o : Outcome} {c : Clock} → a.bound ≡ true → ComesAskedBy s ks xs → EndsAskedBy S P t a s xs o c → IsAskedAnswerBy (early s.moment.best Memory) None c
