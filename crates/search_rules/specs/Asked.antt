-- The search that is asked for: it may begin with a point, stop where its best point is near enough to the bound, and tell its bound where it is given up.
use Rattle.std.specs.Prelude.{◌≡◌, ◌<◌, Bool, true, false, Option, None, Some, List, [], ◌∷◌, ◌++◌, map}
use Rattle.rational.specs.Ratio.{Ratio}
use Rattle.evidence.specs.Instance.{Problem, minimising}
use Rattle.evidence.specs.Cases.{Multiplier}
use Rattle.evidence.specs.Width.{LowFits}
use Rattle.evidence.specs.ProvedBounds.{ProvedBound, IsProvedBound}
use Rattle.certificate.specs.declared.causes.Cause.TheVariants.{Gap, Memory}
use Rattle.simplex_rules.specs.Ends.{Terms, Clock, End}
use Rattle.search_rules.specs.Branching.{Case}
use Rattle.search_rules.specs.Search.{Found, SearchMoment, Outcome, BestSoFar, Unsure, To, Out, nodes_so_far, early, IsCaseRun, IsVisit, IsNextInSearch}
use Rattle.search_rules.specs.Bounds.{Carried, carried_after, IsBoundOf}
use Rattle.search_rules.specs.Gaps as gaps
use Rattle.search_rules.specs.Gaps.{number_after, IsNearEnough}
use Rattle.search_rules.specs.Beginnings.{first_with}

-- what is asked of a search beside its terms: that it tells its bound; and the gap at which it stops, if any
pub record Asked : Type 0 where
  pub bound : Bool
  pub gap : Option gaps.Gap

-- nothing more
abbrev pub nothing : Asked
nothing = record { bound = false; gap = None }

-- no gap, and the bound or not
abbrev pub without_gap : Bool → Asked
without_gap asks = record { bound = asks; gap = None }

-- a sum for each open case: its constant and the ends of what it carries
abbrev pub OpenSumsFit : List Case → List (List Multiplier) → Type 0
OpenSumsFit [] mss = Unit {0}
OpenSumsFit (C ∷ Cs) [] = Unit {0}
OpenSumsFit (C ∷ Cs) (ms ∷ mss) = LowFits C.program (minimising C.program C.program.goal.constant) ms × OpenSumsFit Cs mss

-- on the first level, by the multipliers that all carry
abbrev pub AllOpenFit : SearchMoment → List Carried → Type 0
AllOpenFit m ks = (mss : List (List Multiplier)) → ks ≡ map (λ ms. Some ms) mss → m.level.shown ≡ [] → OpenSumsFit m.waiting mss

-- the bound that is found at a moment that is given up: its bound, where it has one and the sums of its open cases fit; whether the sums of all nodes fit isn't asked
abbrev pub FindsBound : Problem → SearchMoment → List Carried → Option ProvedBound → Type 0
FindsBound P m ks None = (b : ProvedBound) → IsBoundOf P m ks b → AllOpenFit m ks → ⊥
FindsBound P m ks (Some b) = IsBoundOf P m ks b × AllOpenFit m ks

-- an outcome has a bound only where the search is given up, and one is asked for
abbrev pub FindsAsked : Problem → Bool → SearchMoment → List Carried → Outcome → Option ProvedBound → Type 0
FindsAsked P false m ks o b = b ≡ None
FindsAsked P true m ks (BestSoFar x vs c) b = FindsBound P m ks b
FindsAsked P true m ks (Unsure c) b = FindsBound P m ks b
FindsAsked P true m ks o b = b ≡ None

-- what is told of a bound that was found: it, where the sums of all its nodes fit
abbrev pub TellsOf : Problem → Option ProvedBound → Option ProvedBound → Type 0
TellsOf P None d = d ≡ None
TellsOf P (Some b) (Some d) = (d ≡ b) × IsProvedBound P b
TellsOf P (Some b) None = IsProvedBound P b → ⊥

-- P is searched within these terms
module _ (P : Problem) (t : Terms) (a : Asked) where
  -- no node is begun, though one more might be: the best point is near enough
  pub record StopsNear (m : SearchMoment) (xs : List (Option Ratio)) : Type 0 where
    pub within : nodes_so_far m < t.nodes
    pub near : IsNearEnough P a.gap m xs

  -- how it ends from a moment: it is near enough, behind the limit of nodes and before the look; or as each search does
  pub data EndsAsked (m : SearchMoment) (xs : List (Option Ratio)) : Outcome → Clock → Type 0 where
    near : StopsNear m xs → EndsAsked m xs (early m.best Gap) m.clock
    ends : {o : Outcome} {c : Clock} → (StopsNear m xs → ⊥) → IsNextInSearch P t m (Out o c) → EndsAsked m xs o c

-- and from this best point on, or from none
module _ (P : Problem) (t : Terms) (a : Asked) (start : Option Found) where
  -- a moment of the search, with what its open cases carry and the numbers that they are bounded by, the next one first: none before it was near enough
  pub data ComesAsked : SearchMoment → List Carried → List (Option Ratio) → Type 0 where
    asked_first : ComesAsked (first_with P start) (None ∷ []) (None ∷ [])
    asked_on : {m n : SearchMoment} {k : Carried} {ks : List Carried} {x : Option Ratio} {xs : List (Option Ratio)} → ComesAsked m (k ∷ ks) (x ∷ xs) → (StopsNear P t a m (x ∷ xs) → ⊥) → (v : IsVisit P t m (To n)) → (new : List Case) → n.waiting ≡ new ++ v.visit.rest
        → ComesAsked n (map (λ C. carried_after v.visit.case.ray v.end k) new ++ ks) (map (λ C. number_after v.visit.case.ray v.end x) new ++ xs)
    asked_level : {m n : SearchMoment} → ComesAsked m [] [] → m.waiting ≡ [] → IsNextInSearch P t m (To n) → ComesAsked n (None ∷ []) (None ∷ [])

  -- the search ends so, with this clock, and has this bound
  pub record AskedSearch (o : Outcome) (b : Option ProvedBound) (c : Clock) : Type 0 where
    pub last : SearchMoment
    pub carried : List Carried
    pub numbers : List (Option Ratio)
    pub comes : ComesAsked last carried numbers
    pub ends : EndsAsked P t a last numbers o c
    pub has : FindsAsked P a.bound last carried o b

  -- what may be answered once the clock is this: what the search ends with; or want of memory at a moment, where the run after it has ended, or where a bound was to be told, with the moment's best point and no bound
  pub data IsAskedAnswer : Outcome → Option ProvedBound → Clock → Type 0 where
    asked : {o : Outcome} {b : Option ProvedBound} {c : Clock} → AskedSearch o b c → IsAskedAnswer o b c
    gave_up : {m : SearchMoment} {ks : List Carried} {xs : List (Option Ratio)} → ComesAsked m ks xs → IsAskedAnswer (early m.best Memory) None m.clock
    gave_up_after : {m : SearchMoment} {ks : List Carried} {xs : List (Option Ratio)} {e : End} {c : Clock} → ComesAsked m ks xs → IsCaseRun P t m e c → IsAskedAnswer (early m.best Memory) None c
    gave_up_closing : {m : SearchMoment} {ks : List Carried} {xs : List (Option Ratio)} {o : Outcome} {c : Clock} → a.bound ≡ true → ComesAsked m ks xs → EndsAsked P t a m xs o c → IsAskedAnswer (early m.best Memory) None c
