-- The search of a problem for a point that is best by its goals in their order: level by level (lexicographic optimisation), each by a tree of cases (Land and Doig, 1960; Beale, 1979; Wolsey, Integer Programming, 1998, chapter 7), with rounding cuts before the tree (Gomory, 1958). Moments, of which each but the last has the next, by the run of one case.
use Rattle.std.specs.Prelude.{◌≡◌, ℕ, ◌+◌, ◌<◌, ◌≤◌, ◌⊎◌, ℤ, false, Option, None, Some, List, [], ◌∷◌, ◌++◌, length}
use Rattle.std.specs.List.{All}
use Rattle.std.specs.Option.{is_some}
use Rattle.rational.specs.Ratio.{Ratio, negative, IsNumber, IsSame, IsBelow, IsAtMost}
use Rattle.rational.specs.Width.{IsReduced, SumFits}
use Rattle.evidence.specs.Instance.{Goal, Instance, Problem, goals, asking, width, minimising}
use Rattle.evidence.specs.Point.{value_at, objective}
use Rattle.evidence.specs.Cases.{Multiplier, Node, ClashAt, FarkasBy, BoundBy, SplitAt, ZeroAt}
use Rattle.evidence.specs.Rounds as With
use Rattle.evidence.specs.Rounds.{Certificate, RoundBy, derive}
use Rattle.evidence.specs.Levels.{IsReachedEnd, next_level}
use Rattle.evidence.specs.Width.{PointFits}
use Rattle.certificate.specs.declared.causes.Step.{Step}
use Rattle.certificate.specs.declared.causes.Step.TheVariants.{Values, Point, Ray, Round}
use Rattle.certificate.specs.declared.causes.Cause.{Cause}
use Rattle.certificate.specs.declared.causes.Cause.TheVariants.{Killed, NodeLimit, TurnLimit, Wide, Memory}
use Rattle.simplex_rules.specs.declared.columns.Status.{Status}
use Rattle.simplex_rules.specs.Ends.{Terms, Clock, End, Clash, Empty, Best, Endless, TurnsOut, TooWide, Stopped}
use Rattle.simplex_rules.specs.Runs.{Run, EndsAtBasis, looked_once}
use Rattle.search_rules.specs.Branching.{Case, AreMetBelow, IsSplit, IsDividedAt, IsFirstMoving, NoneMoves, split_cases, divided_cases}
use Rattle.search_rules.specs.Cuts.{Trial, NoCut, WideCut, Cut, TriesBasis}
use Rattle.search_rules.specs.Rays.{IsScaled}

-- a point with its values of all goals, in their order
pub record Found : Type 0 where
  pub point : List Ratio
  pub values : List Ratio

-- a level: the program of its goal, with a row for each goal before it; the goals that are asked after it; and what showed those before it
pub record Level : Type 0 where
  pub program : Instance
  pub later : List Goal
  pub shown : List Certificate

-- a search under way: the level; the multipliers of the cuts derived so far; the cases that are still to search, the next one first; the nodes of those that were searched on this level, in their order; the turns and looks so far; and the best point
pub record SearchMoment : Type 0 where
  pub level : Level
  pub rounds : List With.Round
  pub waiting : List Case
  pub nodes : List Node
  pub clock : Clock
  pub best : Option Found

-- how a search ends: with a best point, without any, with a point and a ray along which a goal has no best value, or before its end, with the best point so far or none
pub data Outcome : Type 0 where
  Optimal : List Ratio → List Ratio → List Certificate → Outcome
  Infeasible : Certificate → Outcome
  Unbounded : List Ratio → List Ratio → List Certificate → List Ratio → Outcome
  BestSoFar : List Ratio → List Ratio → Cause → Outcome
  Unsure : Cause → Outcome

-- a program before any branch
abbrev pub undivided : Instance → Case
undivided I = record { program = I; divided = []; ray = None }

-- a level before its first case
abbrev pub begun_at : Level → Clock → Option Found → SearchMoment
begun_at l c best = record { level = l; rounds = []; waiting = undivided l.program ∷ []; nodes = []; clock = c; best = best }

abbrev pub first : Problem → SearchMoment
first P = begun_at (record { program = P.program; later = P.later; shown = [] }) (record { turns = 0; looks = 0 }) None

-- what a level's cuts and nodes show, once its cases are closed
abbrev pub shown_at : SearchMoment → Certificate
shown_at m = record { rounds = m.rounds; nodes = m.nodes }

-- as many nodes as these certificates have, and n more
abbrev pub nodes_with : List Certificate → ℕ → ℕ
nodes_with [] n = n
nodes_with (c ∷ cs) n = length c.nodes + nodes_with cs n

-- how many cases were closed or branched, on all levels; one that is searched anew with a cut isn't counted before it is
abbrev pub nodes_so_far : SearchMoment → ℕ
nodes_so_far m = nodes_with m.level.shown (length m.nodes)

-- the value of the level's goal at a point that was found
abbrev pub reached : Level → Found → Ratio
reached l f = value_at f.values (length l.shown)

-- the search is given up
abbrev pub early : Option Found → Cause → Outcome
early None c = Unsure c
early (Some f) c = BestSoFar f.point f.values c

-- at a number that doesn't fit, in the case after those that have nodes on this level
abbrev pub too_wide : SearchMoment → Step → Outcome
too_wide m s = early m.best (Wide (record { node = length m.nodes + 1; turn = m.clock.turns; step = s }))

-- a leaf closes the case before the rest
abbrev pub closed_by_leaf : SearchMoment → List Case → Node → SearchMoment
closed_by_leaf m rest n = record m { waiting = rest; nodes = m.nodes ++ n ∷ [] }

-- two cases come in place of the case before the rest: variable j is at most k, or at least k + 1
abbrev pub branch : SearchMoment → Case → List Case → ℕ → ℤ → SearchMoment
branch m C rest j k = record m { waiting = split_cases C j k rest; nodes = m.nodes ++ SplitAt j k ∷ [] }

-- or variable j is 0, or within its further ends
abbrev pub divide : SearchMoment → Case → List Case → ℕ → SearchMoment
divide m C rest j = record m { waiting = divided_cases C j rest; nodes = m.nodes ++ ZeroAt j ∷ [] }

-- a cut is one more row of the case
abbrev pub with_cut : SearchMoment → Case → List Case → List Multiplier → List ℤ → ℤ → SearchMoment
with_cut m C rest ms cs k = record m { waiting = record C { program = derive C.program cs k } ∷ rest; rounds = m.rounds ++ RoundBy ms ∷ [] }

-- the next level, of goal g, whose program has one more row between equal ends e
abbrev pub next_level_at : SearchMoment → Found → Ratio → Goal → List Goal → SearchMoment
next_level_at m f e g gs =
    begun_at (record { program = next_level m.level.program e g; later = gs; shown = m.level.shown ++ shown_at m ∷ [] }) m.clock (Some f)

-- there is a best point, and a bound isn't better than its value of the level's goal
pub record IsPassed (l : Level) (best : Option Found) (bound : Ratio) : Type 0 where
  pub found : Found
  pub is : best ≡ Some found
  pub passed : IsAtMost (minimising l.program (reached l found)) bound

-- a bound is better than the best value, if any
abbrev pub IsHopeful : Level → Option Found → Ratio → Type 0
IsHopeful l best bound = (f : Found) → best ≡ Some f → IsBelow bound (minimising l.program (reached l f))

-- v is the value of the program's goal at x, in lowest terms
pub record IsValue (I : Instance) (x : List Ratio) (v : Ratio) : Type 0 where
  pub numbers : All IsNumber x
  pub reduced : IsReduced v
  pub same : IsSame v (objective I x)

-- vs are the values of all goals at x
pub record AreValuesAt (P : Problem) (x vs : List Ratio) : Type 0 where
  pub count : length vs ≡ length (goals P)
  pub values : (k : ℕ) → k < length (goals P) → IsValue (asking P k) x (value_at vs k)

-- a next moment, or the end with its clock
pub data NextOfSearch : Type 0 where
  To : SearchMoment → NextOfSearch
  Out : Outcome → Clock → NextOfSearch

-- the look before the next case stops the search
abbrev pub IsStop : Terms → SearchMoment → Type 0
IsStop t m = t.stop ≡ Some (m.clock.looks + 1)

-- at the least variable whose value at the point isn't as it must be, two cases come in place of case C
abbrev pub Branches : Case → List Case → SearchMoment → List Ratio → NextOfSearch → Type 0
Branches C rest m x next =
    ((j : ℕ) × (k : ℤ) × IsSplit C.program x j k × (next ≡ To (branch m C rest j k))) ⊎ ((j : ℕ) × IsDividedAt C.program x j × (next ≡ To (divide m C rest j)))

-- P is searched, within these terms
module _ (P : Problem) (t : Terms) where
  -- one more cut may be derived: at the first case of a problem of one goal, where there are fewer than the most
  pub record MayCut (m : SearchMoment) : Type 0 where
    pub one_goal : P.later ≡ []
    pub first_case : m.nodes ≡ []
    pub fewer : length m.rounds < t.rounds

  -- a point that was found becomes the best one, and multipliers ms close the case; or, where there is a ray, the search ends with it
  abbrev pub TakesFound : Option (List Ratio) → List Case → SearchMoment → Found → List Multiplier → NextOfSearch → Type 0
  TakesFound None rest m f ms next = next ≡ To (closed_by_leaf (record m { best = Some f }) rest (BoundBy ms))
  TakesFound (Some r) rest m f ms next = next ≡ Out (Unbounded f.point f.values m.level.shown r) m.clock

  -- from a point of case C on whose values are as they must be: its sums, those of the problem's own rows and of all goals, don't fit; or it is found
  abbrev pub TakesPoint : Case → List Case → SearchMoment → List Ratio → List Multiplier → NextOfSearch → Type 0
  TakesPoint C rest m x ms next =
      AreMetBelow C.program x (width C.program)
      × (((PointFits P x → ⊥) × (next ≡ Out (too_wide m Point) m.clock))
      ⊎ ((vs : List Ratio) × PointFits P x × AreValuesAt P x vs × TakesFound C.ray rest m (record { point = x; values = vs }) ms next))

  -- from point x of case C on: the case is branched, or the point is found
  abbrev pub MeetsPoint : Case → List Case → SearchMoment → List Ratio → List Multiplier → NextOfSearch → Type 0
  MeetsPoint C rest m x ms next = Branches C rest m x next ⊎ TakesPoint C rest m x ms next

  -- from what came of trying a cut: where there is none the case is branched; a number doesn't fit; or the case is searched anew with the cut
  abbrev pub GoesFromTrial : Case → List Case → SearchMoment → List Ratio → Trial → NextOfSearch → Type 0
  GoesFromTrial C rest m x NoCut next = Branches C rest m x next
  GoesFromTrial C rest m x WideCut next = next ≡ Out (too_wide m Round) m.clock
  GoesFromTrial C rest m x (Cut ms cs k) next = next ≡ To (with_cut m C rest ms cs k)

  -- from a point on whose bound is better than the best value: it is found; or the case is branched; or, where one more cut may be derived, that is tried before
  abbrev pub ImprovesBest : Case → List Case → SearchMoment → Clock → Ratio → List Ratio → List Multiplier → NextOfSearch → Type 0
  ImprovesBest C rest m before b x ms next =
      TakesPoint C rest m x ms next
      ⊎ ((MayCut m → ⊥) × Branches C rest m x next)
      ⊎ ((ss : List Status) × (trial : Trial) × MayCut m × (AreMetBelow C.program x (width C.program) → ⊥) × EndsAtBasis C.program false t before (Best b x ms) m.clock ss × TriesBasis C.program x ss trial × GoesFromTrial C rest m x trial next)

  -- from a best point of the run of case C on: where there is no ray, a bound that isn't better than the best value closes the case; where there is one, any point will do
  abbrev pub GoesFromBest : Option (List Ratio) → Case → List Case → SearchMoment → Clock → Ratio → List Ratio → List Multiplier → NextOfSearch → Type 0
  GoesFromBest None C rest m before b x ms next =
      (IsPassed m.level m.best b × (next ≡ To (closed_by_leaf m rest (BoundBy ms)))) ⊎ (IsHopeful m.level m.best b × ImprovesBest C rest m before b x ms next)
  GoesFromBest (Some r) C rest m before b x ms next = MeetsPoint C rest m x ms next

  -- from a direction of case C on: the first variable that may be 0 besides, moves and wasn't divided yet divides the case; where there is none, the direction gives the ray of this case and of those that come of it
  abbrev pub GoesAlong : Case → List Case → SearchMoment → List Ratio → List Ratio → NextOfSearch → Type 0
  GoesAlong C rest m x d next =
      ((j : ℕ) × IsFirstMoving C d j × (next ≡ To (divide m C rest j)))
      ⊎ (NoneMoves C d × ((r : List Ratio) → IsScaled P.program d r → ⊥) × (next ≡ Out (too_wide m Ray) m.clock))
      ⊎ ((r : List Ratio) × NoneMoves C d × IsScaled P.program d r × MeetsPoint (record C { ray = Some r }) rest m x [] next)

  -- from the end of the run of case C on, which began with the clock before, with m's clock then
  abbrev pub GoesFrom : Case → List Case → SearchMoment → Clock → End → NextOfSearch → Type 0
  GoesFrom C rest m before (Clash c) next = next ≡ To (closed_by_leaf m rest (ClashAt c))
  GoesFrom C rest m before (Empty ms) next = next ≡ To (closed_by_leaf m rest (FarkasBy ms))
  GoesFrom C rest m before (Best b x ms) next = GoesFromBest C.ray C rest m before b x ms next
  GoesFrom C rest m before (Endless x d) next = GoesAlong C rest m x d next
  GoesFrom C rest m before TurnsOut next = next ≡ Out (early m.best (TurnLimit t.turns)) m.clock
  GoesFrom C rest m before (TooWide s) next = next ≡ Out (too_wide m s) m.clock
  GoesFrom C rest m before Stopped next = next ≡ Out (early m.best Killed) m.clock

  -- no node is begun: as many as the limit stand, on all levels, or the look before it stops the search
  abbrev pub StopsBefore : SearchMoment → NextOfSearch → Type 0
  StopsBefore m next =
      ((t.nodes ≤ nodes_so_far m) × (next ≡ Out (early m.best (NodeLimit t.nodes)) m.clock))
      ⊎ ((nodes_so_far m < t.nodes) × IsStop t m × (next ≡ Out (early m.best Killed) (looked_once m.clock)))

  -- one more node is begun
  pub record BeginsCase (m : SearchMoment) : Type 0 where
    pub within : nodes_so_far m < t.nodes
    pub goes_on : IsStop t m → ⊥

  -- the next case is run to this end, with this clock then; its goal is zero where there is a ray
  pub record IsCaseRun (m : SearchMoment) (e : End) (c : Clock) : Type 0 where
    pub case : Case
    pub rest : List Case
    pub is : m.waiting ≡ case ∷ rest
    pub begins : BeginsCase m
    pub run : Run case.program (is_some case.ray) t (looked_once m.clock) e c

  -- the search goes by the end of that run
  pub record IsVisit (m : SearchMoment) (next : NextOfSearch) : Type 0 where
    pub end : End
    pub clock : Clock
    pub visit : IsCaseRun m end clock
    pub goes : GoesFrom visit.case visit.rest (record m { clock = clock }) (looked_once m.clock) end next

  -- after a level whose best point has the value v, one more goal g is asked; where the end of its row doesn't fit, that is told at the next level's first node, by its number there
  abbrev pub AsksNext : SearchMoment → Found → Goal → List Goal → NextOfSearch → Type 0
  AsksNext m f g gs next =
      let I = m.level.program in
      let v = reached m.level f in
      ((e : Ratio) × IsReachedEnd I v e × (next ≡ To (next_level_at m f e g gs)))
      ⊎ ((SumFits (minimising I v) (negative (minimising I I.goal.constant)) → ⊥)
      × (StopsBefore m next
      ⊎ (BeginsCase m × (next ≡ Out (early m.best (Wide (record { node = 1; turn = m.clock.turns; step = Values }))) (looked_once m.clock)))))

  -- no case of the level is left: without a point the search ends, and with one it asks the next goal, or ends where there is none
  abbrev pub ClosesLevel : SearchMoment → Option Found → List Goal → NextOfSearch → Type 0
  ClosesLevel m None gs next = next ≡ Out (Infeasible (shown_at m)) m.clock
  ClosesLevel m (Some f) [] next = next ≡ Out (Optimal f.point f.values (m.level.shown ++ shown_at m ∷ [])) m.clock
  ClosesLevel m (Some f) (g ∷ gs) next = AsksNext m f g gs next

  -- what comes after a moment, in this order: the level is closed where no case is left; the limit of nodes, or a look, ends the search; or the next case brings it
  abbrev pub IsNextInSearch : SearchMoment → NextOfSearch → Type 0
  IsNextInSearch m next =
      ((m.waiting ≡ []) × ClosesLevel m m.best m.level.later next)
      ⊎ ((m.waiting ≡ [] → ⊥) × StopsBefore m next)
      ⊎ IsVisit m next

  -- the moments of the search
  pub data ComesInSearch : SearchMoment → Type 0 where
    begins : ComesInSearch (first P)
    goes_on : {m n : SearchMoment} → ComesInSearch m → IsNextInSearch m (To n) → ComesInSearch n

  -- the search ends so, with this clock
  pub record Search (o : Outcome) (c : Clock) : Type 0 where
    pub last : SearchMoment
    pub comes : ComesInSearch last
    pub ends : IsNextInSearch last (Out o c)

  -- what may be answered of the search once the clock is this: its outcome; or want of memory at a moment, or where the run after it has ended, with the moment's best point
  pub data IsSearchAnswer : Outcome → Clock → Type 0 where
    searched : {o : Outcome} {c : Clock} → Search o c → IsSearchAnswer o c
    given_up : {m : SearchMoment} → ComesInSearch m → IsSearchAnswer (early m.best Memory) m.clock
    given_up_after : {m : SearchMoment} {e : End} {c : Clock} → ComesInSearch m → IsCaseRun m e c → IsSearchAnswer (early m.best Memory) c
