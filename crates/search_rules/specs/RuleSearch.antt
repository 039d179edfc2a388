-- The search of a problem by rules: which variable divides a case, which of two cases comes first, and by which rules the cases are run, are choices; the dictionary of one run may be where the next begins.
use Rattle.std.specs.Prelude.{◌≡◌, ℕ, ◌⊎◌, ℤ, pos, ◌+ℤ◌, Bool, true, false, cond, Option, None, Some, List, [], ◌∷◌, ◌++◌, length}
use Rattle.std.specs.Option.{is_some}
use Rattle.rational.specs.Ratio.{Ratio}
use Rattle.evidence.specs.Instance.{Instance, Problem, width, minimising}
use Rattle.evidence.specs.Cases.{Multiplier, Grid, ClashAt, FarkasBy, BoundBy, GridBy, SplitAt, IsGrid, IsBranch, IsZeroBranch, at_most, at_least}
use Rattle.evidence.specs.Width.{TreeFits}
use Rattle.certificate.specs.declared.causes.Step.TheVariants.{Ray, Round}
use Rattle.certificate.specs.declared.causes.Cause.TheVariants.{Killed, TurnLimit, Memory}
use Rattle.simplex_rules.specs.declared.columns.Status.{Status}
use Rattle.simplex_rules.specs.Ends.{Terms, Clock, Clash, Empty, Best, Endless, TurnsOut, TooWide, Stopped}
use Rattle.simplex_rules.specs.Runs.{looked_once}
use Rattle.simplex_rules.specs.Rules.{Given, Rules, AreLegalRules, AreSingleRules, bland}
use Rattle.simplex_rules.specs.RuleRuns.{Finish, Ends, Passed, RunBy}
use Rattle.search_rules.specs.Branching.{Case, AreMetBelow, IsSplit, IsDividedAt, IsFirstMoving, NoneMoves}
use Rattle.search_rules.specs.Cuts.{Trial, NoCut, WideCut, Cut, TriesBasis}
use Rattle.search_rules.specs.Rays.{IsScaled}
use Rattle.search_rules.specs.Sides.{told}
use Rattle.search_rules.specs.Search.{Found, Level, SearchMoment, Outcome, NextOfSearch, To, Out, first, reached, early, too_wide, closed_by_leaf, branch, divide, with_cut, IsPassed, IsHopeful, MayCut, TakesPoint, StopsBefore, BeginsCase, ClosesLevel}

-- what a branching sees: the case, the basis with its places with which its run ended, and the point
pub record BranchView : Type 0 where
  pub case : Case
  pub basis : Given
  pub point : List Ratio

pub record SearchRules : Type 1 where
  -- of each case's run
  pub runs : Rules
  -- variable j divides the case, by the whole number k, or into 0 and its further ends
  pub Splits : BranchView → ℕ → ℤ → Type 0
  -- where variable j splits, the case of at least k + 1 comes first
  pub Rises : BranchView → ℕ → Type 0
  pub Divides : BranchView → ℕ → Type 0
  -- the step in which the values of a program's goal go, where bounds are rounded by one
  pub Steps : Instance → Ratio → Type 0

-- all that is asked for the outcome to be shown: a whole variable splits, and one that may be 0 besides divides
pub record AreLegalSearches (S : SearchRules) : Type 0 where
  pub runs : AreLegalRules S.runs
  pub splits : (h : BranchView) (j : ℕ) (k : ℤ) → S.Splits h j k → IsBranch h.case.program j k
  pub divides : (h : BranchView) (j : ℕ) → S.Divides h j → IsZeroBranch h.case.program j

-- all that is asked for one outcome: no choice has two answers, and a case is divided only where a value isn't as it must be
pub record AreSingleSearches (S : SearchRules) : Type 0 where
  pub runs : AreSingleRules S.runs
  pub splits : (h : BranchView) (i j : ℕ) (k l : ℤ) → S.Splits h i k → S.Splits h j l → (i ≡ j) × (k ≡ l)
  pub divides : (h : BranchView) (i j : ℕ) → S.Divides h i → S.Divides h j → i ≡ j
  pub steps : (I : Instance) (g h : Ratio) → S.Steps I g → S.Steps I h → g ≡ h
  pub either : (h : BranchView) (i j : ℕ) (k : ℤ) → S.Splits h i k → S.Divides h j → ⊥
  pub split_unmet : (h : BranchView) (j : ℕ) (k : ℤ) → S.Splits h j k → AreMetBelow h.case.program h.point (width h.case.program) → ⊥
  pub divided_unmet : (h : BranchView) (j : ℕ) → S.Divides h j → AreMetBelow h.case.program h.point (width h.case.program) → ⊥

-- the least variable whose value isn't as it must be, the lower case first, from the rows by least indices; no bound is rounded
abbrev pub bland_search : SearchRules
bland_search = record {
  runs = bland;
  Splits = λ h j k. IsSplit h.case.program h.point j k;
  Rises = λ h j. ⊥;
  Divides = λ h j. IsDividedAt h.case.program h.point j;
  Steps = λ I g. ⊥;
}

-- a search under way, its nodes as they were met; the basis with which the last run ended; and the places of the nodes of this level behind which the case of at least k + 1 came first
pub record MomentBy : Type 0 where
  pub moment : SearchMoment
  pub basis : Given
  pub turned : List ℕ

pub data NextBy : Type 0 where
  On : MomentBy → NextBy
  Off : Outcome → Clock → NextBy

-- the next moment with that basis and these places, or the end
abbrev pub with_basis : Given → List ℕ → NextOfSearch → NextBy
with_basis g ts (To m) = On (record { moment = m; basis = g; turned = ts })
with_basis g ts (Out o c) = Off o c

-- what comes of the end of a run; or the moment behind a split whose case of at least k + 1 comes first
pub data AfterRun : Type 0 where
  Onward : NextOfSearch → AfterRun
  Upward : SearchMoment → AfterRun

-- the split is the node at place k
abbrev pub with_side : Given → List ℕ → ℕ → AfterRun → NextBy
with_side g ts k (Onward n) = with_basis g ts n
with_side g ts k (Upward m) = On (record { moment = m; basis = g; turned = k ∷ ts })

-- its nodes as a certificate has them
abbrev pub in_place : MomentBy → SearchMoment
in_place s = record (s.moment) { nodes = told s.turned s.moment.nodes }

abbrev pub risen_cases : Case → ℕ → ℤ → List Case → List Case
risen_cases C j k rest = record C { program = at_least C.program j (k +ℤ pos 1) } ∷ record C { program = at_most C.program j k } ∷ rest

-- variable j is at least k + 1, or at most k
abbrev pub branch_up : SearchMoment → Case → List Case → ℕ → ℤ → SearchMoment
branch_up m C rest j k = record m { waiting = risen_cases C j k rest; nodes = m.nodes ++ SplitAt j k ∷ [] }

abbrev pub begins_along : List Case → Bool
begins_along [] = false
begins_along (C ∷ Cs) = is_some C.ray

-- a run along a ray leaves out the goal, so that its dictionary has no costs: its basis isn't kept for a case with a goal
abbrev pub kept_for : Bool → Given → AfterRun → Given
kept_for false g n = g
kept_for true g (Onward (Out o c)) = g
kept_for true g (Onward (To m)) = cond (begins_along m.waiting) g None
kept_for true g (Upward m) = cond (begins_along m.waiting) g None

-- the value that a bound is measured by: the best point's, turned so that less is better
abbrev pub best_value : Level → Option Found → Option Ratio
best_value l None = None
best_value l (Some f) = Some (minimising l.program (reached l f))

-- a bound isn't better than the best value once it is rounded up to a number that the goal can have: its multipliers show that, by sums that fit
pub record IsRoundedPast (l : Level) (best : Option Found) (I : Instance) (g : Ratio) (ms : List Multiplier) : Type 0 where
  pub found : Found
  pub is : best ≡ Some found
  pub grid : IsGrid I g ms (minimising l.program (reached l found))
  pub fits : TreeFits I (Grid g ms)

-- P is searched by rules S within these terms
module _ (S : SearchRules) (P : Problem) (t : Terms) where
  abbrev pub BranchesBy : Given → Case → List Case → SearchMoment → List Ratio → AfterRun → Type 0
  BranchesBy g C rest m x after =
      ((j : ℕ) × (k : ℤ) × S.Splits (record { case = C; basis = g; point = x }) j k × (S.Rises (record { case = C; basis = g; point = x }) j → ⊥) × (after ≡ Onward (To (branch m C rest j k))))
      ⊎ ((j : ℕ) × (k : ℤ) × S.Splits (record { case = C; basis = g; point = x }) j k × S.Rises (record { case = C; basis = g; point = x }) j × (after ≡ Upward (branch_up m C rest j k)))
      ⊎ ((j : ℕ) × S.Divides (record { case = C; basis = g; point = x }) j × (after ≡ Onward (To (divide m C rest j))))

  abbrev pub TakesBy : Case → List Case → SearchMoment → List Ratio → List Multiplier → AfterRun → Type 0
  TakesBy C rest m x ms after = (n : NextOfSearch) × TakesPoint P t C rest m x ms n × (after ≡ Onward n)

  abbrev pub MeetsBy : Given → Case → List Case → SearchMoment → List Ratio → List Multiplier → AfterRun → Type 0
  MeetsBy g C rest m x ms after = BranchesBy g C rest m x after ⊎ TakesBy C rest m x ms after

  abbrev pub TriedBy : Given → Case → List Case → SearchMoment → List Ratio → Trial → AfterRun → Type 0
  TriedBy g C rest m x NoCut after = BranchesBy g C rest m x after
  TriedBy g C rest m x WideCut after = after ≡ Onward (Out (too_wide m Round) m.clock)
  TriedBy g C rest m x (Cut ms cs k) after = after ≡ Onward (To (with_cut m C rest ms cs k))

  -- the basis of a cut is that with which the run ended
  abbrev pub HopesBy : Given → Case → List Case → SearchMoment → Ratio → List Ratio → List Multiplier → AfterRun → Type 0
  HopesBy g C rest m b x ms after =
      TakesBy C rest m x ms after
      ⊎ ((MayCut P t m → ⊥) × BranchesBy g C rest m x after)
      ⊎ ((ss : List Status) × (trial : Trial) × MayCut P t m × (AreMetBelow C.program x (width C.program) → ⊥) × (g ≡ Some ss) × TriesBasis C.program x ss trial × TriedBy g C rest m x trial after)

  abbrev pub RoundsBy : Given → Case → List Case → SearchMoment → Ratio → List Ratio → List Multiplier → AfterRun → Type 0
  RoundsBy g C rest m b x ms after =
      ((s : Ratio) × S.Steps C.program s × IsRoundedPast m.level m.best C.program s ms × (after ≡ Onward (To (closed_by_leaf m rest (GridBy s ms)))))
      ⊎ (((s : Ratio) → S.Steps C.program s → IsRoundedPast m.level m.best C.program s ms → ⊥) × HopesBy g C rest m b x ms after)

  abbrev pub BestBy : Option (List Ratio) → Given → Case → List Case → SearchMoment → Ratio → List Ratio → List Multiplier → AfterRun → Type 0
  BestBy None g C rest m b x ms after =
      (IsPassed m.level m.best b × (after ≡ Onward (To (closed_by_leaf m rest (BoundBy ms))))) ⊎ (IsHopeful m.level m.best b × RoundsBy g C rest m b x ms after)
  BestBy (Some r) g C rest m b x ms after = MeetsBy g C rest m x ms after

  abbrev pub AlongBy : Given → Case → List Case → SearchMoment → List Ratio → List Ratio → AfterRun → Type 0
  AlongBy g C rest m x d after =
      ((j : ℕ) × IsFirstMoving C d j × (after ≡ Onward (To (divide m C rest j))))
      ⊎ (NoneMoves C d × ((r : List Ratio) → IsScaled P.program d r → ⊥) × (after ≡ Onward (Out (too_wide m Ray) m.clock)))
      ⊎ ((r : List Ratio) × NoneMoves C d × IsScaled P.program d r × MeetsBy g (record C { ray = Some r }) rest m x [] after)

  -- from the end of the run of case C on, which ended with basis g; a bound that was enough closes the case
  abbrev pub GoesBy : Given → Case → List Case → SearchMoment → Finish → AfterRun → Type 0
  GoesBy g C rest m (Ends (Clash c)) after = after ≡ Onward (To (closed_by_leaf m rest (ClashAt c)))
  GoesBy g C rest m (Ends (Empty ms)) after = after ≡ Onward (To (closed_by_leaf m rest (FarkasBy ms)))
  GoesBy g C rest m (Ends (Best b x ms)) after = BestBy C.ray g C rest m b x ms after
  GoesBy g C rest m (Ends (Endless x d)) after = AlongBy g C rest m x d after
  GoesBy g C rest m (Ends TurnsOut) after = after ≡ Onward (Out (early m.best (TurnLimit t.turns)) m.clock)
  GoesBy g C rest m (Ends (TooWide s)) after = after ≡ Onward (Out (too_wide m s) m.clock)
  GoesBy g C rest m (Ends Stopped) after = after ≡ Onward (Out (early m.best Killed) m.clock)
  GoesBy g C rest m (Passed b ms) after = IsPassed m.level m.best b × (after ≡ Onward (To (closed_by_leaf m rest (BoundBy ms))))

  pub record IsRunOfCase (s : MomentBy) (f : Finish) (c : Clock) (h : Given) : Type 0 where
    pub case : Case
    pub rest : List Case
    pub is : s.moment.waiting ≡ case ∷ rest
    pub begins : BeginsCase P t s.moment
    pub run : RunBy S.runs case.program (is_some case.ray) t s.basis (best_value s.moment.level s.moment.best) (looked_once s.moment.clock) f c h

  pub record IsVisitBy (s : MomentBy) (next : NextBy) : Type 0 where
    pub finish : Finish
    pub clock : Clock
    pub basis : Given
    pub visit : IsRunOfCase s finish clock basis
    pub after : AfterRun
    pub goes : GoesBy basis visit.case visit.rest (record (s.moment) { clock = clock }) finish after
    pub is : next ≡ with_side (kept_for (is_some visit.case.ray) basis after) s.turned (length s.moment.nodes) after

  abbrev pub IsNextBy : MomentBy → NextBy → Type 0
  IsNextBy s next =
      ((n : NextOfSearch) × (s.moment.waiting ≡ []) × ClosesLevel P t (in_place s) s.moment.best s.moment.level.later n × (next ≡ with_basis s.basis [] n))
      ⊎ ((n : NextOfSearch) × (s.moment.waiting ≡ [] → ⊥) × StopsBefore P t s.moment n × (next ≡ with_basis s.basis s.turned n))
      ⊎ IsVisitBy s next

  -- in the beginning no run has ended
  pub data ComesBy : MomentBy → Type 0 where
    begins : ComesBy (record { moment = first P; basis = None; turned = [] })
    goes_on : {m n : MomentBy} → ComesBy m → IsNextBy m (On n) → ComesBy n

  pub record SearchBy (o : Outcome) (c : Clock) : Type 0 where
    pub last : MomentBy
    pub comes : ComesBy last
    pub ends : IsNextBy last (Off o c)

  pub data IsAnswerBy : Outcome → Clock → Type 0 where
    searched : {o : Outcome} {c : Clock} → SearchBy o c → IsAnswerBy o c
    given_up : {m : MomentBy} → ComesBy m → IsAnswerBy (early m.moment.best Memory) m.moment.clock
    given_up_after : {m : MomentBy} {f : Finish} {c : Clock} {h : Given} → ComesBy m → IsRunOfCase m f c h → IsAnswerBy (early m.moment.best Memory) c
