-- Searches of one goal over whole variables alone, without cuts: the choices of such a search, and how it ends. The search of a tree of cases for a best point (Land and Doig, An automatic method of solving discrete programming problems, 1960; Wolsey, Integer Programming, 1998, chapter 7).
use Rattle.std.specs.Prelude.{◌≡◌, ℕ, ℤ, List, [], ◌∷◌}
use Rattle.rational.specs.Ratio.{Ratio, IsFloor}
use Rattle.evidence.specs.Sums.{IsWhole}
use Rattle.evidence.specs.Instance.{Instance, alone}
use Rattle.evidence.specs.Point.{value_at}
use Rattle.evidence.specs.Cases.{Node, IsBranch}
use Rattle.certificate.specs.declared.causes.Cause.{Cause}
use Rattle.simplex_rules.specs.Ends.{Terms, Clock}
use Rattle.simplex_rules.specs.Rules.{bland}
use Rattle.search_rules.specs.Branching.{IsWholeBelow}
use Rattle.search_rules.specs.Search as Rules
use Rattle.search_rules.specs.Search.{SearchMoment}
use Rattle.search_rules.specs.Outcomes.{HaveOneRange}
use Rattle.search_rules.specs.RuleSearch.{SearchRules, SearchBy, IsAnswerBy}

-- each variable has one range, and no cut may be derived
pub record IsWholeAlone (I : Instance) (t : Terms) : Type 0 where
  pub ranges : HaveOneRange I
  pub no_cuts : t.rounds ≡ 0

-- j is the least whole variable whose value isn't whole, and k is its floor
pub record IsWholeSplit (I : Instance) (x : List Ratio) (j : ℕ) (k : ℤ) : Type 0 where
  pub branch : IsBranch I j k
  pub below : IsWholeBelow I x j
  pub other : IsWhole (value_at x j) → ⊥
  pub floor : IsFloor (value_at x j) k

-- that variable splits a case, and none divides one
abbrev pub whole_search : SearchRules
whole_search = record {
  runs = bland;
  Splits = λ h j k. IsWholeSplit h.case.program h.point j k;
  Rises = λ h j. ⊥;
  Divides = λ h j. ⊥;
  Steps = λ I g. ⊥;
}

-- how such a search ends: with a best point, without any, with a point and a ray along which there is no best, or before its end, with the best point so far or none; with one value, and nodes without cuts
pub data Outcome : Type 0 where
  Optimal : List Ratio → Ratio → List Node → Outcome
  Infeasible : List Node → Outcome
  Unbounded : List Ratio → Ratio → List Ratio → Outcome
  BestSoFar : List Ratio → Ratio → Cause → Outcome
  Unsure : Cause → Outcome

-- the same as an outcome of a problem: a value is a list of one, and the nodes are a certificate without cuts
abbrev pub lifted : Outcome → Rules.Outcome
lifted (Optimal x v ns) = Rules.Optimal x (v ∷ []) (record { rounds = []; nodes = ns } ∷ [])
lifted (Infeasible ns) = Rules.Infeasible (record { rounds = []; nodes = ns })
lifted (Unbounded x v r) = Rules.Unbounded x (v ∷ []) [] r
lifted (BestSoFar x v c) = Rules.BestSoFar x (v ∷ []) c
lifted (Unsure c) = Rules.Unsure c

-- the search of I by those choices ends so, with this clock; and what may be answered of it once the clock is this
abbrev pub Search : Instance → Terms → Outcome → Clock → Type 0
Search I t o c = SearchBy whole_search (alone I) t (lifted o) c

abbrev pub IsSearchAnswer : Instance → Terms → Outcome → Clock → Type 0
IsSearchAnswer I t o c = IsAnswerBy whole_search (alone I) t (lifted o) c

-- a moment of it: on the level of the one goal, without cuts
pub record IsWholeMoment (I : Instance) (m : SearchMoment) : Type 0 where
  pub level : m.level ≡ record { program = I; later = []; shown = [] }
  pub rounds : m.rounds ≡ []
