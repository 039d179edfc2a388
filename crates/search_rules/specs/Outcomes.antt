-- What the outcome of a search shows of the problem, whether or not the sums by which its trees and its ray would be checked fit.
use Rattle.std.specs.Prelude.{◌≡◌, ℕ, ℤ, ◌<◌, IsTrue, Option, None, Some, List, [], ◌∷◌}
use Rattle.std.specs.List.{All}
use Rattle.rational.specs.Ratio.{Ratio}
use Rattle.evidence.specs.Instance.{Variable, Goal, Instance, Problem, width, variable_at, minimising}
use Rattle.evidence.specs.Point.{IsFeasible, IsRay}
use Rattle.evidence.specs.Cases.{Tree, Node, preorder, Shows}
use Rattle.evidence.specs.Rounds.{Certificate, Round, IsRound, RoundFits, derive}
use Rattle.evidence.specs.Levels.{IsReachedEnd, next_level, RoundsAreOfOneGoal}
use Rattle.evidence.specs.Width.{PointFits}
use Rattle.search_rules.specs.Search.{Outcome, Optimal, Infeasible, Unbounded, BestSoFar, Unsure, AreValuesAt}

-- the nodes are those of a tree that shows it
pub record Proves (I : Instance) (nodes : List Node) (z : Option Ratio) : Type 0 where
  pub tree : Tree
  pub listed : nodes ≡ preorder tree
  pub shows : Shows I tree z

-- of the program with the rows of the cuts, whose own sums fit
abbrev pub ProvesAfter : Instance → List Round → List Node → Option Ratio → Type 0
ProvesAfter I [] nodes z = Proves I nodes z
ProvesAfter I (r ∷ rounds) nodes z = (cs : List ℤ) × (k : ℤ) × IsRound I r cs k × RoundFits I r cs × ProvesAfter (derive I cs k) rounds nodes z

abbrev pub CertificateProves : Instance → Certificate → Option Ratio → Type 0
CertificateProves I c z = ProvesAfter I c.rounds c.nodes z

-- a certificate for each level, by which no point that has the values before has a better one of that level's goal; the ends between them fit
abbrev pub AreLevelsProved : Instance → List Goal → List Ratio → List Certificate → Type 0
AreLevelsProved I [] (v ∷ []) (c ∷ []) = CertificateProves I c (Some (minimising I v))
AreLevelsProved I (g ∷ gs) (v ∷ vs) (c ∷ cs) = CertificateProves I c (Some (minimising I v)) × (e : Ratio) × IsReachedEnd I v e × AreLevelsProved (next_level I e g) gs vs cs
AreLevelsProved I gs vs cs = ⊥

-- the same for the first levels, and a ray from x at the level after them
abbrev pub ProvesEndless : Instance → List Goal → List Ratio → List Certificate → List Ratio → List Ratio → Type 0
ProvesEndless I gs vs [] x r = IsRay I x r
ProvesEndless I (g ∷ gs) (v ∷ vs) (c ∷ cs) x r = CertificateProves I c (Some (minimising I v)) × (e : Ratio) × IsReachedEnd I v e × ProvesEndless (next_level I e g) gs vs cs x r
ProvesEndless I gs vs cs x r = ⊥

-- a feasible point with its values, by sums that fit
pub record IsPoint (P : Problem) (x vs : List Ratio) : Type 0 where
  pub feasible : IsFeasible P.program x
  pub values : AreValuesAt P x vs
  pub fits : PointFits P x

abbrev pub IsShown : Problem → Outcome → Type 0
IsShown P (Optimal x vs cs) = IsPoint P x vs × RoundsAreOfOneGoal P cs × AreLevelsProved P.program P.later vs cs
IsShown P (Infeasible c) = RoundsAreOfOneGoal P (c ∷ []) × CertificateProves P.program c None
IsShown P (Unbounded x vs cs r) = IsPoint P x vs × RoundsAreOfOneGoal P cs × ProvesEndless P.program P.later vs cs x r
IsShown P (BestSoFar x vs c) = IsPoint P x vs
IsShown P (Unsure c) = Unit {0}

-- no variable may be 0 besides
abbrev pub HaveOneRange : Instance → Type 0
HaveOneRange I = All (λ (v : Variable). v.unless_zero ≡ None) I.variables

-- no variable is whole
abbrev pub IsPlain : Instance → Type 0
IsPlain I = (j : ℕ) → j < width I → IsTrue (variable_at I j).whole → ⊥
