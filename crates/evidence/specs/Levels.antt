-- Several goals in order, level by level (lexicographic optimisation): each level asks its goal of the points that reach the values before it, by one more row for each.
use Rattle.std.specs.Prelude.{◌≡◌, ◌⊎◌, ℕ, ◌<◌, Some, List, [], ◌∷◌, length}
use Rattle.std.specs.List.{All}
use Rattle.rational.specs.Ratio.{Ratio, sum, negative, IsSame, IsNumber}
use Rattle.rational.specs.Width.{IsReduced, SumFits}
use Rattle.evidence.specs.Instance.{Goal, Instance, Problem, goals, asking, cost_at, minimising}
use Rattle.evidence.specs.Point.{value_at, objective, IsFeasible, IsBetter, IsRay}
use Rattle.evidence.specs.Width.{RayFits}
use Rattle.evidence.specs.AddedRows.{with_row}
use Rattle.evidence.specs.Rounds.{Certificate, CertificateShows}

-- at the first goal at which their objectives differ, that of y is better
pub record IsBetterPoint (P : Problem) (y x : List Ratio) : Type 0 where
  pub at : ℕ
  pub inside : at < length (goals P)
  pub before : (k : ℕ) → k < at → IsSame (objective (asking P k) y) (objective (asking P k) x)
  pub better : IsBetter (asking P at) (objective (asking P at) y) (objective (asking P at) x)

-- a feasible point with these values, one for each goal
pub record HasGoalValues (P : Problem) (x vs : List Ratio) : Type 0 where
  pub feasible : IsFeasible P.program x
  pub count : length vs ≡ length (goals P)
  pub numbers : All IsNumber vs
  pub values : (k : ℕ) → k < length (goals P) → IsSame (value_at vs k) (objective (asking P k) x)

-- e, in lowest terms, is the minimising value v without the goal's constant, by a difference that fits
pub record IsReachedEnd (I : Instance) (v e : Ratio) : Type 0 where
  pub fits : SumFits (minimising I v) (negative (minimising I I.goal.constant))
  pub reduced : IsReduced e
  pub same : IsSame e (sum (minimising I v) (negative (minimising I I.goal.constant)))

-- the level after the instance's: goal g, where the instance's minimising goal without its constant is e
abbrev pub next_level : Instance → Ratio → Goal → Instance
next_level I e g = record (with_row I (record { lb = Some e; ub = Some e }) (λ j. minimising I (cost_at I j))) { goal = g }

-- a tree for each level, by which no point that has the values before has a better one of that level's goal
abbrev pub AreBest : Instance → List Goal → List Ratio → List Certificate → Type 0
AreBest I [] (v ∷ []) (c ∷ []) = CertificateShows I c (Some (minimising I v))
AreBest I (g ∷ gs) (v ∷ vs) (c ∷ cs) = CertificateShows I c (Some (minimising I v)) × (e : Ratio) × IsReachedEnd I v e × AreBest (next_level I e g) gs vs cs
AreBest I gs vs cs = ⊥

-- the same for the first levels, and a ray from x at the level after them
abbrev pub AreEndless : Instance → List Goal → List Ratio → List Certificate → List Ratio → List Ratio → Type 0
AreEndless I gs vs [] x r = IsRay I x r × RayFits I r
AreEndless I (g ∷ gs) (v ∷ vs) (c ∷ cs) x r = CertificateShows I c (Some (minimising I v)) × (e : Ratio) × IsReachedEnd I v e × AreEndless (next_level I e g) gs vs cs x r
AreEndless I gs vs cs x r = ⊥

-- rounds are of programs with one goal
abbrev pub RoundsAreOfOneGoal : Problem → List Certificate → Type 0
RoundsAreOfOneGoal P cs = (P.later ≡ []) ⊎ All (λ c. c.rounds ≡ []) cs
