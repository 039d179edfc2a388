-- The numbers of an instance's program.
use Rattle.std.proofs.Common.{◌≡◌, ◌≤◌, Bool, true, false, Option, None, Some, IfSome, List, [], ◌∷◌, drop, get_or, length, slice_index_or, lit<, refl, arith}
use Rattle.std.specs.List.{All}
use Rattle.std.proofs.lemmas.List.Elements.{All-map, All-nil}
use Rattle.rational.specs.Ratio.{Ratio, IsNumber}
use Rattle.fraction.specs.Frac.{ratio}
use Rattle.fraction.specs.declared.ends.End.{End}
use Rattle.fraction.specs.declared.ends.End.TheVariants.{NegInf, At, Inf}
use Rattle.evidence.specs.Sums.{none, is_below}
use Rattle.evidence.specs.SemiVariables.{low_or_zero, high_or_zero}
use Rattle.evidence.proofs.Columns.{pick}
use Rattle.evidence.specs.Instance as Of
use Rattle.evidence.specs.Instance.{IsInstance, IsGoalOfNumbers, IsProblem, HasNumbers, no_goal}
use Rattle.instance.specs.Parts.{Parts, IsValid}
use Rattle.instance.specs.Program.{limit, range, range_by, further_by, variable, row, entry, goal, goals, program, problem}
use Rattle.instance.specs.declared.parts.Goal.{Goal}

limit-number : (e : End) → IfSome (limit e) IsNumber
limit-number NegInf = tt
limit-number (At x) = x.above
limit-number Inf = tt

pub range-numbers : (lb ub : End) → HasNumbers (range lb ub)
range-numbers lb ub = (limit-number lb, limit-number ub)

low-number : (o : Option Ratio) → IfSome o IsNumber → IfSome (low_or_zero o) IsNumber
low-number None h = h
low-number (Some l) h = pick (λ o. IfSome o IsNumber) (is_below none l) (Some none) (Some l) (lit< tt) h

high-number : (o : Option Ratio) → IfSome o IsNumber → IfSome (high_or_zero o) IsNumber
high-number None h = h
high-number (Some u) h = pick (λ o. IfSome o IsNumber) (is_below u none) (Some none) (Some u) (lit< tt) h

by-numbers : (zero : Bool) (lb ub : End) → HasNumbers (range_by zero (range lb ub))
by-numbers true lb ub = (low-number (limit lb) (limit-number lb), high-number (limit ub) (limit-number ub))
by-numbers false lb ub = range-numbers lb ub

pub further-numbers : (zero : Bool) (lb ub : End) → IfSome (further_by zero (range lb ub)) HasNumbers
further-numbers true lb ub = range-numbers lb ub
further-numbers false lb ub = tt

goal-numbers : (g : Goal) → IsGoalOfNumbers (goal g)
goal-numbers g = record { constant = g.constant.above; costs = All-map IsNumber ratio g.costs (λ k d h. (slice_index_or g.costs k d).above) }

no_goal-numbers : IsGoalOfNumbers no_goal
no_goal-numbers = record { constant = lit< tt; costs = All-nil IsNumber }

first_goal : (gs : List Goal) → IsGoalOfNumbers (get_or (goals gs) 0 no_goal)
first_goal [] = no_goal-numbers
first_goal (g ∷ gs) = goal-numbers g

later_goals : (gs : List Goal) → All IsGoalOfNumbers (drop 1 (goals gs))
later_goals [] = All-nil IsGoalOfNumbers
later_goals (g ∷ gs) = All-map IsGoalOfNumbers goal gs (λ k d h. goal-numbers (slice_index_or gs k d))

pub program-instance : (p : Parts) → IsInstance (program p)
program-instance p = record {
  variables = All-map (λ v. HasNumbers v.range) variable p.vars (λ k d h. by-numbers (slice_index_or p.vars k d).zero (slice_index_or p.vars k d).lb (slice_index_or p.vars k d).ub);
  further = All-map (λ v. IfSome v.unless_zero HasNumbers) variable p.vars (λ k d h. further-numbers (slice_index_or p.vars k d).zero (slice_index_or p.vars k d).lb (slice_index_or p.vars k d).ub);
  rows = All-map HasNumbers row p.rows (λ k d h. range-numbers _ _);
  entries = All-map (λ e. IsNumber e.value) entry p.entries (λ k d h. (slice_index_or p.entries k d).value.above);
  constant = (first_goal p.goals).constant;
  costs = (first_goal p.goals).costs;
}

pub problem-numbers : (p : Parts) → IsProblem (problem p)
problem-numbers p = record { program = program-instance p; later = later_goals p.goals }

all_goals : (gs : List Goal) → 1 ≤ length gs → get_or (goals gs) 0 no_goal ∷ drop 1 (goals gs) ≡ goals gs
all_goals [] h = absurd (omega arith)
all_goals (g ∷ gs) h = refl

pub problem-goals : (p : Parts) → IsValid p → Of.goals (problem p) ≡ goals p.goals
problem-goals p valid = all_goals p.goals valid.some_goal
