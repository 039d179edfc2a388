-- The values of a claim, one for each goal.
use Rattle.std.proofs.Common.{◌≡◌, ℕ, ◌<◌, inr, List, length, slice_index_or, arith, sym, ◌∙◌, ap, subst}
use Rattle.std.proofs.lemmas.List.{length-map}
use Rattle.rational.specs.Ratio.{IsNumber, IsSame, product}
use Rattle.rational.proofs.Scaling.{IsSame-trans}
use Rattle.fraction.specs.Frac.{ratio, ratios}
use Rattle.fraction.specs.declared.frac.Frac.{Frac}
use Rattle.evidence.specs.Instance as Of
use Rattle.evidence.specs.Instance.{asking, width, cost_at}
use Rattle.evidence.specs.Point.{value_at, objective}
use Rattle.evidence.specs.Levels.{HasGoalValues}
use Rattle.evidence.proofs.Numbers.{product-number}
use Rattle.evidence.proofs.Totals.{total-number}
use Rattle.evidence.proofs.Columns.{value-number}
use Rattle.instance.specs.Parts.{Parts, IsValid}
use Rattle.instance.specs.Program.{goal, problem, program}
use Rattle.instance.specs.Feasibility.{IsFeasibleWithin}
use Rattle.instance.proofs.Numbers.{problem-goals}
use Rattle.instance.proofs.Search.{point-numbers}
use Rattle.instance.proofs.Terms.{read, ratios-number}
use Rattle.cert_checker.specs.Points.{ValuesBelow, ValueRefuses, ValuesRefuse}
use Rattle.cert_checker.specs.declared.refused.Refused.{Refused}
use Rattle.cert_checker.proofs.HandRows.{goal-numbers-at}

pub goals_count : (p : Parts) → IsValid p → length (Of.goals (problem p)) ≡ length p.goals
goals_count p valid = ap length (problem-goals p valid) ∙ length-map p.goals goal

pub objective-number : (p : Parts) (x : List Frac) (k : ℕ) → IsNumber (objective (asking (problem p) k) (ratios x))
objective-number p x k =
    let g = goal-numbers-at p k in
    total-number (asking (problem p) k).goal.constant (width (program p)) (λ j. product (cost_at (asking (problem p) k) j) (value_at (ratios x) j)) g.constant
    (λ j. product-number (cost_at (asking (problem p) k) j) (value_at (ratios x) j) (value-number (asking (problem p) k).goal.costs g.costs j) (ratios-number x j))

-- the value at a place, beside the objective's sum
module _ (p : Parts) (x vs : List Frac) (k : ℕ) (v s : Frac) (h : k < length vs) (is : v ≡ slice_index_or vs k v) (es : IsSame (ratio s) (objective (asking (problem p) k) (ratios x))) where
  pub value_to : IsSame (ratio v) (ratio s) → IsSame (value_at (ratios vs) k) (objective (asking (problem p) k) (ratios x))
  value_to e = subst (λ w. IsSame w (objective (asking (problem p) k) (ratios x))) (sym (read vs k v h is)) (IsSame-trans (ratio v) (ratio s) (objective (asking (problem p) k) (ratios x)) s.above e es)

  pub value_from : IsSame (value_at (ratios vs) k) (objective (asking (problem p) k) (ratios x)) → IsSame (ratio v) (ratio s)
  value_from e = IsSame-trans (ratio v) (objective (asking (problem p) k) (ratios x)) (ratio s) (objective-number p x k) (subst (λ w. IsSame w (objective (asking (problem p) k) (ratios x))) (read vs k v h is) e) (sym es)

module _ (p : Parts) (valid : IsValid p) (x vs : List Frac) (count : length vs ≡ length p.goals) (feasible : IsFeasibleWithin (program p) (ratios x)) (values : ValuesBelow (problem p) (ratios x) (ratios vs) (length p.goals)) where
  pub has_values : HasGoalValues (problem p) (ratios x) (ratios vs)
  has_values =
      let g = goals_count p valid in
      record {
        feasible = feasible.feasible;
        count = length-map vs ratio ∙ count ∙ sym g;
        numbers = point-numbers vs;
        values = λ k h. (values k (omega arith)).is;
      }

pub first_value : (p : Parts) (valid : IsValid p) (x vs : List Frac) (k : ℕ) (r : Refused) → length vs ≡ length p.goals → k < length p.goals → ValuesBelow (problem p) (ratios x) (ratios vs) k → ValueRefuses (problem p) (ratios x) (ratios vs) k r → ValuesRefuse (problem p) (ratios x) (ratios vs) r
first_value p valid x vs k r count h below why =
    let g = goals_count p valid in
    inr (length-map vs ratio ∙ count ∙ sym g, record { goal = k; inside = omega arith; below = below; why = why })
