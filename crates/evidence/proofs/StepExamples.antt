-- The instances that grids, leaves of rows and branches over rows are tried on.
use Rattle.std.proofs.Common.{◌≡◌, inl, inr, IfSome, IsSome, ℕ, ◌+◌, ◌<◌, ◌≤◌, ℤ, pos, negsuc, ◌*ℤ◌, IsTrue, Option, None, Some, List, [], ◌∷◌, arith, lit<, lit≤, refl, sym, subst}
use Rattle.std.proofs.lemmas.Int.{ints}
use Rattle.std.proofs.lemmas.List.Elements.{All-head, All-nil}
use Rattle.rational.specs.Ratio.{Ratio, IsNumber, IsFloor, whole, IsSame, negative}
use Rattle.rational.specs.Width.{SumFits}
use Rattle.evidence.specs.Sums.{none, IsWhole, IsMultiple, IsCeiling}
use Rattle.evidence.specs.Width.{TermFits, RowFits, GoalFits, FormFits, LeafFits, StepsFit, RowsFit, PointFits}
use Rattle.evidence.specs.Instance.{alone, Instance, asking, variable_at, row_at, cost_at, entry_at, coefficient_at, minimising}
use Rattle.evidence.specs.Point.{value_at, activity, objective, IsBetween, IsZeroOr, IsFeasible}
use Rattle.evidence.specs.Cases.{Multiplier, Farkas, Bound, Grid, FarkasRows, BoundRows, GridRows, Split, AreLegal, IsGrid, HasStep, IsRowBranch, form, no_costs, goal_costs, end_of, multiplier_at, or_none, at_most, at_least, low_case, high_case, FarkasByRows}
use Rattle.evidence.specs.RowRounds.{IsRowsRound, numbers_of}
use Rattle.evidence.specs.OneDenominator.{number_at}
use Rattle.evidence.specs.Claim.{Accepts}
use Rattle.evidence.specs.Levels.{HasGoalValues}
use Rattle.evidence.specs.Examples.{times, halves, half_the_row, two_by_steps, two_by_row_steps, two_by_rows, two_by_named_variables, two_by_row_rounding, odd, five_by_steps, five_without_steps, pairs, parted, half_weighted, one_by_a_row}
use Rattle.evidence.proofs.Examples.{whole_sums, one, both, stated_one, stated_two, wholes, just, two_of, zeros, halves_feasible, halves_fit, bound_legal, bound_fits, farkas_legal, farkas_fits, bound, farkas}
use Rattle.evidence.proofs.JointExamples.{half_legal, half_fits, half_row, minus_five_halves, five_halves-reduced, after_round}
use Rattle.evidence.proofs.PendingNodes.{start, bound_step, grid_step, split_step, row_split_step, bound_rows_step, farkas_rows_step}

two_values : HasGoalValues (alone halves) (whole (pos 2) ∷ []) (whole (pos 2) ∷ [])
two_values = record { feasible = halves_feasible; count = refl; numbers = just IsNumber (whole (pos 2)) (lit< tt); values = one (λ k. IsSame (value_at (whole (pos 2) ∷ []) k) (objective (asking (alone halves) k) (whole (pos 2) ∷ []))) refl }

-- steps of 1

steps_of_one : HasStep halves (whole (pos 1))
steps_of_one = record {
  number = lit< tt;
  above = omega (arith, ints);
  multiples = one (λ j. IsTrue (variable_at halves j).whole → IsMultiple (whole (pos 1)) (minimising halves (cost_at halves j))) (λ h. record { number = negsuc 0; same = refl });
  others = one (λ j. (IsTrue (variable_at halves j).whole → ⊥) → IsSame (minimising halves (cost_at halves j)) none) (λ h. absurd (h refl));
}

half_grid : IsGrid halves (whole (pos 1)) half_row (whole (negsuc 1))
half_grid = record {
  legal = half_legal;
  costs = one (λ j. IsSame (form halves half_row j) (minimising halves (cost_at halves j))) refl;
  step = steps_of_one;
  steps = negsuc 1;
  rounded = record { low = omega (arith, ints); high = omega (arith, ints) };
  reaches = omega (arith, ints);
}

half_steps : StepsFit halves (whole (pos 1)) half_row
half_steps = record {
  steps = record { number = lit< tt; form = minus_five_halves; same = refl; reduced = five_halves-reduced; within = (lit≤ tt, lit≤ tt) };
  value = λ k c.
      let low = c.low in
      let high = c.high in
      let e : negsuc 1 ≡ k = omega (arith, ints) in
      subst (λ k. TermFits none (whole k) (whole (pos 1))) e (wholes none (whole (negsuc 1)) (whole (pos 1)) (pos 0) (negsuc 1) (lit< tt) (lit< tt) refl refl (lit≤ tt) (lit≤ tt) (lit≤ tt));
}

pub steps : Accepts (alone halves) (two_by_steps (whole (pos 1)))
steps = (two_values, halves_fit, inl refl, record { tree = Grid (whole (pos 1)) half_row; listed = refl; shows = half_grid; fits = (half_fits, half_steps) })

-- no step of 2: the cost is 1
odd_step : (n : ℤ) → negsuc 0 *ℤ pos 1 ≡ (n *ℤ pos 2) *ℤ pos 1 → ⊥
odd_step n e = omega (arith, ints)

pub large_step : Accepts (alone halves) (two_by_steps (whole (pos 2))) → ⊥
large_step (v, f, r, p) =
    let s = (start halves _ (Some (whole (negsuc 1)))).0 p in
    let g = (grid_step halves [] (whole (pos 2)) half_row [] (whole (negsuc 1))).0 s in
    let m = g.0.step.multiples 0 (lit< tt) refl in
    odd_step m.number m.same

-- rows alone

left_fits : (I : Instance) (t : ℕ → Ratio) (ms : List Multiplier) (m n : ℤ) → IsNumber (t 0) → IsNumber (form I ms 0) → IsSame (t 0) (whole m) → IsSame (negative (form I ms 0)) (whole n) → Rattle.evidence.proofs.Examples.AreSmall m n → SumFits (t 0) (negative (form I ms 0))
left_fits I t ms m n pt pf et ef s = whole_sums (t 0) (negative (form I ms 0)) m n pt pf et ef s

half_rows : RowsFit halves none (goal_costs halves) half_row
half_rows = record {
  forms = half_fits.forms;
  left = one (λ j. SumFits (goal_costs halves j) (negative (form halves half_row j))) (left_fits halves (goal_costs halves) half_row (negsuc 0) (pos 1) (lit< tt) (lit< tt) refl refl (record { left = lit≤ tt; right = lit≤ tt; all = lit≤ tt }));
  low = half_fits.low;
}

pub row_steps : Accepts (alone halves) two_by_row_steps
row_steps = (two_values, halves_fit, inl refl, record { tree = GridRows (whole (pos 1)) half_row; listed = refl; shows = (just (λ m. 1 ≤ m.column) half_the_row (lit≤ tt), half_grid); fits = (half_rows, half_steps) })

abbrev row_alone : List Multiplier
row_alone = times 1 (negsuc 0) ∷ []

bound_rows : RowsFit (at_most halves 0 (pos 2)) none (goal_costs halves) []
bound_rows = record {
  forms = λ j h. record { steps = λ k l. absurd (omega arith) };
  left = one (λ j. SumFits (goal_costs halves j) (negative (form (at_most halves 0 (pos 2)) [] j))) (left_fits (at_most halves 0 (pos 2)) (goal_costs halves) [] (negsuc 0) (pos 0) (lit< tt) (lit< tt) refl refl (record { left = lit≤ tt; right = lit≤ tt; all = lit≤ tt }));
  low = bound_fits.low;
}

farkas_rows : RowsFit (at_least halves 0 (pos 3)) none no_costs row_alone
farkas_rows = record {
  forms = one (λ j. FormFits (at_least halves 0 (pos 3)) row_alone j)
      (stated_one none (λ k. (multiplier_at row_alone k).by) (λ k. coefficient_at (at_least halves 0 (pos 3)) (multiplier_at row_alone k).column 0) (wholes none (whole (negsuc 0)) (whole (pos 2)) (pos 0) (negsuc 1) (lit< tt) (lit< tt) refl refl (lit≤ tt) (lit≤ tt) (lit≤ tt)));
  left = one (λ j. SumFits (no_costs j) (negative (form (at_least halves 0 (pos 3)) row_alone j))) (left_fits (at_least halves 0 (pos 3)) no_costs row_alone (pos 0) (pos 2) (lit< tt) (lit< tt) refl refl (record { left = lit≤ tt; right = lit≤ tt; all = lit≤ tt }));
  low = farkas_fits.low;
}

pub rows_alone : Accepts (alone halves) two_by_rows
rows_alone = (
  two_values,
  halves_fit,
  inl refl,
  record {
    tree = Split 0 (pos 2) (BoundRows []) (FarkasRows row_alone);
    listed = refl;
    shows = (
      inl (record { variable = lit< tt; whole = refl; low = omega (arith, ints); high = omega (arith, ints) }),
      (All-nil (λ m. 1 ≤ m.column), record { legal = bound_legal; costs = one (λ j. IsSame (form (at_most halves 0 (pos 2)) bound j) (minimising halves (cost_at halves j))) refl; reaches = omega (arith, ints) }),
      (just (λ m. 1 ≤ m.column) (times 1 (negsuc 0)) (lit≤ tt), record { legal = farkas_legal; vanishes = one (λ j. IsSame (form (at_least halves 0 (pos 3)) farkas j) none) refl; above = omega (arith, ints) }),
    );
    fits = (bound_rows, farkas_rows);
  },
)

abbrev named : List Multiplier
named = times 0 (pos 2) ∷ times 1 (negsuc 0) ∷ []

pub named_variables : Accepts (alone halves) two_by_named_variables → ⊥
named_variables (v, f, r, p) =
    let z : Option Ratio = Some (whole (negsuc 1)) in
    let s = (start halves _ z).0 p in
    let t = (split_step halves [] 0 (pos 2) _ z (lit< tt)).0 s in
    let u = (bound_rows_step (at_most halves 0 (pos 2)) (at_least halves 0 (pos 3) ∷ []) [] (FarkasByRows named ∷ []) (whole (negsuc 1))).0 t.1 in
    let w = (farkas_rows_step (at_least halves 0 (pos 3)) [] named [] z).0 u.2 in
    let h : 1 ≤ 0 = All-head (λ m. 1 ≤ m.column) (times 0 (pos 2)) (times 1 (negsuc 0) ∷ []) w.0.0 in
    omega arith

-- a round of rows

row_round : IsRowsRound halves half_row (negsuc 0 ∷ []) (negsuc 1)
row_round = record {
  rows = just (λ m. 1 ≤ m.column) half_the_row (lit≤ tt);
  count = refl;
  up = one (λ j. IsTrue (variable_at halves j).whole → IsSome (variable_at halves j).range.lb → IsCeiling (form halves half_row j) (number_at (negsuc 0 ∷ []) j)) (λ w s. record { low = omega (arith, ints); high = omega (arith, ints) });
  down = one (λ j. IsTrue (variable_at halves j).whole → (variable_at halves j).range.lb ≡ None → IsFloor (form halves half_row j) (number_at (negsuc 0 ∷ []) j)) (λ w e. absurd (cc));
  others = one (λ j. (IsTrue (variable_at halves j).whole → ⊥) → number_at (negsuc 0 ∷ []) j ≡ pos 0) (λ h. absurd (h refl));
  legal = half_legal;
  rounded = record { low = omega (arith, ints); high = omega (arith, ints) };
}

round_rows : RowsFit halves none (numbers_of (negsuc 0 ∷ [])) half_row
round_rows = record {
  forms = half_fits.forms;
  left = one (λ j. SumFits (numbers_of (negsuc 0 ∷ []) j) (negative (form halves half_row j))) (left_fits halves (numbers_of (negsuc 0 ∷ [])) half_row (negsuc 0) (pos 1) (lit< tt) (lit< tt) refl refl (record { left = lit≤ tt; right = lit≤ tt; all = lit≤ tt }));
  low = half_fits.low;
}

pub row_rounding : Accepts (alone halves) two_by_row_rounding
row_rounding = (two_values, halves_fit, inl refl, (negsuc 0 ∷ [], negsuc 1, row_round, round_rows, after_round))

-- a branch over a row

abbrev at : List Ratio
at = whole (pos 1) ∷ none ∷ []

pairs_feasible : IsFeasible pairs at
pairs_feasible = record {
  count = refl;
  numbers = two_of IsNumber (whole (pos 1)) none (lit< tt) (lit< tt);
  variables = both (λ j. IsBetween (variable_at pairs j).range (value_at at j)) (record { low = omega (arith, ints); high = tt }) (record { low = omega (arith, ints); high = tt });
  rows = both (λ i. IsBetween (row_at pairs i) (activity pairs at i)) (record { low = tt; high = omega (arith, ints) }) (record { low = tt; high = tt });
  whole = both (λ j. IsTrue (variable_at pairs j).whole → IsWhole (value_at at j)) (λ h. record { number = pos 1; same = refl }) (λ h. record { number = pos 0; same = refl });
  further = both (λ j. IfSome (variable_at pairs j).unless_zero (λ r. IsZeroOr r (value_at at j))) tt tt;
}

pairs_fit : PointFits (alone pairs) at
pairs_fit = record {
  rows = both (λ i. RowFits pairs at i)
      (stated_two none (entry_at pairs.entries 0) (value_at at) (wholes none (whole (pos 2)) (whole (pos 1)) (pos 0) (pos 2) (lit< tt) (lit< tt) refl refl (lit≤ tt) (lit≤ tt) (lit≤ tt)) (zeros (whole (pos 2)) (whole (pos 2)) none refl))
      (stated_two none (entry_at pairs.entries 1) (value_at at) (wholes none (whole (pos 1)) (whole (pos 1)) (pos 0) (pos 1) (lit< tt) (lit< tt) refl refl (lit≤ tt) (lit≤ tt) (lit≤ tt)) (zeros (whole (pos 1)) (whole (pos 1)) none refl));
  goals = one (λ k. GoalFits (asking (alone pairs) k) at)
      (stated_two none (cost_at pairs) (value_at at) (wholes none (whole (pos 1)) (whole (pos 1)) (pos 0) (pos 1) (lit< tt) (lit< tt) refl refl (lit≤ tt) (lit≤ tt) (lit≤ tt)) (zeros (whole (pos 1)) (whole (pos 1)) none refl));
}

abbrev few : Instance
few = low_case pairs 3 (pos 1)

abbrev many : Instance
many = high_case pairs 3 (pos 2)

abbrev by_few : List Multiplier
by_few = times 3 (negsuc 0) ∷ []

abbrev by_many : List Multiplier
by_many = times 2 (negsuc 0) ∷ times 3 (pos 2) ∷ []

few_legal : AreLegal few by_few
few_legal = record {
  numbers = just (λ m. IsNumber m.by) (times 3 (negsuc 0)) (lit< tt);
  columns = just (λ m. m.column < 4) (times 3 (negsuc 0)) (lit< tt);
  ascending = λ k h. absurd (omega arith);
  nonzero = just (λ m. m.by.num ≡ pos 0 → ⊥) (times 3 (negsuc 0)) (λ e. cc);
  ends = just (λ m. IsSome (end_of few m)) (times 3 (negsuc 0)) refl;
}

many_legal : AreLegal many by_many
many_legal = record {
  numbers = two_of (λ m. IsNumber m.by) (times 2 (negsuc 0)) (times 3 (pos 2)) (lit< tt) (lit< tt);
  columns = two_of (λ m. m.column < 4) (times 2 (negsuc 0)) (times 3 (pos 2)) (lit< tt) (lit< tt);
  ascending = λ k h. one (λ k. (multiplier_at by_many k).column < (multiplier_at by_many (k + 1)).column) (lit< tt) k (omega arith);
  nonzero = two_of (λ m. m.by.num ≡ pos 0 → ⊥) (times 2 (negsuc 0)) (times 3 (pos 2)) (λ e. cc) (λ e. absurd (omega (arith, ints)));
  ends = two_of (λ m. IsSome (end_of many m)) (times 2 (negsuc 0)) (times 3 (pos 2)) refl refl;
}

abbrev by_of : List Multiplier → ℕ → Ratio
by_of ms k = (multiplier_at ms k).by

abbrev coefficient_of : Instance → List Multiplier → ℕ → ℕ → Ratio
coefficient_of I ms j k = coefficient_at I (multiplier_at ms k).column j

abbrev end_at : Instance → List Multiplier → ℕ → Ratio
end_at I ms k = or_none (end_of I (multiplier_at ms k))

few_form : (j : ℕ) → coefficient_at few 3 j ≡ whole (pos 1) → FormFits few by_few j
few_form j e = stated_one none (by_of by_few) (coefficient_of few by_few j) (subst (λ c. TermFits none (whole (negsuc 0)) c) (sym e) (wholes none (whole (negsuc 0)) (whole (pos 1)) (pos 0) (negsuc 0) (lit< tt) (lit< tt) refl refl (lit≤ tt) (lit≤ tt) (lit≤ tt)))

few_fits : LeafFits few none by_few
few_fits = record {
  forms = both (λ j. FormFits few by_few j) (few_form 0 refl) (few_form 1 refl);
  low = stated_one none (by_of by_few) (end_at few by_few) (wholes none (whole (negsuc 0)) (whole (pos 1)) (pos 0) (negsuc 0) (lit< tt) (lit< tt) refl refl (lit≤ tt) (lit≤ tt) (lit≤ tt));
}

many_fits : LeafFits many none by_many
many_fits = record {
  forms = both (λ j. FormFits many by_many j)
      (stated_two none (by_of by_many) (coefficient_of many by_many 0)
      (wholes none (whole (negsuc 0)) (whole (pos 2)) (pos 0) (negsuc 1) (lit< tt) (lit< tt) refl refl (lit≤ tt) (lit≤ tt) (lit≤ tt))
      (wholes (whole (negsuc 1)) (whole (pos 2)) (whole (pos 1)) (negsuc 1) (pos 2) (lit< tt) (lit< tt) refl refl (lit≤ tt) (lit≤ tt) (lit≤ tt)))
      (stated_two none (by_of by_many) (coefficient_of many by_many 1)
      (wholes none (whole (negsuc 0)) (whole (pos 2)) (pos 0) (negsuc 1) (lit< tt) (lit< tt) refl refl (lit≤ tt) (lit≤ tt) (lit≤ tt))
      (wholes (whole (negsuc 1)) (whole (pos 2)) (whole (pos 1)) (negsuc 1) (pos 2) (lit< tt) (lit< tt) refl refl (lit≤ tt) (lit≤ tt) (lit≤ tt)));
  low = stated_two none (by_of by_many) (end_at many by_many)
      (wholes none (whole (negsuc 0)) (whole (pos 3)) (pos 0) (negsuc 2) (lit< tt) (lit< tt) refl refl (lit≤ tt) (lit≤ tt) (lit≤ tt))
      (wholes (whole (negsuc 2)) (whole (pos 2)) (whole (pos 2)) (negsuc 2) (pos 4) (lit< tt) (lit< tt) refl refl (lit≤ tt) (lit≤ tt) (lit≤ tt));
}

whole_row : IsRowBranch pairs 3 (pos 1)
whole_row = record {
  past = lit≤ tt;
  inside = lit< tt;
  whole = record {
    entries = both (λ j. IsTrue (variable_at pairs j).whole → IsWhole (entry_at pairs.entries 1 j)) (λ h. record { number = pos 1; same = refl }) (λ h. record { number = pos 1; same = refl });
    others = both (λ j. (IsTrue (variable_at pairs j).whole → ⊥) → IsSame (entry_at pairs.entries 1 j) none) (λ h. absurd (h refl)) (λ h. absurd (h refl));
  };
  low = omega (arith, ints);
  high = omega (arith, ints);
}

pub row_branch : Accepts (alone pairs) one_by_a_row
row_branch = (
  record { feasible = pairs_feasible; count = refl; numbers = just IsNumber (whole (pos 1)) (lit< tt); values = one (λ k. IsSame (value_at (whole (pos 1) ∷ []) k) (objective (asking (alone pairs) k) at)) refl },
  pairs_fit,
  inl refl,
  record {
    tree = Split 3 (pos 1) (Bound by_few) (Farkas by_many);
    listed = refl;
    shows = (
      inr whole_row,
      record { legal = few_legal; costs = both (λ j. IsSame (form few by_few j) (minimising pairs (cost_at pairs j))) refl refl; reaches = omega (arith, ints) },
      record { legal = many_legal; vanishes = both (λ j. IsSame (form many by_many j) none) refl refl; above = omega (arith, ints) },
    );
    fits = (few_fits, many_fits);
  },
)

-- a row that isn't whole has no branch: where a variable of it isn't, and where an entry isn't

pub part_row : Accepts (alone parted) one_by_a_row → ⊥
part_row (v, f, r, p) =
    let z : Option Ratio = Some (whole (negsuc 0)) in
    let s = (start parted _ z).0 p in
    let t = (row_split_step parted [] 1 (pos 1) _ z).0 s in
    let e = t.0.whole.others 1 (lit< tt) (λ h. cc) in
    absurd (omega (arith, ints))

no_half : (n : ℤ) → pos 1 *ℤ pos 1 ≡ n *ℤ pos 2 → ⊥
no_half n e = omega (arith, ints)

pub half_entry : Accepts (alone half_weighted) one_by_a_row → ⊥
half_entry (v, f, r, p) =
    let z : Option Ratio = Some (whole (negsuc 0)) in
    let s = (start half_weighted _ z).0 p in
    let t = (row_split_step half_weighted [] 1 (pos 1) _ z).0 s in
    let w = t.0.whole.entries 1 (lit< tt) refl in
    no_half w.number w.same

-- a goal with a constant, in steps of 2

odd_values : HasGoalValues (alone odd) (whole (pos 2) ∷ []) (whole (pos 5) ∷ [])
odd_values = let h = halves_feasible in record {
  feasible = record { count = h.count; numbers = h.numbers; variables = h.variables; rows = h.rows; whole = h.whole; further = h.further };
  count = refl;
  numbers = just IsNumber (whole (pos 5)) (lit< tt);
  values = one (λ k. IsSame (value_at (whole (pos 5) ∷ []) k) (objective (asking (alone odd) k) (whole (pos 2) ∷ []))) refl;
}

odd_fit : PointFits (alone odd) (whole (pos 2) ∷ [])
odd_fit = record {
  rows = halves_fit.rows;
  goals = one (λ k. GoalFits (asking (alone odd) k) (whole (pos 2) ∷ []))
      (stated_one (whole (pos 1)) (cost_at odd) (value_at (whole (pos 2) ∷ [])) (wholes (whole (pos 1)) (whole (pos 2)) (whole (pos 2)) (pos 1) (pos 4) (lit< tt) (lit< tt) refl refl (lit≤ tt) (lit≤ tt) (lit≤ tt)));
}

odd_legal : AreLegal odd row_alone
odd_legal = record {
  numbers = just (λ m. IsNumber m.by) (times 1 (negsuc 0)) (lit< tt);
  columns = just (λ m. m.column < 2) (times 1 (negsuc 0)) (lit< tt);
  ascending = λ k h. absurd (omega arith);
  nonzero = just (λ m. m.by.num ≡ pos 0 → ⊥) (times 1 (negsuc 0)) (λ e. cc);
  ends = just (λ m. IsSome (end_of odd m)) (times 1 (negsuc 0)) refl;
}

odd_row_fits : LeafFits odd none row_alone
odd_row_fits = record {
  forms = one (λ j. FormFits odd row_alone j)
      (stated_one none (by_of row_alone) (coefficient_of odd row_alone 0) (wholes none (whole (negsuc 0)) (whole (pos 2)) (pos 0) (negsuc 1) (lit< tt) (lit< tt) refl refl (lit≤ tt) (lit≤ tt) (lit≤ tt)));
  low = stated_one none (by_of row_alone) (end_at odd row_alone) (wholes none (whole (negsuc 0)) (whole (pos 5)) (pos 0) (negsuc 4) (lit< tt) (lit< tt) refl refl (lit≤ tt) (lit≤ tt) (lit≤ tt));
}

odd_grid : IsGrid odd (whole (pos 2)) row_alone (whole (negsuc 4))
odd_grid = record {
  legal = odd_legal;
  costs = one (λ j. IsSame (form odd row_alone j) (minimising odd (cost_at odd j))) refl;
  step = record {
    number = lit< tt;
    above = omega (arith, ints);
    multiples = one (λ j. IsTrue (variable_at odd j).whole → IsMultiple (whole (pos 2)) (minimising odd (cost_at odd j))) (λ h. record { number = negsuc 0; same = refl });
    others = one (λ j. (IsTrue (variable_at odd j).whole → ⊥) → IsSame (minimising odd (cost_at odd j)) none) (λ h. absurd (h refl));
  };
  steps = negsuc 1;
  rounded = record { low = omega (arith, ints); high = omega (arith, ints) };
  reaches = omega (arith, ints);
}

odd_steps : StepsFit odd (whole (pos 2)) row_alone
odd_steps = record {
  steps = record { number = lit< tt; form = minus_five_halves; same = refl; reduced = five_halves-reduced; within = (lit≤ tt, lit≤ tt) };
  value = λ k c.
      let low = c.low in
      let high = c.high in
      let e : negsuc 1 ≡ k = omega (arith, ints) in
      subst (λ k. TermFits (whole (negsuc 0)) (whole k) (whole (pos 2))) e (wholes (whole (negsuc 0)) (whole (negsuc 1)) (whole (pos 2)) (negsuc 0) (negsuc 3) (lit< tt) (lit< tt) refl refl (lit≤ tt) (lit≤ tt) (lit≤ tt));
}

pub constant : Accepts (alone odd) five_by_steps
constant = (odd_values, odd_fit, inl refl, record { tree = Grid (whole (pos 2)) row_alone; listed = refl; shows = odd_grid; fits = (odd_row_fits, odd_steps) })

pub constant_alone : Accepts (alone odd) five_without_steps → ⊥
constant_alone (v, f, r, p) =
    let s = (start odd _ (Some (whole (negsuc 4)))).0 p in
    let b = (bound_step odd [] row_alone [] (whole (negsuc 4))).0 s in
    let r = b.0.reaches in
    absurd (omega (arith, ints))
