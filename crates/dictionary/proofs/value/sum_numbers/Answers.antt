use Rattle.std.proofs.Common.{◌≡◌, ℕ, ◌<◌, ◌≤◌, ◌+◌, ◌-◌, Bool, cond, FitsSigned, w64, rules, arith, sym, ◌∙◌, ap, subst, ◌&&◌}
use Rattle.std.specs.Prelude.{unsigned_abs}
use Rattle.std.proofs.lemmas.Int.{to_z-of_z}
use Rattle.common_rows.specs.Row.{over}
use Rattle.common_rows.specs.Accumulators.{sum_of}
use Rattle.common_rows.proofs.Accumulators.{factored, factored_fits}
use Rattle.rational.specs.Ratio.{IsSame}
use Rattle.rational.proofs.Scaling.{IsSame-trans}
use Rattle.fraction.specs.Frac.{ratio}
use Rattle.bases.specs.Dictionary.{value_by}
use Rattle.instance.proofs.Terms.{at_err}
use Rattle.marks.specs.Marks.{size_of, is_marked}
use Rattle.dictionary.specs.Numbers.{HasNumber}
use Rattle.dictionary.specs.Rows.{numbers_of, entries_at}
use Rattle.dictionary.specs.Dict.{place_values}
use Rattle.dictionary.specs.Steps.{nonzeros}
use Rattle.dictionary.proofs.RowForms.{numbers-number, common_same, has_inside, has_below, has_marked, sized_above}
use Rattle.dictionary.proofs.RowValues.{counted_next, counted_up, both_has, both_passed, summed_none, summed_more, summed_wide, summed_all}
use Rattle.dictionary.proofs.value.sum_numbers.Goals as goal
use Rattle.dictionary.proofs.value.sum_numbers.Goals.{After-read-n}

has : (g : _) (c : After-read-n g) → HasNumber (numbers_of c.args.row.now) c.in-Some.c
has g c = both_has c.args.row.now c.requires.row.0 c.requires.row.1 c.requires.row.2 c.marks-set.result.now (place_values c.args.places.now) c.marks-set.ensures c.in-Some.c c.in-Some.ensures.first.is

-- the row's denominator
size : (g : _) (c : After-read-n g) → unsigned_abs c.args.row.now.denom ≡ c.unsigned_abs-denom.result
size g c = let d : FitsSigned w64 c.args.row.now.denom = search rules in sym (simp to_z-of_z at c.unsigned_abs-denom.ensures.value)

same : (g : _) (c : After-read-n g) → IsSame (over c.read-n.result c.unsigned_abs-denom.result) (numbers_of c.args.row.now c.in-Some.c)
same g c = subst (λ k. IsSame (over c.read-n.result k) (numbers_of c.args.row.now c.in-Some.c)) (size g c) (common_same c.args.row.now c.requires.common c.in-Some.c c.read-n.result c.read-n.ensures.number)

up : (g : _) (c : After-read-n g) → 0 < c.unsigned_abs-denom.result
up g c = let row = c.args.row.now in subst (λ k. 0 < k) (size g c) (sized_above row.denom row.above)

-- an entry was read: one step
one_step : (g : _) (c : After-read-n g) → c.read-n.new.steps ≡ c.loop-c.steps + 1
unfolding entries_at
one_step g c = c.read-n.ensures.cost ∙ ap (λ (b : Bool). c.loop-c.steps + cond b 1 0) (has_marked c.args.row.now c.requires.row.0 c.requires.row.1 c.requires.row.2 c.in-Some.c (has g c))

pub over-sum-requires : goal.over-sum-requires
over-sum-requires g c =
    let row = c.args.row.now in
    let d : FitsSigned w64 row.denom = search rules in
    let e = simp to_z-of_z at c.unsigned_abs-denom.ensures.value in
    let l = sized_above row.denom row.above in
    omega arith

pub plus_number-requires : goal.plus_number-requires
plus_number-requires g c = up g (goal.at.plus_number-requires g c).After-read-n

pub loop-c-init : goal.loop-c-init
loop-c-init g c =
    let row = c.args.row.now in
    record {
      kept = c.new-walk.ensures (λ k. is_marked c.args.row.now.marks k && is_marked c.marks-set.result.now k);
      summed = λ k w at. summed_none (numbers_of row) (place_values c.args.places.now) (numbers-number row) k w at (sum_of c.over-sum.result) c.over-sum.ensures;
      cost = λ k inside. (omega arith, omega arith);
      counted = omega arith;
    }

pub next_of_both-requires : goal.next_of_both-requires
next_of_both-requires g c = c.loop-c.invariant.kept

pub read-n-requires : goal.read-n-requires
read-n-requires g c =
    let row = c.args.row.now in
    let r = c.requires.row in
    (r.0, r.1, r.2, has_inside row r.0 r.1 r.2 c.in-Some.c (both_has row r.0 r.1 r.2 c.marks-set.result.now (place_values c.args.places.now) c.marks-set.ensures c.in-Some.c c.in-Some.ensures.first.is))

pub overflow_add-from : goal.overflow_add-from
unfolding size_of
overflow_add-from g c =
    let row = c.args.row.now in
    let r = c.requires.row in
    let m = row.marks in
    let few = m.few in
    let columns = r.2.columns in
    let l = has_below row r.0 r.1 r.2 c.in-Some.c (both_has row r.0 r.1 r.2 c.marks-set.result.now (place_values c.args.places.now) c.marks-set.ensures c.in-Some.c c.in-Some.ensures.first.is) in
    record { fits = omega arith }

pub value-requires : goal.value-requires
value-requires g c = c.requires.inside c.in-Some.c (has g (goal.at.value-requires g c).After-read-n)

pub loop-c-preserved : goal.loop-c-preserved
loop-c-preserved g c =
    let row = c.args.row.now in
    let r = c.requires.row in
    let values = place_values c.args.places.now in
    let d : ℕ = c.unsigned_abs-denom.result in
    let n : FitsSigned w64 c.read-n.result = search rules in
    let x = c.value.result.now in
    let before = c.loop-c.sum in
    let more = c.in_ok-sum.sum in
    let first = c.in-Some.ensures.first in
    let at' = (goal.at.loop-c-preserved g c).After-read-n in
    let stands = has g at' in
    let told = same g at' in
    record {
      kept = c.in-Some.ensures.kept;
      summed = λ k w at. summed_more (numbers_of row) values (numbers-number row) k w at c.loop-c.from c.in-Some.c (sum_of before) before.above (c.loop-c.invariant.summed k w at) first.later
          (λ j a l. both_passed row r.0 r.1 r.2 c.marks-set.result.now values c.marks-set.ensures j k w at (first.first j a l)) stands (ratio x) (sym c.value.ensures) (sum_of more) more.above
          (factored (sum_of before) (over c.read-n.result d) (numbers_of row c.in-Some.c) (ratio x) before.above (up g at') (numbers-number row c.in-Some.c) x.above told (sum_of more) more.above (simp to_z-of_z at c.in_ok-sum.ensures.ok))
          (factored_fits (sum_of before) (over c.read-n.result d) (numbers_of row c.in-Some.c) (ratio x) before.above (up g at') (numbers-number row c.in-Some.c) x.above told (simp to_z-of_z at c.in_ok-sum.ensures.fits));
      cost = λ k inside.
          let old = c.loop-c.invariant.cost k inside in
          let l = inside c.in-Some.c stands in
          let a = counted_next c.in-Some.c (numbers_of row) stands in
          let e : c.loop-c.from + (c.in-Some.c - c.loop-c.from) ≡ c.in-Some.c = let f = first.later in omega arith in
          let b = subst (λ m. nonzeros c.loop-c.from (numbers_of row) ≤ nonzeros m (numbers_of row)) e (counted_up c.loop-c.from (c.in-Some.c - c.loop-c.from) (numbers_of row)) in
          let s = one_step g at' in
          (omega arith, omega arith);
      counted = let a = c.loop-c.invariant.counted in let s = one_step g at' in omega arith;
    }

pub returns-in_err-sum-clause-wide : goal.returns-in_err-sum-clause-wide
returns-in_err-sum-clause-wide g c k w at =
    let row = c.args.row.now in
    let r = c.requires.row in
    let values = place_values c.args.places.now in
    let d : ℕ = c.unsigned_abs-denom.result in
    let n : FitsSigned w64 c.read-n.result = search rules in
    let x = c.value.result.now in
    let before = c.loop-c.sum in
    let first = c.in-Some.ensures.first in
    let at' = (goal.at.returns-in_err-sum-clause-wide g c).After-read-n in
    let wide = simp to_z-of_z at c.in_err-sum.ensures.wide in
    at_err c.from_residual.result (summed_wide (numbers_of row) values (numbers-number row) k w at c.loop-c.from c.in-Some.c (sum_of before) before.above (c.loop-c.invariant.summed k w at) first.later
    (λ j a l. both_passed row r.0 r.1 r.2 c.marks-set.result.now values c.marks-set.ensures j k w at (first.first j a l)) (has g at') (ratio x) (sym c.value.ensures)
    (λ f. wide (factored_fits (sum_of before) (numbers_of row c.in-Some.c) (over c.read-n.result d) (ratio x) before.above (numbers-number row c.in-Some.c) (up g at') x.above (sym (same g at')) f)))

pub returns-in_err-sum-clause-cost : goal.returns-in_err-sum-clause-cost
returns-in_err-sum-clause-cost g c k inside =
    let row = c.args.row.now in
    let at' = (goal.at.returns-in_err-sum-clause-cost g c).After-read-n in
    let stands = has g at' in
    let first = c.in-Some.ensures.first in
    let old = c.loop-c.invariant.cost k inside in
    let l = inside c.in-Some.c stands in
    let a = counted_next c.in-Some.c (numbers_of row) stands in
    let e : c.loop-c.from + (c.in-Some.c - c.loop-c.from) ≡ c.in-Some.c = let f = first.later in omega arith in
    let b = subst (λ m. nonzeros c.loop-c.from (numbers_of row) ≤ nonzeros m (numbers_of row)) e (counted_up c.loop-c.from (c.in-Some.c - c.loop-c.from) (numbers_of row)) in
    let e2 : c.in-Some.c + 1 + (k - (c.in-Some.c + 1)) ≡ k = omega arith in
    let u = subst (λ m. nonzeros (c.in-Some.c + 1) (numbers_of row) ≤ nonzeros m (numbers_of row)) e2 (counted_up (c.in-Some.c + 1) (k - (c.in-Some.c + 1)) (numbers_of row)) in
    let s = one_step g at' in
    omega arith

pub returns-clause-ok : goal.returns-clause-ok
returns-clause-ok g c k w at =
    let row = c.args.row.now in
    let r = c.requires.row in
    let values = place_values c.args.places.now in
    let sum = c.loop-c.sum in
    let all = summed_all (numbers_of row) values (numbers-number row) k w at c.loop-c.from (sum_of sum) sum.above (c.loop-c.invariant.summed k w at) (λ j a. both_passed row r.0 r.1 r.2 c.marks-set.result.now values c.marks-set.ensures j k w at (c.in_default.ensures.first j a)) in
    IsSame-trans (ratio c.fraction.result) (sum_of sum) (value_by k (numbers_of row) w) sum.above c.fraction.ensures all.is

pub returns-clause-fits : goal.returns-clause-fits
returns-clause-fits g c k w at =
    let row = c.args.row.now in
    let r = c.requires.row in
    let values = place_values c.args.places.now in
    let sum = c.loop-c.sum in
    let all = summed_all (numbers_of row) values (numbers-number row) k w at c.loop-c.from (sum_of sum) sum.above (c.loop-c.invariant.summed k w at) (λ j a. both_passed row r.0 r.1 r.2 c.marks-set.result.now values c.marks-set.ensures j k w at (c.in_default.ensures.first j a)) in
    all.fits

pub returns-clause-cost : goal.returns-clause-cost
returns-clause-cost g c k inside =
    let row = c.args.row.now in
    let old = c.loop-c.invariant.cost k inside in
    let e : c.loop-c.from + (k - c.loop-c.from) ≡ k = omega arith in
    let u = subst (λ m. nonzeros c.loop-c.from (numbers_of row) ≤ nonzeros m (numbers_of row)) e (counted_up c.loop-c.from (k - c.loop-c.from) (numbers_of row)) in
    omega arith
