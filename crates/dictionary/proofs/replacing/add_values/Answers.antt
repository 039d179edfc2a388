use Rattle.std.proofs.Common.{◌≡◌, ◌+◌, ◌<◌, List, length, arith, refl, sym, ◌∙◌, ap, subst}
use Rattle.rational.specs.Ratio.{Ratio}
use Rattle.fraction.specs.Frac.{ratio, ratios}
use Rattle.fraction.specs.declared.frac.Frac.{Frac}
use Rattle.evidence.specs.Point.{value_at}
use Rattle.evidence.specs.Width.{TermFits}
use Rattle.instance.proofs.Terms.{at_err}
use Rattle.marks.specs.Marks.{size_of}
use Rattle.dictionary.specs.Rows.{numbers_of, either_at}
use Rattle.dictionary.proofs.ChangedSums.{either_below, either_has}
use Rattle.dictionary.proofs.FilledColumns.{IsSumAt, filled_none, filled_next, filled_all, sum_none, sum_told, spread_value}
use Rattle.dictionary.proofs.replacing.add_values.Goals as goal
use Rattle.dictionary.proofs.replacing.add_values.Goals.{In-Some, After-value_of-x, After-value_of-y}

pub loop-c-init : goal.loop-c-init
loop-c-init g c = record {
  kept = c.new-walk.ensures (either_at c.args.row.now c.args.by.now);
  filled = filled_none c.clear.new.self _ _ c.clear.ensures.none c.clear.ensures.found;
  count = c.clear.ensures.count;
  others = c.clear.ensures.rest;
  values = λ j l. ap (λ (xs : List Frac). value_at (ratios xs) j) c.clear.ensures.values;
}

pub next_of_either-requires-clause-kept : goal.next_of_either-requires-clause-kept
next_of_either-requires-clause-kept g c = c.loop-c.invariant.kept

pub next_of_either-requires-clause-size : goal.next_of_either-requires-clause-size
next_of_either-requires-clause-size g c = let r = c.requires.rows in r.2.columns ∙ sym r.1.columns

inside : (g : _) (c : In-Some g) → c.in-Some.c + 1 < length c.loop-c.scratch.values.items
inside g c =
    let r = c.requires.rows in
    let l = either_below c.args.row.now c.args.by.now _ r.0 r.1 r.2 c.in-Some.c c.in-Some.ensures.first.is in
    let n = c.loop-c.invariant.count in
    omega arith

pub value_of-x-requires-clause-marks : goal.value_of-x-requires-clause-marks
value_of-x-requires-clause-marks g c =
    let r = c.requires.rows in
    let l = either_below c.args.row.now c.args.by.now _ r.0 r.1 r.2 c.in-Some.c c.in-Some.ensures.first.is in
    let columns = r.1.columns in
    omega arith

pub value_of-x-requires-clause-values : goal.value_of-x-requires-clause-values
value_of-x-requires-clause-values g c =
    let l = inside g (goal.at.value_of-x-requires-clause-values g c).In-Some in
    let e = ap length c.as_slice.ensures.value in
    omega arith

pub value_of-y-requires-clause-marks : goal.value_of-y-requires-clause-marks
value_of-y-requires-clause-marks g c =
    let r = c.requires.rows in
    let l = either_below c.args.row.now c.args.by.now _ r.0 r.1 r.2 c.in-Some.c c.in-Some.ensures.first.is in
    let columns = r.2.columns in
    omega arith

pub value_of-y-requires-clause-values : goal.value_of-y-requires-clause-values
value_of-y-requires-clause-values g c =
    let l = inside g (goal.at.value_of-y-requires-clause-values g c).In-Some in
    let s = c.loop-c.scratch in
    let same = s.same in
    let e = ap length c.as_slice-in-Some.ensures.value in
    omega arith

pub put-requires : goal.put-requires
put-requires g c = inside g (goal.at.put-requires g c).In-Some

pub overflow_add-from : goal.overflow_add-from
unfolding size_of
overflow_add-from g c =
    let r = c.requires.rows in
    let by = c.args.by.now in
    let m = by.marks in
    let few = m.few in
    let columns = r.2.columns in
    let l = either_below c.args.row.now by _ r.0 r.1 r.2 c.in-Some.c c.in-Some.ensures.first.is in
    record { fits = omega arith }

-- the values that were read are the rows'
left : (g : _) (c : After-value_of-y g) → ratio c.value_of-x.result ≡ numbers_of c.args.row.now c.in-Some.c
left g c =
    let r = c.requires.rows in
    let s = c.loop-c.scratch in
    let j = c.in-Some.c in
    spread_value c.args.row.now _ r.0 j (ratio c.value_of-x.result) (value_at (ratios c.as_slice.result.now) j) (value_at (ratios c.args.scratch.now.values.items) j) r.1 c.value_of-x.ensures
    (ap (λ (xs : List Frac). value_at (ratios xs) j) c.as_slice.ensures.value ∙ c.loop-c.invariant.values j c.in-Some.ensures.first.later) (c.requires.values j)

right : (g : _) (c : After-value_of-y g) → ratio c.value_of-y.result ≡ numbers_of c.args.by.now c.in-Some.c
right g c =
    let r = c.requires.rows in
    let j = c.in-Some.c in
    spread_value c.args.by.now _ r.0 j (ratio c.value_of-y.result) (value_at (ratios c.as_slice-in-Some.result.now) j) (value_at (ratios c.args.scratch.now.others.items) j) r.2 c.value_of-y.ensures
    (ap (λ (xs : List Frac). value_at (ratios xs) j) (c.as_slice-in-Some.ensures.value ∙ c.loop-c.invariant.others)) (c.requires.others j)

pub loop-c-preserved : goal.loop-c-preserved
loop-c-preserved g c =
    let r = c.requires.rows in
    let row = c.args.row.now in
    let by = c.args.by.now in
    let f = c.args.factor in
    let i = c.loop-c.invariant in
    let first = c.in-Some.ensures.first in
    let at' = (goal.at.loop-c-preserved g c).After-value_of-y in
    let v = c.in_ok-value.ensures in
    let told = sum_told (numbers_of row) (numbers_of by) f c.in_ok-value.value c.value_of-x.result c.value_of-y.result c.args.skip c.in-Some.c (left g at') (right g at') v.gone v.is v.fits in
    record {
      kept = c.in-Some.ensures.kept;
      filled = filled_next c.loop-c.scratch (either_at row by) (IsSumAt (numbers_of row) (numbers_of by) (ratio f) c.args.skip) c.loop-c.from i.filled (sum_none row by _ r.0 r.1 r.2 (ratio f) c.args.skip) c.put.new.self c.in-Some.c (ratio c.in_ok-value.value) first c.put.ensures.own c.put.ensures.others c.put.ensures.found told;
      count = c.put.ensures.count ∙ i.count;
      others = c.put.ensures.rest ∙ i.others;
      values = λ j l. c.put.ensures.values j (λ e. omega arith) ∙ i.values j (let h = first.later in omega arith);
    }

pub returns-in_err-value-clause-count : goal.returns-in_err-value-clause-count
returns-in_err-value-clause-count g c = c.loop-c.invariant.count

pub returns-in_err-value-clause-found : goal.returns-in_err-value-clause-found
returns-in_err-value-clause-found g c = c.loop-c.invariant.filled.found

pub returns-in_err-value-clause-wide : goal.returns-in_err-value-clause-wide
returns-in_err-value-clause-wide g c =
    let w = c.in_err-value.ensures.wide in
    let f = c.args.factor in
    let at' = (goal.at.returns-in_err-value-clause-wide g c).After-value_of-y in
    at_err c.from_residual.result (λ all. w.1 (subst (λ (p : Ratio). TermFits p (ratio f) (ratio c.value_of-y.result)) (sym (left g at')) (subst (λ (q : Ratio). TermFits (numbers_of c.args.row.now c.in-Some.c) (ratio f) q) (sym (right g at')) (all c.in-Some.c w.0))))

pub returns-clause-count : goal.returns-clause-count
returns-clause-count g c = c.loop-c.invariant.count

pub returns-clause-found : goal.returns-clause-found
returns-clause-found g c = c.loop-c.invariant.filled.found

pub returns-clause-gone : goal.returns-clause-gone
returns-clause-gone g c =
    let r = c.requires.rows in
    let row = c.args.row.now in
    let by = c.args.by.now in
    let f = c.args.factor in
    let all = filled_all c.loop-c.scratch (either_at row by) (IsSumAt (numbers_of row) (numbers_of by) (ratio f) c.args.skip) c.loop-c.from c.loop-c.invariant.filled (sum_none row by _ r.0 r.1 r.2 (ratio f) c.args.skip) c.in_default.ensures.first c.args.skip in
    all.0 refl

pub returns-clause-is : goal.returns-clause-is
returns-clause-is g c j d =
    let r = c.requires.rows in
    let row = c.args.row.now in
    let by = c.args.by.now in
    let f = c.args.factor in
    let all = filled_all c.loop-c.scratch (either_at row by) (IsSumAt (numbers_of row) (numbers_of by) (ratio f) c.args.skip) c.loop-c.from c.loop-c.invariant.filled (sum_none row by _ r.0 r.1 r.2 (ratio f) c.args.skip) c.in_default.ensures.first j in
    (all.1 d).0

pub returns-clause-fits : goal.returns-clause-fits
returns-clause-fits g c j d =
    let r = c.requires.rows in
    let row = c.args.row.now in
    let by = c.args.by.now in
    let f = c.args.factor in
    let all = filled_all c.loop-c.scratch (either_at row by) (IsSumAt (numbers_of row) (numbers_of by) (ratio f) c.args.skip) c.loop-c.from c.loop-c.invariant.filled (sum_none row by _ r.0 r.1 r.2 (ratio f) c.args.skip) c.in_default.ensures.first j in
    (all.1 d).1

pub returns-clause-stands : goal.returns-clause-stands
returns-clause-stands g c j h =
    let r = c.requires.rows in
    either_has c.args.row.now c.args.by.now _ r.0 r.1 r.2 j (c.loop-c.invariant.filled.stands j h)
