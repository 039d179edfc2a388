use Rattle.std.proofs.Common.{◌≡◌, ◌∷◌, ◌+◌, drop, arith, inl, refl, sym, ap, subst}
use Rattle.common_rows.specs.Accumulators.{sum_of}
use Rattle.rational.specs.Ratio.{Ratio, sum, product, IsSame}
use Rattle.evidence.specs.Width.{TermFits}
use Rattle.evidence.specs.Sums.{none}
use Rattle.rational.proofs.Scaling.{IsSame-trans}
use Rattle.fraction.specs.Frac.{ratio}
use Rattle.bases.specs.Dictionary.{value_by}
use Rattle.instance.proofs.Terms.{at_err}
use Rattle.dictionary.specs.Row.{entries_of, number_in}
use Rattle.dictionary.specs.Dict.{place_values}
use Rattle.dictionary.proofs.Sums.{rest_is, row-number}
use Rattle.dictionary.proofs.RowValues.{summed_none, summed_more, summed_wide, summed_all, left_all, left_more, left_none, next_later, next_is, next_has, next_first}
use Rattle.dictionary.proofs.value.sum_fractions.Goals as goal
use Rattle.dictionary.proofs.value.sum_fractions.Goals.{After-read-x}

opened : (g : _) (c : After-read-x g) → drop c.loop-i.i (entries_of c.args.row.now) ≡ c.read-x.result.now ∷ drop (c.loop-i.i + 1) (entries_of c.args.row.now)
opened g c = rest_is (entries_of c.args.row.now) c.loop-i.i c.read-x.result.now (let e = c.len-i-end.ensures in let t = c.loop-i-test.true in omega arith) c.read-x.ensures.item

pub loop-i-init : goal.loop-i-init
loop-i-init g c =
    let xs = entries_of c.args.row.now in
    record {
      summed = (0, left_all xs c.requires.row, λ k w at. summed_none (number_in xs) (place_values c.args.places.now) (row-number xs) k w at (sum_of c.zero-sum.result) (subst (λ (v : Ratio). IsSame v none) (sym c.zero-sum.ensures) refl));
      cost = omega arith;
      counted = omega arith;
    }

pub value-requires : goal.value-requires
value-requires g c =
    let s = c.loop-i.invariant.summed in
    let x = c.read-x.result.now in
    c.requires.inside x.col (next_has (entries_of c.args.row.now) c.loop-i.i s.0 s.1 x (opened g (goal.at.value-requires g c).After-read-x))

pub loop-i-preserved : goal.loop-i-preserved
loop-i-preserved g c =
    let xs = entries_of c.args.row.now in
    let values = place_values c.args.places.now in
    let s = c.loop-i.invariant.summed in
    let x = c.read-x.result.now in
    let left = opened g (goal.at.loop-i-preserved g c).After-read-x in
    let here = next_is xs c.loop-i.i s.0 s.1 x left in
    record {
      summed = (
        x.col + 1,
        left_more xs c.loop-i.i s.0 s.1 x left,
        λ k w at. summed_more (number_in xs) values (row-number xs) k w at s.0 x.col (sum_of c.loop-i.sum) c.loop-i.sum.above (s.2 k w at) (next_later xs c.loop-i.i s.0 s.1 x left)
            (λ j a l. inl (ap (λ (v : Ratio). v.num) (next_first xs c.loop-i.i s.0 s.1 x left j a l))) (next_has xs c.loop-i.i s.0 s.1 x left) (ratio c.value.result.now) (sym c.value.ensures)
            (sum_of c.in_ok-sum.sum) c.in_ok-sum.sum.above
            (subst (λ (v : Ratio). IsSame (sum_of c.in_ok-sum.sum) (sum (sum_of c.loop-i.sum) (product v (ratio c.value.result.now)))) (sym here) c.in_ok-sum.ensures.ok)
            (subst (λ (v : Ratio). TermFits (sum_of c.loop-i.sum) v (ratio c.value.result.now)) (sym here) c.in_ok-sum.ensures.fits),
      );
      cost = let a = c.loop-i.invariant.cost in let b = c.read-x.ensures.cost in omega arith;
      counted = let a = c.loop-i.invariant.counted in let b = c.read-x.ensures.cost in omega arith;
    }

pub returns-in_err-sum-clause-wide : goal.returns-in_err-sum-clause-wide
returns-in_err-sum-clause-wide g c k w at =
    let xs = entries_of c.args.row.now in
    let s = c.loop-i.invariant.summed in
    let x = c.read-x.result.now in
    let left = opened g (goal.at.returns-in_err-sum-clause-wide g c).After-read-x in
    let here = next_is xs c.loop-i.i s.0 s.1 x left in
    at_err c.from_residual.result (summed_wide (number_in xs) (place_values c.args.places.now) (row-number xs) k w at s.0 x.col (sum_of c.loop-i.sum) c.loop-i.sum.above (s.2 k w at) (next_later xs c.loop-i.i s.0 s.1 x left)
    (λ j a l. inl (ap (λ (v : Ratio). v.num) (next_first xs c.loop-i.i s.0 s.1 x left j a l))) (next_has xs c.loop-i.i s.0 s.1 x left) (ratio c.value.result.now) (sym c.value.ensures)
    (λ f. c.in_err-sum.ensures.wide (subst (λ (v : Ratio). TermFits (sum_of c.loop-i.sum) v (ratio c.value.result.now)) here f)))

pub returns-clause-ok : goal.returns-clause-ok
returns-clause-ok g c k w at =
    let xs = entries_of c.args.row.now in
    let s = c.loop-i.invariant.summed in
    let done = left_none xs c.loop-i.i s.0 s.1 (let e = c.len-i-end.ensures in let t = c.loop-i-test.false in omega arith) in
    let all = summed_all (number_in xs) (place_values c.args.places.now) (row-number xs) k w at s.0 (sum_of c.loop-i.sum) c.loop-i.sum.above (s.2 k w at) (λ j a. inl (ap (λ (v : Ratio). v.num) (done j a))) in
    IsSame-trans (ratio c.fraction.result) (sum_of c.loop-i.sum) (value_by k (number_in xs) w) c.loop-i.sum.above c.fraction.ensures all.is

pub returns-clause-fits : goal.returns-clause-fits
returns-clause-fits g c k w at =
    let xs = entries_of c.args.row.now in
    let s = c.loop-i.invariant.summed in
    let done = left_none xs c.loop-i.i s.0 s.1 (let e = c.len-i-end.ensures in let t = c.loop-i-test.false in omega arith) in
    let all = summed_all (number_in xs) (place_values c.args.places.now) (row-number xs) k w at s.0 (sum_of c.loop-i.sum) c.loop-i.sum.above (s.2 k w at) (λ j a. inl (ap (λ (v : Ratio). v.num) (done j a))) in
    all.fits
