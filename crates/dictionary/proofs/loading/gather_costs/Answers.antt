use Rattle.std.proofs.Common.{true, w8, arith, refl, sym, ◌∙◌, ap}
use Rattle.std.proofs.lemmas.Bool.{false≢true}
use mir.Val.{to_z, of_z}
use Rattle.std.proofs.lemmas.Int.{to_z-of_z}
use Rattle.fraction.specs.Frac.{ratio, ratios}
use Rattle.evidence.specs.Point.{value_at}
use Rattle.evidence.proofs.Columns.{by_lt}
use Rattle.instance.proofs.Terms.{read}
use Rattle.marks.specs.Marks.{size_of}
use Rattle.dictionary.specs.ProgramRows.{times_sign}
use Rattle.dictionary.proofs.ProgramRows.{times_past}
use Rattle.dictionary.proofs.FilledColumns.{filled_none, filled_next}
use Rattle.dictionary.proofs.loading.gather_costs.Goals as goal

pub loop-j-init : goal.loop-j-init
loop-j-init c = record {
  count = c.clear.ensures.count;
  filled = filled_none c.clear.new.self _ _ c.clear.ensures.none c.clear.ensures.found;
}

pub overflow_cast-j : goal.overflow_cast-j
unfolding size_of
overflow_cast-j c =
    let s = c.loop-j.scratch in
    let m = s.found in
    let few = m.few in
    let columns = s.marks in
    let n = c.loop-j.invariant.count in
    let l = c.requires in
    let t = c.loop-j-test.true in
    omega arith

pub put-requires : goal.put-requires
put-requires c = let l = c.requires in let n = c.loop-j.invariant.count in let t = c.loop-j-test.true in omega arith

pub loop-j-preserved : goal.loop-j-preserved
loop-j-preserved c =
    let i = c.loop-j.invariant in
    let is = c.times_factor.ensures ∙ ap (times_sign (to_z w8 (of_z w8 c.args.factor))) (sym (read c.args.costs.now c.loop-j.j c.index-costs-j.result c.loop-j-test.true c.index-costs-j.is)) in
    record {
      count = c.put.ensures.count ∙ i.count;
      filled = filled_next c.loop-j.scratch (λ k. true) _ c.loop-j.j i.filled (λ k e. absurd (false≢true (sym e))) c.put.new.self c.loop-j.j (ratio c.times_factor.result) (record { later = omega arith; is = refl; first = λ k a l. absurd (omega arith) }) c.put.ensures.own c.put.ensures.others c.put.ensures.found is;
    }

pub returns-clause-count : goal.returns-clause-count
returns-clause-count c = c.loop-j.invariant.count

pub returns-clause-found : goal.returns-clause-found
returns-clause-found c = c.loop-j.invariant.filled.found

pub returns-clause-is : goal.returns-clause-is
returns-clause-is c k =
    let i = c.loop-j.invariant in
    by_lt k c.loop-j.j
    (λ l. i.filled.done k l ∙ ap (λ z. times_sign z (value_at (ratios c.args.costs.now) k)) (to_z-of_z w8 c.args.factor c.ranges.factor))
    (λ l. i.filled.rest k l ∙ sym (times_past c.args.costs.now c.args.factor k (let t = c.loop-j-test.false in omega arith)))
