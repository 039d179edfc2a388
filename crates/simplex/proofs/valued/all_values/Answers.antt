use Rattle.std.proofs.Common.{◌<◌, length, ◌∙◌, ap, arith, refl, sym}
use Rattle.evidence.proofs.Columns.{by_eq, by_lt}
use Rattle.marks.specs.Marks.{is_marked}
use Rattle.marks.proofs.Walks.{kept_by}
use Rattle.simplex.proofs.KnownValues.{known_set}
use Rattle.simplex.proofs.valued.all_values.Goals as goal

pub loop-col-init : goal.loop-col-init
loop-col-init g c = record {
  kept = c.new-walk.ensures (is_marked c.args.unknown.now);
  known = c.requires.known;
  before = λ k l. absurd (omega arith);
  size = refl;
}

pub next_by-requires : goal.next_by-requires
next_by-requires g c = c.loop-col.invariant.kept

pub loop-col-preserved : goal.loop-col-preserved
loop-col-preserved g c =
    let v = c.loop-col.invariant in
    let k = v.known in
    let at = c.in-Some.ensures.first in
    let h : c.in-Some.col < length c.loop-col.values = let i = k.inside c.in-Some.col at.is in let a = c.requires.values in let b = c.requires.goal in let n = c.loop-col.auto.values in omega arith in
    record {
      kept = kept_by _ _ _ _ _ (λ j a. sym (c.unmark.ensures.others j (λ e. omega arith))) c.in-Some.ensures.kept;
      known = known_set c.args.dict.now c.args.rest.now c.args.statuses.now c.loop-col.values c.loop-col.unknown c.unmark.new.self c.in-Some.col c.in_ok-value.value h (λ w r. c.in_ok-value.ensures.ok w r) c.unmark.ensures.own c.unmark.ensures.others c.unmark.ensures.size k;
      before = λ j l. by_eq j c.in-Some.col
          (λ e. ap (is_marked c.unmark.new.self) e ∙ c.unmark.ensures.own)
          (λ n. c.unmark.ensures.others j n ∙ by_lt j c.loop-col.from (λ i. v.before j i) (λ i. at.first j i (omega arith)));
      size = c.unmark.ensures.size ∙ v.size;
    }

pub returns-clause-ok : goal.returns-clause-ok
returns-clause-ok g c = λ w r k h.
    let v = c.loop-col.invariant in
    let a = v.known in
    a.are w r k (let n = c.requires.goal in omega arith) (by_lt k c.loop-col.from (λ i. v.before k i) (λ i. c.in_default.ensures.first k i))
