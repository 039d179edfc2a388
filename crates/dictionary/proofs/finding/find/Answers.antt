use Rattle.std.proofs.Common.{◌≡◌, ◌<◌, ◌+◌, ◌-◌, ◌/◌, ◌^◌, length, take, drop, arith, sym, subst, add-one}
use Rattle.dictionary.specs.Row.{entries_of, HasColumn, IsEntry}
use Rattle.dictionary.proofs.EntryPlaces.{entry_is, not_up_to, not_from, not_in_parts, probed}
use Rattle.dictionary.proofs.finding.find.Goals as goal

pub returns-then-x-col-clause-found : goal.returns-then-x-col-clause-found
returns-then-x-col-clause-found g c =
    let x = c.read-x.result.now in
    let mid = c.loop-low.low + (c.loop-low.high - c.loop-low.low) / 2 in
    let l : mid < length (entries_of c.args.row.now) = let a = c.loop-low.invariant.high in let t = c.loop-low-test.true in omega arith in
    subst (λ k. IsEntry (entries_of c.args.row.now) k x.value) c.if-x-col.true (entry_is 0 (2 ^ 32) (entries_of c.args.row.now) mid x c.requires l c.read-x.ensures.item)

pub loop-low-preserved-then-x-col-2 : goal.loop-low-preserved-then-x-col-2
loop-low-preserved-then-x-col-2 g c =
    let x = c.read-x.result.now in
    let low = c.loop-low.low in
    let high = c.loop-low.high in
    let mid = low + (high - low) / 2 in
    let t : low < high = c.loop-low-test.true in
    let l : mid < length (entries_of c.args.row.now) = let a = c.loop-low.invariant.high in omega arith in
    record {
      low = omega arith;
      high = c.loop-low.invariant.high;
      before = subst (λ k. HasColumn (take k (entries_of c.args.row.now)) c.args.col → ⊥) (sym (add-one mid)) (not_up_to 0 (2 ^ 32) (entries_of c.args.row.now) mid x c.args.col c.requires l c.read-x.ensures.item c.if-x-col-2.true);
      after = c.loop-low.invariant.after;
      cost = probed (length (entries_of c.args.row.now)) c.loop-low.steps c.read-x.new.steps c.args.steps.now (high - low) (high - (mid + 1)) c.read-x.ensures.cost (omega arith) (omega arith) c.loop-low.invariant.cost;
      counted = let a = c.loop-low.invariant.counted in let b = c.read-x.ensures.cost in omega arith;
    }

pub loop-low-preserved : goal.loop-low-preserved
loop-low-preserved g c =
    let x = c.read-x.result.now in
    let low = c.loop-low.low in
    let high = c.loop-low.high in
    let mid = low + (high - low) / 2 in
    let t : low < high = c.loop-low-test.true in
    let l : mid < length (entries_of c.args.row.now) = let a = c.loop-low.invariant.high in omega arith in
    let d : c.args.col < x.col = let a = c.if-x-col.false in let b = c.if-x-col-2.false in omega arith in
    record {
      low = omega arith;
      high = omega arith;
      before = c.loop-low.invariant.before;
      after = not_from 0 (2 ^ 32) (entries_of c.args.row.now) mid x c.args.col c.requires l c.read-x.ensures.item d;
      cost = probed (length (entries_of c.args.row.now)) c.loop-low.steps c.read-x.new.steps c.args.steps.now (high - low) (mid - low) c.read-x.ensures.cost (omega arith) (omega arith) c.loop-low.invariant.cost;
      counted = let a = c.loop-low.invariant.counted in let b = c.read-x.ensures.cost in omega arith;
    }

pub returns-clause-absent : goal.returns-clause-absent
returns-clause-absent g c =
    let e : c.loop-low.high ≡ c.loop-low.low = let a = c.loop-low.invariant.low in let b = c.loop-low-test.false in omega arith in
    λ n. not_in_parts (entries_of c.args.row.now) c.loop-low.low c.args.col c.loop-low.invariant.before (subst (λ k. HasColumn (drop k (entries_of c.args.row.now)) c.args.col → ⊥) e c.loop-low.invariant.after)
