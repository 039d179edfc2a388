use Rattle.std.proofs.Common.{◌*◌, arith}
use Rattle.dictionary.proofs.Changes.{changing_none, changing_next, counted_word, counted_within}
use Rattle.dictionary.proofs.changing.change_numbers.Goals as goal

pub loop-w-init : goal.loop-w-init
loop-w-init g c = record {
  changing = changing_none c.args.row.now c.args.by.now c.args.parts.scale c.args.parts.factor c.requires.common.0;
  cost = λ k n a b. omega arith;
  counted = omega arith;
}

pub change_columns-requires-clause-row : goal.change_columns-requires-clause-row
change_columns-requires-clause-row g c = let r = c.requires.row in (r.0, r.1, c.loop-w.invariant.changing.rows r.0 r.1 r.2, r.3)

pub loop-w-preserved : goal.loop-w-preserved
loop-w-preserved g c =
    let i = c.loop-w.invariant in
    let e = c.change_columns.ensures in
    record {
      changing = changing_next c.args.row.now c.args.by.now c.loop-w.row c.change_columns.new.row c.args.parts.scale c.args.parts.factor c.loop-w.w i.changing e.common e.denom e.row e.changed e.others;
      cost = λ k n a b.
          let more = counted_word c.args.row.now c.args.by.now c.loop-w.row c.args.parts.scale c.args.parts.factor c.loop-w.w k n c.requires.common.0 a b i.changing in
          let before = i.cost k n a b in
          let now = e.cost in
          omega arith;
      counted = let p = i.counted in let q = e.counted in omega arith;
    }

pub returns-clause-cost : goal.returns-clause-cost
returns-clause-cost g c k n a b =
    let mine = counted_within c.args.row.now k n (64 * c.loop-w.w) a in
    let its = counted_within c.args.by.now k n (64 * c.loop-w.w) b in
    let all = c.loop-w.invariant.cost k n a b in
    omega arith
