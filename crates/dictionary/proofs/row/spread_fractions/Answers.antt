use Rattle.std.proofs.Common.{◌^◌, List, arith, sym, subst}
use Rattle.std.proofs.lemmas.List.{take_all}
use Rattle.dictionary.specs.declared.fractions.Item.{Item}
use Rattle.dictionary.specs.Row.{entries_of, IsEntry, HasColumn}
use Rattle.dictionary.proofs.EntryPlaces.{entry_is}
use Rattle.dictionary.proofs.SpreadRows.{spread_more}
use Rattle.dictionary.proofs.row.spread_fractions.Goals as goal
use Rattle.dictionary.proofs.row.spread_fractions.Goals.{After-read-x}

entry : (g : _) (c : After-read-x g) → IsEntry (entries_of c.args.row.now) c.read-x.result.now.col c.read-x.result.now.value
entry g c = entry_is 0 (2 ^ 32) (entries_of c.args.row.now) c.loop-i.i c.read-x.result.now c.requires.row (let e = c.len-i-end.ensures in let t = c.loop-i-test.true in omega arith) c.read-x.ensures.item

pub bounds-values-x : goal.bounds-values-x
bounds-values-x g c = let e = entry g (goal.at.bounds-values-x g c).After-read-x in let l = c.requires.inside c.read-x.result.now.col e.stands in let s = c.loop-i.auto.values in omega arith

pub loop-i-init : goal.loop-i-init
loop-i-init g c = record { done = λ j h. absurd h; cost = omega arith }

pub loop-i-preserved : goal.loop-i-preserved
loop-i-preserved g c =
    let x = c.read-x.result.now in
    let e = entry g (goal.at.loop-i-preserved g c).After-read-x in
    let l = c.requires.inside x.col e.stands in
    record {
      done = spread_more (entries_of c.args.row.now) c.loop-i.i x (let q = c.len-i-end.ensures in let t = c.loop-i-test.true in omega arith) c.read-x.ensures.item e.is c.loop-i.values (let s = c.loop-i.auto.values in omega arith) c.loop-i.invariant.done;
      cost = let k = c.loop-i.invariant.cost in let r = c.read-x.ensures.cost in omega arith;
    }

pub returns-clause-spread : goal.returns-clause-spread
returns-clause-spread g c j h =
    let e = c.len-i-end.ensures in
    let t = c.loop-i-test.false in
    c.loop-i.invariant.done j (subst (λ (xs : List Item). HasColumn xs j) (sym (take_all c.loop-i.i (entries_of c.args.row.now) (omega arith))) h)

pub returns-clause-cost : goal.returns-clause-cost
returns-clause-cost g c = let e = c.len-i-end.ensures in let t = c.loop-i-test.false in let k = c.loop-i.invariant.cost in let a = c.loop-i.auto in omega arith
