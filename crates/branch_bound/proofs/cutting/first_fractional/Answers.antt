use Rattle.std.proofs.Common.{arith}
use Rattle.std.proofs.lemmas.List.{length-map}
use Rattle.case_tree.specs.Cuts.{cut_variable}
use Rattle.simplex.specs.Memory.{point_of}
use Rattle.branch_bound.proofs.Splits.{fractional_at, whole_more}
use Rattle.branch_bound.proofs.cutting.first_fractional.Goals as goal

pub returns-then-is_fractional : goal.returns-then-is_fractional
returns-then-is_fractional g c = λ I.
    fractional_at I c.args.cuts.now (point_of c.args.work.now) c.loop-j.j c.index-cuts-j.result c.coordinate.result c.loop-j-test.true c.index-cuts-j.is c.coordinate.ensures (c.is_fractional.ensures.yes c.if-is_fractional.true) (c.loop-j.invariant I)

pub loop-j-preserved : goal.loop-j-preserved
loop-j-preserved g c = λ I.
    whole_more I c.args.cuts.now (point_of c.args.work.now) c.loop-j.j c.index-cuts-j.result c.coordinate.result c.loop-j-test.true c.index-cuts-j.is c.coordinate.ensures (c.is_fractional.ensures.no c.if-is_fractional.false) (c.loop-j.invariant I)

pub returns : goal.returns
returns g c = λ I j h t.
    let e = length-map c.args.cuts.now cut_variable in
    let out = c.loop-j-test.false in
    c.loop-j.invariant I j (omega arith) t
