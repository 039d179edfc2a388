use Rattle.std.proofs.Common.{arith}
use Rattle.std.proofs.lemmas.List.{length-map}
use Rattle.case_tree.specs.Cuts.{cut_variable}
use Rattle.simplex.specs.Memory.{point_of}
use Rattle.branch_bound.proofs.Splits.{open_at, met_more}
use Rattle.branch_bound.proofs.open.first_open.Goals as goal

pub returns-in-Some : goal.returns-in-Some
returns-in-Some g c = λ I.
    open_at I c.args.cuts.now (point_of c.args.work.now) c.loop-j.j c.index-cuts-j.result c.coordinate.result c.loop-j-test.true c.index-cuts-j.is c.coordinate.ensures c.in-Some.by c.in-Some.ensures (c.loop-j.invariant I)

pub loop-j-preserved : goal.loop-j-preserved
loop-j-preserved g c = λ I.
    met_more I c.args.cuts.now (point_of c.args.work.now) c.loop-j.j c.index-cuts-j.result c.coordinate.result c.loop-j-test.true c.index-cuts-j.is c.coordinate.ensures c.in_default.ensures (c.loop-j.invariant I)

pub returns : goal.returns
returns g c = λ I j h.
    let e = length-map c.args.cuts.now cut_variable in
    let out = c.loop-j-test.false in
    c.loop-j.invariant I j (omega arith)
