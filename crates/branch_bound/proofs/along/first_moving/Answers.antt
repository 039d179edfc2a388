use Rattle.std.proofs.Common.{◌≤◌, length, below_more, arith}
use Rattle.std.proofs.lemmas.List.{length-map}
use Rattle.case_tree.specs.Cuts.{cut_variable}
use Rattle.simplex.specs.Memory.{ray_of}
use Rattle.search_rules.specs.Branching.{IsMoving}
use Rattle.branch_bound.specs.Walks.{case_by}
use Rattle.branch_bound.proofs.along.first_moving.Goals as goal

pub returns-then-is_moving : goal.returns-then-is_moving
returns-then-is_moving g c = λ I r. record {
  moving = (c.is_moving.ensures I r).0 c.if-is_moving.true;
  before = λ i low. c.loop-j.invariant I r i low;
}

pub loop-j-preserved : goal.loop-j-preserved
loop-j-preserved g c = λ I r.
    below_more (λ i. IsMoving (case_by I c.args.cuts.now c.args.branches.now r c.args.depth) (ray_of c.args.work.now) i → ⊥) c.loop-j.j (c.loop-j.invariant I r)
    (λ m. let t = (c.is_moving.ensures I r).1 m in let f = c.if-is_moving.false in absurd (cc))

pub returns : goal.returns
returns g c = λ I r j m.
    let e = length-map c.args.cuts.now cut_variable in
    let inside = m.branch.variable in
    let out : length c.args.cuts.now ≤ c.loop-j.j = c.loop-j-test.false in
    c.loop-j.invariant I r j (omega arith) m
