use Rattle.std.proofs.Common.{◌≡◌, ◌<◌, ◌≤◌, true, false, length, refl, arith, subst}
use Rattle.std.specs.List.{Contains}
use Rattle.branch_bound.specs.Walks.{divided}
use Rattle.branch_bound.proofs.ZeroBranches.{divided_more, divided_here}
use Rattle.branch_bound.proofs.along.was_divided.Goals as goal

pub loop-e-init : goal.loop-e-init
loop-e-init c = λ h. let (k, low, e) = h in absurd (omega arith)

pub returns-then-divides : goal.returns-then-divides
returns-then-divides c =
    let e = c.loop-e.e in
    let low : e < c.args.depth = c.loop-e-test.true in
    let room : e < length c.args.branches.now = (let d = c.requires in omega arith) in
    (λ t. divided_here c.args.branches.now c.args.col c.args.depth e c.index-branches-e.result low room c.index-branches-e.is (c.divides.ensures.0 c.if-divides.true), λ h. refl)

pub loop-e-preserved : goal.loop-e-preserved
loop-e-preserved c =
    let e = c.loop-e.e in
    let low : e < c.args.depth = c.loop-e-test.true in
    let room : e < length c.args.branches.now = (let d = c.requires in omega arith) in
    divided_more c.args.branches.now c.args.col e c.index-branches-e.result room c.index-branches-e.is
    (λ h. let t = c.divides.ensures.1 h in let f = c.if-divides.false in absurd (cc)) c.loop-e.invariant

pub returns : goal.returns
returns c =
    let out : c.args.depth ≤ c.loop-e.e = c.loop-e-test.false in
    let all : c.loop-e.e ≡ c.args.depth = (let a = c.loop-e.auto.e-end in omega arith) in
    (λ t. let f : false ≡ true = t in absurd (cc), λ h. absurd (subst (λ n. Contains (divided c.args.branches.now n) c.args.col → ⊥) all c.loop-e.invariant h))
