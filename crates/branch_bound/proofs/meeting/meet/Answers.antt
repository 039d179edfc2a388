use Rattle.std.proofs.Common.{◌≡◌, Option, [], ◌∷◌, inl, inr, arith}
use Rattle.std.proofs.lemmas.List.{length-map}
use Rattle.instance.specs.Program.{program}
use Rattle.instance.proofs.Terms.{if_ok}
use Rattle.case_tree.specs.Cuts.{cut, cut_variable}
use Rattle.simplex.specs.Memory.{point_of}
use Rattle.std.proofs.lemmas.List.Elements.{All-nil}
use Rattle.branch_bound.specs.declared.carried.Carried.{Carried}
use Rattle.branch_bound.specs.Bounds.{left_by}
use Rattle.branch_bound.proofs.Splits.{open_inside, open_next}
use Rattle.branch_bound.proofs.Moments.{branches}
use Rattle.branch_bound.proofs.PointSteps.{if_err, or_memory, kept_values}
use Rattle.branch_bound.proofs.KeptAfter.{both_are}
use Rattle.branch_bound.proofs.GivenUp.{for_memory}
use Rattle.branch_bound.proofs.meeting.meet.Goals as goal

pub branch-walk-requires-clause-inside : goal.branch-walk-requires-clause-inside
branch-walk-requires-clause-inside g c =
    let I = program c.args.instance.now in
    let cs = c.args.walk.now.cuts.items in
    let opened = rw c.as_slice.ensures.value at c.in-Some.ensures (program c.args.instance.now) in
    let low = open_inside (cut I cs) (point_of c.args.relaxation.now.work) c.in-Some.at.col c.in-Some.at.by opened in
    let n = length-map cs cut_variable in
    omega arith

pub branch-walk-requires-clause-next : goal.branch-walk-requires-clause-next
branch-walk-requires-clause-next g c =
    let opened = rw c.as_slice.ensures.value at c.in-Some.ensures (program c.args.instance.now) in
    open_next (cut (program c.args.instance.now) c.args.walk.now.cuts.items) (point_of c.args.relaxation.now.work) c.in-Some.at.col c.in-Some.at.by opened

pub take_point-requires-clause-met : goal.take_point-requires-clause-met
take_point-requires-clause-met g c = λ D. rw c.as_slice.ensures.value at c.in-None.ensures D

pub returns-in-Some-clause-values : goal.returns-in-Some-clause-values
returns-in-Some-clause-values g c = if_ok c.branch-walk.result (λ x by. kept_values c.args.instance.now c.args.walk.now.best c.branch-walk.new.walk.best by.point c.requires.values) c.branch-walk.ensures.ok

pub returns-in-Some-clause-ok : goal.returns-in-Some-clause-ok
returns-in-Some-clause-ok g c =
    let p = c.args.instance.now in
    let w = c.args.walk.now in
    if_ok c.branch-walk.result
    (λ x by L D l t at.
    let opened = rw c.as_slice.ensures.value at c.in-Some.ensures D in
    inl (branches p L D l at w c.args.depth c.branch-walk.new.walk c.in-Some.at.by c.in-Some.at.col (point_of c.args.relaxation.now.work) opened by))
    c.branch-walk.ensures.ok

pub returns-in-Some-clause-err : goal.returns-in-Some-clause-err
returns-in-Some-clause-err g c = if_err c.branch-walk.result (λ ended lacks. inl lacks) c.branch-walk.ensures.err

pub returns-in-None-clause-ok : goal.returns-in-None-clause-ok
returns-in-None-clause-ok g c = if_ok c.take_point.result (λ x goes L D l t at. inr (goes L D l t at)) c.take_point.ensures.ok

pub returns-in-None-clause-err : goal.returns-in-None-clause-err
returns-in-None-clause-err g c = if_err c.take_point.result (λ ended. or_memory c.args.walk.now ended (λ goes L D l t looks. inr (goes L D l t looks))) c.take_point.ensures.err

pub returns-in-Some-clause-carried : goal.returns-in-Some-clause-carried
returns-in-Some-clause-carried g c = if_ok c.branch-walk.result (λ x told. told.0) c.branch-walk.ensures.carried

pub returns-in-Some-clause-leaves : goal.returns-in-Some-clause-leaves
returns-in-Some-clause-leaves g c =
    let k = c.left_by.result in
    if_ok c.branch-walk.result (λ x told. (k ∷ k ∷ [], both_are (λ (y : Option Carried). y ≡ left_by c.args.bound c.args.mults) k c.left_by.ensures, told.1)) c.branch-walk.ensures.carried

pub returns-in-None-clause-leaves : goal.returns-in-None-clause-leaves
returns-in-None-clause-leaves g c = if_ok c.take_point.result (λ x leaves. ([], All-nil (λ (y : Option Carried). y ≡ left_by c.args.bound c.args.mults), leaves)) c.take_point.ensures.leaves

pub returns-in-Some-clause-stays : goal.returns-in-Some-clause-stays
returns-in-Some-clause-stays g c = if_err c.branch-walk.result (λ ended lacks. for_memory c.args.walk.now c.branch-walk.new.walk ended lacks) c.branch-walk.ensures.memory
