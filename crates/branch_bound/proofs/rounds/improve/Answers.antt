use Rattle.std.proofs.Common.{◌≡◌, inl, inr, Option, Some, [], refl}
use Rattle.std.proofs.lemmas.List.Elements.{All-nil}
use Rattle.instance.proofs.Terms.{if_ok}
use Rattle.case_tree.specs.Cuts.{cut}
use Rattle.simplex.specs.Memory.{point_of, statuses_in}
use Rattle.branch_bound.proofs.Splits.{open_unmet}
use Rattle.branch_bound.proofs.Ready.{gone_on, if_ok₃}
use Rattle.branch_bound.proofs.PointSteps.{if_err, or_memory, may_derive}
use Rattle.branch_bound.specs.declared.carried.Carried.{Carried}
use Rattle.branch_bound.proofs.GivenUp.{stays_at}
use Rattle.branch_bound.proofs.rounds.improve.Goals as goal

pub cut_or_branch-requires-clause-divides : goal.cut_or_branch-requires-clause-divides
cut_or_branch-requires-clause-divides g c = λ D. rw c.as_slice.ensures.value at c.in-Some.ensures D

pub cut_or_branch-requires-clause-ran : goal.cut_or_branch-requires-clause-ran
cut_or_branch-requires-clause-ran g c = (_, c.requires.ran.1)

pub take_point-requires-clause-met : goal.take_point-requires-clause-met
take_point-requires-clause-met g c = λ D. rw c.as_slice.ensures.value at c.in-None.ensures D

pub returns-in-Some-clause-ok : goal.returns-in-Some-clause-ok
returns-in-Some-clause-ok g c =
    let p = c.args.instance.now in
    let v = c.args.level.now in
    let w = c.args.walk.now in
    let r = c.args.relaxation.now in
    if_ok c.cut_or_branch.result
    (λ x goes L D t before at b lvl fewer ends.
    let q = goes L D t at lvl in
    let tries = q.2 in
    let opened = rw c.as_slice.ensures.value at c.in-Some.ensures D in (
      q.0,
      q.1,
      inr (inr (statuses_in r.work, tries.0, may_derive p t L D v w at c.requires.one c.requires.fresh.nodes fewer, open_unmet (cut D w.cuts.items) (point_of r.work) c.in-Some.at.col c.in-Some.at.by opened, ends, tries.1, tries.2)),
    ))
    c.cut_or_branch.ensures.ok

pub returns-in-Some-clause-err : goal.returns-in-Some-clause-err
returns-in-Some-clause-err g c =
    let p = c.args.instance.now in
    let v = c.args.level.now in
    let w = c.args.walk.now in
    let r = c.args.relaxation.now in
    if_err c.cut_or_branch.result
    (λ ended. or_memory w ended (λ goes L D t before looks b lvl fewer ends.
    let tries = goes L D t looks lvl in
    let opened = rw c.as_slice.ensures.value at c.in-Some.ensures D in
    inr (inr (statuses_in r.work, tries.0, may_derive p t L D v w _ c.requires.one c.requires.fresh.nodes fewer, open_unmet (cut D w.cuts.items) (point_of r.work) c.in-Some.at.col c.in-Some.at.by opened, ends, tries.1, tries.2))))
    c.cut_or_branch.ensures.err

pub returns-in-None-clause-on : goal.returns-in-None-clause-on
returns-in-None-clause-on g c =
    if_ok₃ c.take_point.result (λ x walk values one l ready fewer. gone_on c.args.instance.now l c.args.relaxation.now c.args.level.now c.args.walk.now c.take_point.new.walk c.args.depth ready walk values one) c.take_point.ensures.walk c.take_point.ensures.values c.take_point.ensures.one

pub returns-in-None-clause-ok : goal.returns-in-None-clause-ok
returns-in-None-clause-ok g c =
    let v = c.args.level.now in
    if_ok c.take_point.result (λ x goes L D t before at b lvl fewer ends. (D, lvl, inl (goes L D v t at))) c.take_point.ensures.ok

pub returns-in-None-clause-err : goal.returns-in-None-clause-err
returns-in-None-clause-err g c =
    let v = c.args.level.now in
    if_err c.take_point.result (λ ended. or_memory c.args.walk.now ended (λ goes L D t before looks b lvl fewer ends. inl (goes L D v t looks))) c.take_point.ensures.err

pub returns-in-None-clause-leaves : goal.returns-in-None-clause-leaves
returns-in-None-clause-leaves g c = if_ok c.take_point.result (λ x leaves. ([], All-nil (λ (y : Option Carried). y ≡ Some (record { bound = c.args.bound; mults = c.args.mults })), leaves)) c.take_point.ensures.leaves

-- the walk stays where the search is given up
pub returns-in-None-clause-stays : goal.returns-in-None-clause-stays
returns-in-None-clause-stays g c =
    let r = c.args.relaxation.now in
    let v = c.args.level.now in
    if_err c.take_point.result (λ ended stays. stays_at r r v v c.args.walk.now c.take_point.new.walk ended refl refl refl stays) c.take_point.ensures.stays
