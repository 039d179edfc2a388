use Rattle.std.proofs.Common.{List, length, Some, ◌∷◌, ◌+◌, refl, ◌∙◌, ap, ap₂, arith}
use Rattle.std.proofs.lemmas.List.{with_items_is}
use Rattle.case_tree.specs.declared.cuts.Cut.{Cut}
use Rattle.case_tree.specs.declared.path.Branch.{Branch}
use Rattle.branch_bound.specs.Walks.{waiting_by}
use Rattle.branch_bound.proofs.PendingCases.{divided_waiting}
use Rattle.branch_bound.specs.Bounds.{kept_at}
use Rattle.branch_bound.proofs.Kept.{divided_kept, some_below}
use Rattle.branch_bound.proofs.walk.divide.Goals as goal

pub carry-requires : goal.carry-requires
carry-requires c = λ keeps.
    let h = some_below (length c.args.walk.now.carried.items) c.args.walk.now.next c.args.depth c.requires.at.next (c.requires.carried keeps) in
    omega arith

pub returns-clause-carried : goal.returns-clause-carried
returns-clause-carried c = λ keeps. let h = c.in_ok-carry.ensures.at keeps in h.0

pub returns-clause-leaves : goal.returns-clause-leaves
returns-clause-leaves c = (
  refl,
  λ keeps.
      let w = c.args.walk.now in
      let ls = c.carry.new.list.items in
      let h = c.in_ok-carry.ensures.at keeps in
      ap (λ (es : List Branch). kept_at ls es (c.args.depth + 1)) (with_items_is c.make_room.new.branches c.enter.new.branches (c.enter.auto.branches ∙ c.as_mut_slice-2.ensures.len))
      ∙ divided_kept w.carried.items ls w.branches.items c.enter.new.branches c.args.depth c.args.carried
      ((rw c.as_mut_slice-2.ensures.value at c.enter.ensures.places) ∙ ap (λ ps. c.args.depth ∷ ps) c.in_ok-make_room.ensures.places) h.1 c.in_ok-carry.ensures.before,
)

pub returns-clause-waiting : goal.returns-clause-waiting
returns-clause-waiting c = λ I.
    let w = c.args.walk.now in
    let e = c.enter in
    let room = c.in_ok-make_room.ensures in
    ap₂ (λ (vs : List Cut) (es : List Branch). waiting_by I vs es w.ray (Some (c.args.depth + 1)))
    (with_items_is w.cuts c.enter.new.cuts (c.enter.auto.cuts ∙ c.as_mut_slice.ensures.len))
    (with_items_is c.make_room.new.branches c.enter.new.branches (c.enter.auto.branches ∙ c.as_mut_slice-2.ensures.len))
    ∙ divided_waiting I w.cuts.items w.branches.items w.ray c.enter.new.cuts c.enter.new.branches w.ray c.args.depth c.make_room.new.branches.items c.args.col c.args.by refl c.requires.at.ray
    room.divisions room.places (room.same I w.cuts.items)
    (rw c.as_mut_slice-2.ensures.value at e.ensures.divisions) e.ensures.division (rw c.as_mut_slice-2.ensures.value at e.ensures.places)
    (rw (c.as_mut_slice.ensures.value, c.as_mut_slice-2.ensures.value) at e.ensures.cases I)
