use Rattle.std.proofs.Common.{List, length, refl, ◌∙◌, ap, ap₂}
use Rattle.std.proofs.lemmas.List.{with_items_is}
use Rattle.case_tree.specs.declared.cuts.Cut.{Cut}
use Rattle.case_tree.specs.declared.path.Branch.{Branch}
use Rattle.case_tree.specs.Cuts.{pending_places}
use Rattle.branch_bound.specs.Walks.{waiting_by, rest_by}
use Rattle.branch_bound.specs.Bounds.{kept_after, kept_next}
use Rattle.branch_bound.proofs.PendingCases.{closed_waiting}
use Rattle.branch_bound.proofs.Kept.{closed_kept, next_inside, some_below}
use Rattle.branch_bound.proofs.walk.close.Goals as goal

pub returns-clause-carried : goal.returns-clause-carried
returns-clause-carried c = λ keeps.
    let w = c.args.walk.now in
    next_inside w.carried.items c.args.depth c.back-walk.result (some_below (length w.carried.items) w.next c.args.depth c.requires.at.next (c.requires.carried keeps)) c.back-walk.ensures.depth

pub returns-clause-leaves : goal.returns-clause-leaves
returns-clause-leaves c = (
  refl,
  λ keeps.
      let w = c.args.walk.now in
      ap (λ (es : List Branch). kept_next w.carried.items es c.back-walk.result) (with_items_is w.branches c.back-walk.new.branches (c.back-walk.auto.branches ∙ c.as_mut_slice-2.ensures.len))
      ∙ closed_kept w.carried.items c.as_mut_slice-2.result.now c.back-walk.new.branches c.args.depth c.back-walk.result c.back-walk.ensures.inside c.back-walk.ensures.places
      ∙ ap (λ (bs : List Branch). kept_after w.carried.items (pending_places bs c.args.depth)) c.as_mut_slice-2.ensures.value,
)

pub returns-clause-waiting : goal.returns-clause-waiting
returns-clause-waiting c = λ I.
    let w = c.args.walk.now in
    let b = c.back-walk in
    ap₂ (λ (vs : List Cut) (es : List Branch). waiting_by I vs es c.forget_ray.new.ray c.back-walk.result)
    (with_items_is w.cuts c.back-walk.new.cuts (c.back-walk.auto.cuts ∙ c.as_mut_slice.ensures.len))
    (with_items_is w.branches c.back-walk.new.branches (c.back-walk.auto.branches ∙ c.as_mut_slice-2.ensures.len))
    ∙ closed_waiting I c.as_mut_slice.result.now c.as_mut_slice-2.result.now w.ray c.back-walk.new.cuts c.back-walk.new.branches c.forget_ray.new.ray c.args.depth b.ensures.divisions c.back-walk.result b.ensures.inside b.ensures.places (b.ensures.cases I) c.forget_ray.ensures
    ∙ ap₂ (λ (cs : List Cut) (bs : List Branch). rest_by I cs bs w.ray c.args.depth) c.as_mut_slice.ensures.value c.as_mut_slice-2.ensures.value
