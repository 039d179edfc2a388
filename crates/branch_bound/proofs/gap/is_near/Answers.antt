use Rattle.std.proofs.Common.{◌≡◌, ◌<◌, ◌↔◌, IsTrue, IsSomeAnd, Option, Some, List, map, length, arith, sym, ◌∙◌, ap, subst}
use Rattle.std.proofs.lemmas.List.{length-map}
use Rattle.std.specs.List.{All}
use Rattle.rational.specs.Ratio.{Ratio, IsAtMost}
use Rattle.fraction.specs.Frac.{ratio, ratios}
use Rattle.evidence.specs.Instance.{minimising, minimising_by}
use Rattle.evidence.specs.Point.{value_at}
use Rattle.instance.specs.declared.parts.Goal.{Goal}
use Rattle.instance.specs.Program.{program, problem, goal as meaning, goals}
use Rattle.certificate.specs.Meanings as Means
use Rattle.cert_checker.proofs.Walks.{drop_all}
use Rattle.case_tree.specs.declared.path.Branch.{Branch}
use Rattle.search_rules.specs.Gaps as gaps
use Rattle.branch_bound.specs.declared.carried.Carried.{Carried}
use Rattle.branch_bound.specs.Walks.{best, found}
use Rattle.branch_bound.specs.Levels.{moment}
use Rattle.branch_bound.specs.Bounds.{gap_of, number_of, kept_at, kept_next, IsThreshold}
use Rattle.branch_bound.proofs.Gaps.{value_reached, less_is, is_near, was_near}
use Rattle.branch_bound.proofs.gap.is_near.Goals as goal

pub returns-in-Some-threshold : goal.returns-in-Some-threshold
returns-in-Some-threshold c = λ L D clock shown.
    let p = c.args.instance.now in
    let v = c.args.level.now in
    let w = c.args.walk.now in
    let f = c.in-Some-best.found in
    let x = c.index-as_slice-level.result in
    let n = c.in-Some-threshold.number in
    let g = gap_of c.in-Some.gap in
    let m = moment p L D v w clock in
    let low : v.goal < length f.values = (let h = c.requires.values f c.in-Some-best.is in let k = c.requires.goal in omega arith) in
    let value = value_reached f.values v c.as_slice.result.now x c.as_slice.ensures low c.index-as_slice-level.is shown in
    let less = c.turned-less.ensures ∙ ap (λ (h : Goal). minimising_by (meaning h).sense (ratio x)) (sym c.index-goals-0.is) ∙ less_is p c.goals-goals.result.now c.index-goals-0.result (ratio x) c.goals-goals.ensures.value c.goals-goals.ensures.valid.some_goal c.index-goals-0.is in
    let t : IsThreshold g (value_at (ratios f.values) (length (Means.certificates v.certs))) (minimising (program p) (value_at (ratios f.values) (length (Means.certificates v.certs)))) (ratio n) =
    subst (λ (y : Ratio). IsThreshold g y (minimising (program p) y) (ratio n)) value (subst (λ (y : Ratio). IsThreshold g (ratio x) y (ratio n)) less c.in-Some-threshold.ensures) in
    let is : m.best ≡ Some (found f) = ap best c.in-Some-best.is in
    let long = length-map p.goals meaning in
    let count = ap length c.goals-goals.ensures.value in
    let alone = c.if-goals-ne1.false in
    let one = drop_all (goals p.goals) 1 (omega arith) in
    let ks = kept_at w.carried.items w.branches.items c.args.depth in
    let here = ap (λ o. map number_of (kept_next w.carried.items w.branches.items o)) c.requires.at.next in
    let bounded : IsTrue c.are_bounded_by.result ↔ All (λ (k : Option Carried). IsSomeAnd (number_of k) (λ b. IsAtMost (ratio n) b)) ks =
    subst (λ (l : List (Option Carried)). IsTrue c.are_bounded_by.result ↔ All (λ (k : Option Carried). IsSomeAnd (number_of k) (λ b. IsAtMost (ratio n) b)) (kept_at l w.branches.items c.args.depth)) c.as_slice-in-Some-threshold.ensures.value
    (subst (λ (bs : List Branch). IsTrue c.are_bounded_by.result ↔ All (λ (k : Option Carried). IsSomeAnd (number_of k) (λ b. IsAtMost (ratio n) b)) (kept_at c.as_slice-in-Some-threshold.result.now bs c.args.depth)) c.as_slice-in-Some-threshold-2.ensures.value c.are_bounded_by.ensures) in
    rw c.in-Some.is (
      λ y. subst (λ (xs : List (Option Ratio)). gaps.IsNearBy (problem p) g m xs) (sym here) (is_near (problem p) g m (found f) n t is ks one (λ e. absurd (cc)) (bounded.0 y)),
      λ near. bounded.1 (was_near (problem p) g m (found f) n t is ks (subst (λ (xs : List (Option Ratio)). gaps.IsNearBy (problem p) g m xs) here near)),
    )
