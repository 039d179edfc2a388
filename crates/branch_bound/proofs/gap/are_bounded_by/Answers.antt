use Rattle.std.proofs.Common.{◌≡◌, Option, None, IsTrue, false, IsSomeAnd, arith, sym, ◌∙◌, subst}
use Rattle.std.proofs.lemmas.List.{get_or_default}
use Rattle.std.proofs.lemmas.List.Elements.{All-cons, All-head, All-tail}
use Rattle.rational.specs.Ratio.{IsAtMost}
use Rattle.fraction.specs.Frac.{ratio}
use Rattle.case_tree.specs.Cuts.{pending_places}
use Rattle.branch_bound.specs.declared.carried.Carried.{Carried}
use Rattle.branch_bound.specs.Bounds.{carried_at, kept_after, number_of}
use Rattle.branch_bound.proofs.Gaps.{all_count, each_counts}
use Rattle.branch_bound.proofs.gap.are_bounded_by.Goals as goal

pub returns-then-not-is_bounded_at : goal.returns-then-not-is_bounded_at
returns-then-not-is_bounded_at c = (
  λ t. (let no : IsTrue false = t in absurd (cc)),
  λ all.
      let ks = c.args.list.now in
      let bs = c.args.branches.now in
      c.if-not-is_bounded_at.ensures.1 (each_counts (λ (k : Option Carried). IsSomeAnd (number_of k) (λ b. IsAtMost (ratio c.args.number) b)) ks bs c.args.depth (All-tail (λ (k : Option Carried). IsSomeAnd (number_of k) (λ b. IsAtMost (ratio c.args.number) b)) (carried_at ks c.args.depth) (kept_after ks (pending_places bs c.args.depth)) all) c.loop-e.e c.loop-e-test.true),
)

pub returns : goal.returns
returns c =
    let ks = c.args.list.now in
    let bs = c.args.branches.now in
    let d = c.args.depth in
    let end = c.loop-e-test.false in
    let e : c.index-list-depth.result ≡ carried_at ks d = c.index-list-depth.is ∙ sym (get_or_default ks d None c.index-list-depth.result c.requires.carried) in (
      λ t. All-cons (λ (k : Option Carried). IsSomeAnd (number_of k) (λ b. IsAtMost (ratio c.args.number) b)) (carried_at ks d) (kept_after ks (pending_places bs d))
          (subst (λ (k : Option Carried). IsSomeAnd (number_of k) (λ b. IsAtMost (ratio c.args.number) b)) e (c.is_bounded_by.ensures.0 t))
          (all_count (λ (k : Option Carried). IsSomeAnd (number_of k) (λ b. IsAtMost (ratio c.args.number) b)) ks bs d (λ i low is. c.loop-e.invariant i (omega arith) is)),
      λ all. c.is_bounded_by.ensures.1 (subst (λ (k : Option Carried). IsSomeAnd (number_of k) (λ b. IsAtMost (ratio c.args.number) b)) (sym e) (All-head (λ (k : Option Carried). IsSomeAnd (number_of k) (λ b. IsAtMost (ratio c.args.number) b)) (carried_at ks d) (kept_after ks (pending_places bs d)) all)),
    )
