use Rattle.std.proofs.Common.{◌≤◌, ℕ, None, IfSome, List, Option, length, ◌∙◌, ap, subst, arith}
use Rattle.case_tree.specs.Cuts.{AreBranches}
use Rattle.branch_bound.specs.declared.carried.Carried.{Carried}
use Rattle.branch_bound.specs.Bounds.{kept_next}
use Rattle.branch_bound.proofs.Kept.{some_below}
use Rattle.branch_bound.proofs.OpenBounds.{all_closed, not_closed, closes_on, bounds_left, bound_here}
use Rattle.branch_bound.proofs.bounds.close_all.Goals as goal

pub loop-walk-init : goal.loop-walk-init
loop-walk-init c = record { walk = c.requires.walk; keeps = c.requires.keeps; places = c.requires.carried; bounds = c.requires.bounds; answers = λ y r h. h }

pub close_by-requires-clause-at : goal.close_by-requires-clause-at
close_by-requires-clause-at c =
    let x = c.loop-walk.walk in
    let w = c.loop-walk.invariant.walk in
    let e = c.in-Some.is in
    record {
      width = w.width;
      next = e;
      room = subst (λ (o : Option ℕ). IfSome o (λ d. d ≤ length x.branches.items)) e w.room;
      above = subst (λ (o : Option ℕ). IfSome o (λ d. AreBranches (length c.args.instance.now.vars) x.branches.items d)) e w.above;
      ray = subst (λ (o : Option ℕ). IfSome o (λ d. IfSome x.ray (λ r. r.depth ≤ d))) e w.ray;
    }

pub close_by-requires-clause-place : goal.close_by-requires-clause-place
close_by-requires-clause-place c = some_below (length c.loop-walk.walk.carried.items) c.loop-walk.walk.next c.in-Some.depth c.in-Some.is (c.loop-walk.invariant.places c.loop-walk.invariant.keeps)

pub close_by-requires-clause-bounds : goal.close_by-requires-clause-bounds
close_by-requires-clause-bounds c = λ k. bound_here c.args.instance.now c.args.rows.now c.loop-walk.walk c.in-Some.depth k c.in-Some.is c.loop-walk.invariant.bounds

pub loop-walk-smaller : goal.loop-walk-smaller
loop-walk-smaller c =
    let w = c.loop-walk.walk in
    let went = rw c.in-Some-2.is at c.in_ok-shown.ensures.went in
    let after = ap (λ (l : List (Option Carried)). length l) (went.leaves.1 c.loop-walk.invariant.keeps) in
    let before = ap (λ o. length (kept_next w.carried.items w.branches.items o)) c.in-Some.is in
    omega arith

pub loop-walk-preserved : goal.loop-walk-preserved
loop-walk-preserved c =
    let p = c.args.instance.now in
    let rows = c.args.rows.now in
    let w = c.loop-walk.walk in
    let x = c.close_by.new.walk in
    let n = length p.vars in
    let keeps = c.loop-walk.invariant.keeps in
    let went = rw c.in-Some-2.is at c.in_ok-shown.ensures.went in
    let closes = rw c.in-Some-2.is at c.in_ok-shown.ensures.closes in
    record {
      walk = went.walk;
      keeps = went.leaves.0 ∙ keeps;
      places = went.carried;
      bounds = bounds_left p rows w x c.in-Some.depth n c.in-Some.is keeps went c.loop-walk.invariant.bounds;
      answers = λ y r h. c.loop-walk.invariant.answers y r (closes_on p rows w c.in-Some.depth c.in-Some.is n x y c.loop-walk.number c.in-Some-2.shown c.least.result keeps closes went c.least.ensures r h);
    }

pub returns-in-None : goal.returns-in-None
returns-in-None c =
    let closes = rw c.in-None.is at c.in_ok-shown.ensures.closes in
    c.loop-walk.invariant.answers c.close_by.new.walk None (not_closed c.args.instance.now c.args.rows.now c.loop-walk.walk c.in-Some.depth c.in-Some.is c.close_by.new.walk c.close_by.new.walk c.loop-walk.number closes)

pub returns : goal.returns
returns c = c.loop-walk.invariant.answers c.loop-walk.walk c.loop-walk.number (all_closed c.args.instance.now c.args.rows.now c.loop-walk.walk c.loop-walk.number c.in_default.is)
