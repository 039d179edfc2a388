use Rattle.std.proofs.Common.{arith}
use Rattle.std.proofs.lemmas.List.{drop_all}
use Rattle.document_tags.proofs.ChildElements.{gathers_none, never_over, gathered_none, gathered_some, depth_near}
use Rattle.document_tags.proofs.content.child_elements.Goals as goal

pub overflow_add-at : goal.overflow_add-at
overflow_add-at c = omega (arith, c.args.spot.fits)

pub loop-at-init : goal.loop-at-init
loop-at-init c = record {
  within = omega (arith, c.args.spot.inside);
  near = omega arith;
  gathers = λ e stands. gathers_none c.args.spot e _ c.new-out.ensures.items stands;
}

pub pass-requires-clause-near : goal.pass-requires-clause-near
pass-requires-clause-near c = c.loop-at.invariant.near

pub returns-in_default : goal.returns-in_default
returns-in_default c = λ e stands. gathered_none e _ _ _ c.in_default.is (c.in_ok-still.ensures.passes e (c.loop-at.invariant.gathers e stands))

pub loop-at-preserved : goal.loop-at-preserved
loop-at-preserved c = record {
  within = omega (arith, c.loop-at-test.true, c.len.ensures.len);
  near = depth_near _ _ _ c.in-Some.is c.in_ok-still.ensures.near;
  gathers = λ e stands. gathered_some e _ _ _ _ c.in-Some.is (c.in_ok-still.ensures.passes e (c.loop-at.invariant.gathers e stands));
}

pub returns : goal.returns
returns c = λ e stands. absurd (never_over e c.args.spot.tree.now c.loop-at.at c.loop-at.depth _ (omega (arith, c.loop-at-test.false, c.len.ensures.len)) (drop_all c.loop-at.at c.args.spot.tree.now (omega (arith, c.loop-at-test.false, c.len.ensures.len))) (c.loop-at.invariant.gathers e stands))
