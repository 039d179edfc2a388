use Rattle.std.proofs.Common.{arith}
use Rattle.document_tags.proofs.Spots.{finds_none, finds_more, finds_all, behind_event}
use Rattle.document_tags.proofs.spot.Spot.push_children.Goals as goal

pub overflow_add-start : goal.overflow_add-start
overflow_add-start c = omega (arith, c.args.self.now.fits)

pub loop-at-init : goal.loop-at-init
loop-at-init c = record {
  within = omega (arith, c.args.self.now.inside);
  finds = λ e es stands spots. finds_none c.args.self.now e c.args.name.now es c.args.out.now.items stands spots;
}

pub overflow_add-at : goal.overflow_add-at
overflow_add-at c = omega (arith, c.in-Some.ensures.fits)

pub loop-at-preserved : goal.loop-at-preserved
loop-at-preserved c = record {
  within = c.behind-start.ensures.within;
  finds = λ e es stands spots.
      let f = c.loop-at.invariant.finds e es stands spots in
      let one = c.in-Some.ensures.next e.name f.more f.rest f.here in
      finds_more e one.child c.args.name.now es f.so_far f.more one.more _ f.rest _ one.first f.total (c.behind-start.ensures.behind one.child.name one.child.children _ (behind_event c.args.self.now.tree.now c.in-Some.at _ _ one.here)) (c.in_ok-push_named.ensures one.child f.so_far (_, one.here) f.spots);
}

pub returns : goal.returns
returns c = λ e es stands spots.
    let f = c.loop-at.invariant.finds e es stands spots in
    finds_all e c.args.name.now es f.so_far f.more _ (c.in_default.ensures.next e.name f.more f.rest f.here) f.total f.spots
