use Rattle.std.proofs.Common.{arith}
use Rattle.std.proofs.lemmas.List.{drop_all}
use Rattle.document_tags.proofs.Passages.{from_event}
use Rattle.document_tags.proofs.Spots.{collects_none, collects_child, collects_chars, collects_end, collects_some}
use Rattle.document_tags.proofs.spot.Spot.own_text.Goals as goal

pub overflow_add-at : goal.overflow_add-at
overflow_add-at c = omega (arith, c.args.self.now.fits)

pub loop-at-init : goal.loop-at-init
loop-at-init c = record {
  within = omega (arith, c.args.self.now.inside);
  collects = λ e stands. collects_none c.args.self.now e _ c.new-out.ensures stands;
}

pub loop-at-preserved-in-Open : goal.loop-at-preserved-in-Open
loop-at-preserved-in-Open c = record {
  within = c.behind-at.ensures.within;
  collects = λ e stands. collects_child e _ _ _ _ _ _ (c.loop-at.invariant.collects e stands) (from_event c.args.self.now.tree.now c.loop-at.at _ (omega (arith, c.loop-at-test.true, c.len.ensures.len)) c.in-Open.ensures) c.behind-at.ensures.behind;
}

pub loop-at-preserved : goal.loop-at-preserved
loop-at-preserved c = record {
  within = omega (arith, c.loop-at-test.true, c.len.ensures.len);
  collects = λ e stands. collects_chars e _ _ _ _ _ c.in_ok-extend-in-Chars.ensures.ok (c.loop-at.invariant.collects e stands) (from_event c.args.self.now.tree.now c.loop-at.at _ (omega (arith, c.loop-at-test.true, c.len.ensures.len)) c.in-Chars.ensures);
}

pub returns-in-Close : goal.returns-in-Close
returns-in-Close c = λ e stands. collects_end e _ _ _ _ (c.loop-at.invariant.collects e stands) (from_event c.args.self.now.tree.now c.loop-at.at _ (omega (arith, c.loop-at-test.true, c.len.ensures.len)) c.in-Close.ensures)

pub returns : goal.returns
returns c = λ e stands. absurd (collects_some e _ _ (c.loop-at.invariant.collects e stands) (drop_all c.loop-at.at c.args.self.now.tree.now (omega (arith, c.loop-at-test.false, c.len.ensures.len))))
