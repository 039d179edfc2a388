use Rattle.std.proofs.Common.{arith}
use Rattle.std.proofs.lemmas.List.{drop_all}
use Rattle.document_tags.proofs.Passages.{from_event, child_begins, content_ends, past_chars, remains_some}
use Rattle.document_tags.proofs.passing.next_child.Goals as goal

pub returns-in-Open-clause-next : goal.returns-in-Open-clause-next
returns-in-Open-clause-next c = λ name content rest e. child_begins content name rest _ _ _ _ (c.loop-at.invariant.remains name content rest e) (from_event c.args.tree.now c.loop-at.at _ (omega (arith, c.loop-at-test.true, c.len.ensures.len)) c.in-Open.ensures)

pub loop-at-preserved : goal.loop-at-preserved
loop-at-preserved c = record {
  later = omega (arith, c.loop-at.invariant.later);
  within = omega (arith, c.loop-at-test.true, c.len.ensures.len);
  remains = λ name content rest e. past_chars content name rest _ _ _ (c.loop-at.invariant.remains name content rest e) (from_event c.args.tree.now c.loop-at.at _ (omega (arith, c.loop-at-test.true, c.len.ensures.len)) c.in-Chars.ensures);
}

pub returns-in-Close-clause-next : goal.returns-in-Close-clause-next
returns-in-Close-clause-next c = λ name content rest e. content_ends content name rest _ _ _ (c.loop-at.invariant.remains name content rest e) (from_event c.args.tree.now c.loop-at.at _ (omega (arith, c.loop-at-test.true, c.len.ensures.len)) c.in-Close.ensures)

pub returns-clause-next : goal.returns-clause-next
returns-clause-next c = λ name content rest e. absurd (remains_some content name rest _ (c.loop-at.invariant.remains name content rest e) (drop_all c.loop-at.at c.args.tree.now (omega (arith, c.loop-at-test.false, c.len.ensures.len))))
