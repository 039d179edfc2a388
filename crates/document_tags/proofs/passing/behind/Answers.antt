use Rattle.std.proofs.Common.{arith}
use Rattle.document_tags.proofs.Passages.{over_end}
use Rattle.document_tags.proofs.passing.behind.Goals as goal

pub returns-else-at-len-clause-behind : goal.returns-else-at-len-clause-behind
returns-else-at-len-clause-behind c = λ name content rest e. absurd (over_end c.args.tree.now rest c.loop-depth.at c.loop-depth.depth c.loop-depth-test.true (omega (arith, c.if-at-len.false, c.len.ensures.len)) (c.loop-depth.invariant.pending name content rest e))
