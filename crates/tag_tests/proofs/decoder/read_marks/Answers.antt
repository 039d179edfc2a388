use Rattle.std.proofs.Common.{[]}
use Rattle.std.proofs.lemmas.Result.{IfOk-weaker, IfErr-weaker}
use Rattle.tag_tests.proofs.decoder.read_marks.Goals as goal

pub returns-clause-ok : goal.returns-clause-ok
returns-clause-ok g c = IfOk-weaker c.finish.result _ _ (λ r h. h c.args.reader c.args.bytes.now (c.feed.ensures.fed c.args.reader [] c.new-decoder.ensures.fed)) c.finish.ensures.ok

pub returns-clause-err : goal.returns-clause-err
returns-clause-err g c = IfErr-weaker c.finish.result _ _ (λ f h. h c.args.reader c.args.bytes.now (c.feed.ensures.fed c.args.reader [] c.new-decoder.ensures.fed)) c.finish.ensures.err
