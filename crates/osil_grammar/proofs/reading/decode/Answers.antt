use Rattle.std.proofs.lemmas.Result.{IfOk-weaker, IfErr-weaker}
use Rattle.osil_grammar.proofs.Words.{[]}
use Rattle.osil_grammar.proofs.reading.decode.Goals as goal

pub returns-clause-ok : goal.returns-clause-ok
returns-clause-ok c = IfOk-weaker c.finish.result _ _ (λ p h. h c.args.bytes.now (c.feed.ensures.fed [] c.new-decoder.ensures.fed)) c.finish.ensures.ok

pub returns-clause-err : goal.returns-clause-err
returns-clause-err c = IfErr-weaker c.finish.result _ _ (λ f h. h c.args.bytes.now (c.feed.ensures.fed [] c.new-decoder.ensures.fed)) c.finish.ensures.err
