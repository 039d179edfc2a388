use Rattle.instance.proofs.Terms.{on_err}
use Rattle.dictionary.proofs.replacing.sum_at.Goals as goal

pub returns-clause-wide : goal.returns-clause-wide
returns-clause-wide c = on_err c.plus_product.result (λ w. (c.if-c-skip.false, w)) c.plus_product.ensures.wide
