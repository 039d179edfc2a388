use Rattle.instance.proofs.Terms.{on_err}
use Rattle.dictionary.proofs.solving.product_at.Goals as goal

pub returns-clause-wide : goal.returns-clause-wide
returns-clause-wide c = on_err c.times.result (λ w. (c.if-c-skip.false, w)) c.times.ensures.wide
