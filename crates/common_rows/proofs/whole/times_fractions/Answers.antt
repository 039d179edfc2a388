use Rattle.rational.specs.Ratio.{product}
use Rattle.rational.proofs.Scaling.{IsSame-trans}
use Rattle.fraction.specs.Frac.{ratio}
use Rattle.common_rows.specs.Accumulators.{form_of}
use Rattle.common_rows.proofs.whole.times_fractions.Goals as goal

pub returns-in-Some-clause-ok : goal.returns-in-Some-clause-ok
returns-in-Some-clause-ok c =
    let t = c.in-Some.term in
    IsSame-trans (ratio c.fraction.result) (form_of t) (product (ratio c.args.a.now) (ratio c.args.x.now)) t.above c.fraction.ensures c.in-Some.ensures.same
