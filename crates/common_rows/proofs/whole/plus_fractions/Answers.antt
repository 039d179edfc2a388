use Rattle.rational.specs.Ratio.{sum, product}
use Rattle.rational.proofs.Scaling.{IsSame-trans}
use Rattle.fraction.specs.Frac.{ratio}
use Rattle.common_rows.specs.Accumulators.{form_of}
use Rattle.common_rows.proofs.whole.plus_fractions.Goals as goal

pub returns-in-Some-clause-ok : goal.returns-in-Some-clause-ok
returns-in-Some-clause-ok c =
    let s = c.in-Some.sum in
    IsSame-trans (ratio c.fraction.result) (form_of s) (sum (ratio c.args.start.now) (product (ratio c.args.a.now) (ratio c.args.x.now))) s.above c.fraction.ensures c.in-Some.ensures.ok
