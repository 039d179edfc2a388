use Rattle.std.proofs.Common.{subst}
use Rattle.rational.specs.Ratio.{Ratio, sum, product, IsSame}
use Rattle.rational.specs.Width.{SumFits}
use Rattle.fraction.specs.Frac.{ratio}
use Rattle.evidence.proofs.Numbers.{product-number}
use Rattle.common_rows.specs.Accumulators.{form_of}
use Rattle.common_rows.proofs.Accumulators.{joined, joined_fits}
use Rattle.common_rows.proofs.whole.narrow_sum.Goals as goal

pub returns-clause-ok : goal.returns-clause-ok
returns-clause-ok c =
    let a = c.args.a.now in
    let x = c.args.x.now in
    let from = c.in_ok-from.from in
    let term = c.in_ok-term.term in
    let more = c.in_ok-sum.sum in
    subst (λ (s : Ratio). IsSame (form_of more) (sum s (product (ratio a) (ratio x)))) c.in_ok-from.ensures
    (joined (form_of from) (form_of term) (product (ratio a) (ratio x)) from.above term.above (product-number (ratio a) (ratio x) a.above x.above) c.in_ok-term.ensures.same (form_of more) more.above c.in_ok-sum.ensures.same)

pub returns-clause-fits : goal.returns-clause-fits
returns-clause-fits c =
    let a = c.args.a.now in
    let x = c.args.x.now in
    let from = c.in_ok-from.from in
    let term = c.in_ok-term.term in
    record {
      term = λ p q. c.in_ok-term.ensures.fits;
      sum = λ p q. subst (λ (s : Ratio). SumFits s (product (ratio a) (ratio x))) c.in_ok-from.ensures
          (joined_fits (form_of from) (form_of term) (product (ratio a) (ratio x)) from.above term.above (product-number (ratio a) (ratio x) a.above x.above) c.in_ok-term.ensures.same c.in_ok-sum.ensures.fits);
    }
