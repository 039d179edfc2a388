use Rattle.std.proofs.Common.{FitsSigned, w64, rules}
use mir.Syntax.{w128}
use Rattle.std.proofs.lemmas.Int.{to_z-of_z}
use Rattle.rational.specs.Ratio.{product}
use Rattle.fraction.specs.Frac.{ratio}
use Rattle.evidence.proofs.Numbers.{product-number}
use Rattle.common_rows.specs.Accumulators.{form_of, sum_of}
use Rattle.common_rows.proofs.Sizes.{widened}
use Rattle.common_rows.proofs.Accumulators.{parts_joined, parts_fit}
use Rattle.common_rows.proofs.accumulator.Accumulator.narrow_plus.Goals as goal

pub returns-clause-same : goal.returns-clause-same
returns-clause-same c =
    let s = c.args.self in
    let a = c.args.a.now in
    let x = c.args.x.now in
    let term = c.in_ok-term.term in
    let more = c.in_ok-more.more in
    let fits_s : FitsSigned w128 s.numer = search rules in
    let fits_n : FitsSigned w64 c.in_ok-numer.numer = search rules in
    let fits_m : FitsSigned w64 more.numer = search rules in
    let wide_m = widened more.numer fits_m in
    let numer = simp to_z-of_z at c.in_ok-numer.ensures in
    let sum = simp to_z-of_z at c.in_ok-more.ensures.same in
    simp to_z-of_z
    (parts_joined (sum_of s) (form_of term) (product (ratio a) (ratio x)) s.above term.above (product-number (ratio a) (ratio x) a.above x.above) c.in_ok-term.ensures.same c.in_ok-numer.numer c.in_ok-denom.denom numer c.in_ok-denom.ensures (form_of more) more.above sum)

pub returns-clause-fits : goal.returns-clause-fits
returns-clause-fits c =
    let s = c.args.self in
    let a = c.args.a.now in
    let x = c.args.x.now in
    let term = c.in_ok-term.term in
    let fits_s : FitsSigned w128 s.numer = search rules in
    let fits_n : FitsSigned w64 c.in_ok-numer.numer = search rules in
    let numer = simp to_z-of_z at c.in_ok-numer.ensures in
    let fits = simp to_z-of_z at c.in_ok-more.ensures.fits in
    record {
      term = λ p q. c.in_ok-term.ensures.fits;
      sum = λ p q. parts_fit (sum_of s) (form_of term) (product (ratio a) (ratio x)) s.above term.above (product-number (ratio a) (ratio x) a.above x.above) c.in_ok-term.ensures.same c.in_ok-numer.numer c.in_ok-denom.denom numer c.in_ok-denom.ensures fits;
    }
