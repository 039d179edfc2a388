use Rattle.std.proofs.Common.{refl, subst, sym}
use Rattle.rational.specs.Ratio.{sum, negative, quotient}
use Rattle.fraction.specs.Frac.{ratio}
use Rattle.instance.specs.Program.{limit}
use Rattle.simplex_rules.specs.Widths.{EndFits}
use Rattle.instance.proofs.Terms.{at_err}
use Rattle.simplex.proofs.LeastLimits.{until_told, until_fits, until_wide}
use Rattle.simplex.proofs.limits.until_end.Goals as goal

pub returns-in_err-quotient-in-At-clause-wide : goal.returns-in_err-quotient-in-At-clause-wide
returns-in_err-quotient-in-At-clause-wide c =
    at_err c.from_residual-in_err-quotient-in-At.result
    (λ f. until_wide c.in-At.e c.args.value c.args.rate c.in_ok-difference-in-At.difference c.requires c.in_ok-difference-in-At.ensures.ok c.in_err-quotient-in-At.ensures.wide
    (subst (λ z. EndFits (limit z) (ratio c.args.value) (ratio c.args.rate)) c.in-At.is f))

pub returns-in_ok-quotient-in-At-clause-ok : goal.returns-in_ok-quotient-in-At-clause-ok
returns-in_ok-quotient-in-At-clause-ok c =
    (quotient (sum (ratio c.in-At.e) (negative (ratio c.args.value))) (ratio c.args.rate), rw (c.in-At.is) refl, until_told c.in-At.e c.args.value c.args.rate c.in_ok-difference-in-At.difference c.requires c.in_ok-difference-in-At.ensures.ok c.in_ok-quotient-in-At.quotient c.in_ok-quotient-in-At.ensures.ok)

pub returns-in_ok-quotient-in-At-clause-fits : goal.returns-in_ok-quotient-in-At-clause-fits
returns-in_ok-quotient-in-At-clause-fits c =
    subst (λ z. EndFits (limit z) (ratio c.args.value) (ratio c.args.rate)) (sym c.in-At.is)
    (until_fits c.in-At.e c.args.value c.args.rate c.in_ok-difference-in-At.difference c.requires c.in_ok-difference-in-At.ensures.ok c.in_ok-quotient-in-At.quotient c.in_ok-quotient-in-At.ensures.ok c.in_ok-difference-in-At.ensures.fits)
