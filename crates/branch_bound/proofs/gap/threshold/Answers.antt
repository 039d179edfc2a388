use Rattle.std.proofs.Common.{subst}
use Rattle.rational.specs.Ratio.{Ratio, negative}
use Rattle.rational.specs.Width.{SumFits}
use Rattle.fraction.specs.Frac.{ratio}
use Rattle.branch_bound.specs.Bounds.{gap_of}
use Rattle.branch_bound.proofs.Gaps.{allowed_once}
use Rattle.branch_bound.proofs.gap.threshold.Goals as goal

pub returns-in-Err : goal.returns-in-Err
returns-in-Err c = λ a is fits.
    c.in-Err.ensures.wide (subst (λ (b : Ratio). SumFits (ratio c.args.less) (negative b)) (allowed_once (gap_of c.args.gap) (ratio c.args.value) a (ratio c.in-Some.allowed) is c.in-Some.ensures) fits)
