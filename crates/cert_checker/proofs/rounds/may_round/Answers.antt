use Rattle.std.proofs.Common.{IsTrue, false, subst}
use Rattle.fraction.specs.Frac.{ratio}
use Rattle.evidence.proofs.Fits.{whole_over_one}
use Rattle.cert_checker.proofs.rounds.may_round.Goals as goal

pub returns-else-is_whole : goal.returns-else-is_whole
returns-else-is_whole c = (
  λ t. absurd (let f : IsTrue false = subst IsTrue c.if-is_whole.false t in cc),
  λ (w, z). c.is_whole.ensures.1 (whole_over_one (ratio c.args.sum) (c.args.sum.above, c.args.sum.reduced) w),
)
