use Rattle.fraction.specs.Frac.{ratio}
use Rattle.evidence.proofs.Fits.{whole_over_one, over_one_whole}
use Rattle.cert_checker.proofs.ray.is_whole_if.Goals as goal

pub returns-else-not-whole : goal.returns-else-not-whole
returns-else-not-whole c = (
  λ t w. over_one_whole (ratio c.args.by) (c.is_whole.ensures.0 t),
  λ k. c.is_whole.ensures.1 (whole_over_one (ratio c.args.by) (c.args.by.above, c.args.by.reduced) (k c.if-not-whole.false)),
)
