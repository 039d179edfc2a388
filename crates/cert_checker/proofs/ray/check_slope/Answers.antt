use Rattle.cert_checker.proofs.Moves.{slope_below}
use Rattle.cert_checker.proofs.ray.check_slope.Goals as goal

pub returns-then-is_below-clause-better : goal.returns-then-is_below-clause-better
returns-then-is_below-clause-better c = slope_below c.args.program.now c.requires.numbers c.args.ray.now c.in-Ok.slope c.zero.result c.in-Ok.ensures.ok c.zero.ensures (c.is_below.ensures.0 c.if-is_below.true)
