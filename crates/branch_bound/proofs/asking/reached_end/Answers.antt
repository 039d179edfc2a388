use Rattle.branch_bound.proofs.NextGoal.{reached_ok, reached_wide}
use Rattle.branch_bound.proofs.asking.reached_end.Goals as goal

pub returns-clause-ok : goal.returns-clause-ok
returns-clause-ok c = reached_ok c.args.goal.now c.args.value c.turned.result c.turned-2.result c.turned.ensures c.turned-2.ensures c.sub.result c.sub.ensures.ok c.sub.ensures.fits

pub returns-clause-wide : goal.returns-clause-wide
returns-clause-wide c = reached_wide c.args.goal.now c.args.value c.turned.result c.turned-2.result c.turned.ensures c.turned-2.ensures c.sub.result c.sub.ensures.wide
