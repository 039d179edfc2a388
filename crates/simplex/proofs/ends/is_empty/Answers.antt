use Rattle.simplex.proofs.Starts.{crossed, crossed_back}
use Rattle.simplex.proofs.ends.is_empty.Goals as goal

pub returns-in-At-ub : goal.returns-in-At-ub
returns-in-At-ub c = (
  crossed c.args.e.lb c.args.e.ub c.in-At.l c.in-At-ub.h c.in-At.is c.in-At-ub.is c.is_less.result c.is_less.ensures,
  crossed_back c.args.e.lb c.args.e.ub c.in-At.l c.in-At-ub.h c.in-At.is c.in-At-ub.is c.is_less.result c.is_less.ensures,
)
