use Rattle.fraction.specs.Frac.{ratios}
use Rattle.instance.specs.Program.{program, problem}
use Rattle.branch_bound.proofs.FirstValues.{not_feasible, not_within}
use Rattle.branch_bound.proofs.start.is_point.Goals as goal

pub returns-in-No-clause-no : goal.returns-in-No-clause-no
returns-in-No-clause-no c = λ t feasible fits. not_feasible (program c.args.instance.now) (ratios c.args.point.now) _ (rw c.in-No.is at c.in-Ok.ensures.found) feasible

pub returns-in-Err-clause-no : goal.returns-in-Err-clause-no
returns-in-Err-clause-no c = λ t feasible fits. not_within (problem c.args.instance.now) (ratios c.args.point.now) c.in-Err.ensures.wide fits
