use Rattle.solve_run.proofs.OneAnswer.{told_at_end}
use Rattle.solve_run.proofs.laws.ended_searches_are_told.Goals as goal

pub returns : goal.returns
returns c = λ beside. told_at_end c.searches_are_one.ensures beside c.options_are_one.ensures c.instances_are_one.ensures c.handed_are_one.ensures
