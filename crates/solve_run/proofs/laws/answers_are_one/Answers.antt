use Rattle.std.proofs.Common.{None}
use Rattle.solve_run.proofs.OneAnswer.{options_once, instance_once, search_once, handed_once}
use Rattle.solve_run.proofs.laws.answers_are_one.Goals as goal

pub returns-clause-options : goal.returns-clause-options
returns-clause-options c = options_once c.options_are_one.ensures c.instances_are_one.ensures None

pub returns-clause-instance : goal.returns-clause-instance
returns-clause-instance c = instance_once c.options_are_one.ensures c.instances_are_one.ensures None

pub returns-clause-search : goal.returns-clause-search
returns-clause-search c = λ beside. search_once c.searches_are_one.ensures beside c.options_are_one.ensures c.instances_are_one.ensures c.handed_are_one.ensures

pub returns-clause-handed : goal.returns-clause-handed
returns-clause-handed c = λ beside. handed_once c.searches_are_one.ensures beside c.options_are_one.ensures c.instances_are_one.ensures c.handed_are_one.ensures
