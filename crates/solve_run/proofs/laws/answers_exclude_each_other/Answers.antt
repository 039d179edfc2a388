use Rattle.std.proofs.Common.{None}
use Rattle.solve_run.proofs.OneAnswer.{options_instance, options_search, instance_search, options_handed, instance_handed, handed_search}
use Rattle.solve_run.proofs.laws.answers_exclude_each_other.Goals as goal

pub returns-clause-options_instance : goal.returns-clause-options_instance
returns-clause-options_instance c = options_instance c.options_are_one.ensures c.instances_are_one.ensures None

pub returns-clause-options_search : goal.returns-clause-options_search
returns-clause-options_search c = options_search c.options_are_one.ensures c.instances_are_one.ensures

pub returns-clause-instance_search : goal.returns-clause-instance_search
returns-clause-instance_search c = instance_search c.options_are_one.ensures c.instances_are_one.ensures

pub returns-clause-options_handed : goal.returns-clause-options_handed
returns-clause-options_handed c = options_handed c.options_are_one.ensures c.instances_are_one.ensures

pub returns-clause-instance_handed : goal.returns-clause-instance_handed
returns-clause-instance_handed c = instance_handed c.options_are_one.ensures c.instances_are_one.ensures

pub returns-clause-handed_search : goal.returns-clause-handed_search
returns-clause-handed_search c = λ beside. handed_search c.options_are_one.ensures c.instances_are_one.ensures beside c.handed_are_one.ensures
