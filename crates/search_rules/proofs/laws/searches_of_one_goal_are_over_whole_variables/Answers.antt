use Rattle.search_rules.proofs.OneGoal.{comes_whole, answer_on, answer_back, search_on, search_back}
use Rattle.search_rules.proofs.laws.searches_of_one_goal_are_over_whole_variables.Goals as goal

pub returns-clause-moments : goal.returns-clause-moments
returns-clause-moments c = λ I t m good whole k. comes_whole I good t whole m k

pub returns-clause-on : goal.returns-clause-on
returns-clause-on c = λ I t o d good whole a. answer_on I good t whole o d a

pub returns-clause-back : goal.returns-clause-back
returns-clause-back c = λ I t p d good whole a. answer_back I good t whole p d a

pub returns-clause-ends_on : goal.returns-clause-ends_on
returns-clause-ends_on c = λ I t o d good whole s. search_on I good t whole o d s

pub returns-clause-ends_back : goal.returns-clause-ends_back
returns-clause-ends_back c = λ I t p d good whole s. search_back I good t whole p d s
