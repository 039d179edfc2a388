use Rattle.search_rules.proofs.LeastSearches.{answer_from_on, answer_from_back}
use Rattle.search_rules.proofs.LeastAnswers.{asked_by_least, least_asked}
use Rattle.search_rules.proofs.laws.asked_searches_are_by_least_variables.Goals as goal

pub returns-clause-from_on : goal.returns-clause-from_on
returns-clause-from_on c = λ P t start o d answer. answer_from_on P t start o d answer

pub returns-clause-from_back : goal.returns-clause-from_back
returns-clause-from_back c = λ P t start o d answer. answer_from_back P t start o d answer

pub returns-clause-on : goal.returns-clause-on
returns-clause-on c = λ P t a start o b d answer. asked_by_least P t a start o b d answer

pub returns-clause-back : goal.returns-clause-back
returns-clause-back c = λ P t a start o b d answer. least_asked P t a start o b d answer
