use Rattle.search_rules.proofs.LeastSearches.{search_on, search_back}
use Rattle.search_rules.proofs.NamedSearches.{legal_bland, single_bland}
use Rattle.search_rules.proofs.laws.searches_are_by_least_variables.Goals as goal

pub returns-clause-legal : goal.returns-clause-legal
returns-clause-legal c = legal_bland

pub returns-clause-single : goal.returns-clause-single
returns-clause-single c = single_bland

pub returns-clause-on : goal.returns-clause-on
returns-clause-on c = λ P t o d s. search_on P t o d s

pub returns-clause-back : goal.returns-clause-back
returns-clause-back c = λ P t o d s. search_back P t o d s
