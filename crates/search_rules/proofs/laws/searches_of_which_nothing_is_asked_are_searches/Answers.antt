use Rattle.search_rules.proofs.AskedSearches.{plain_search, plain_answer, asked_back}
use Rattle.search_rules.proofs.laws.searches_of_which_nothing_is_asked_are_searches.Goals as goal

pub returns-clause-on : goal.returns-clause-on
returns-clause-on c = λ P t start o b d a. plain_answer P t start o b d a

pub returns-clause-back : goal.returns-clause-back
returns-clause-back c = λ P t start o d a. asked_back P t start o d a

pub returns-clause-bounded : goal.returns-clause-bounded
returns-clause-bounded c = λ P t asks start o b d s. plain_search P t start asks o b d s
