use Rattle.search_rules.proofs.OneOutcome.{search_once}
use Rattle.search_rules.proofs.laws.searches_have_one_outcome.Goals as goal

pub returns : goal.returns
returns c = λ P t o p d e n s u. search_once P n t o p d e s u
