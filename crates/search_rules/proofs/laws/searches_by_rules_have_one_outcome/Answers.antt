use Rattle.search_rules.specs.FastSearch.{search_rules_of}
use Rattle.search_rules.proofs.NamedSearches.{legal, single}
use Rattle.search_rules.proofs.RuleOutcomes.{search_once}
use Rattle.search_rules.proofs.laws.searches_by_rules_have_one_outcome.Goals as goal

pub returns : goal.returns
returns c = λ k P t o p d e good s u. search_once (search_rules_of k) (legal k) (single k) P good t o p d e s u
