use Rattle.search_rules.specs.FastSearch.{search_rules_of}
use Rattle.search_rules.proofs.NamedSearches.{legal}
use Rattle.search_rules.proofs.RuleSearches.{answer_shown}
use Rattle.search_rules.proofs.laws.searches_by_rules_are_shown.Goals as goal

pub returns : goal.returns
returns c = λ k P t o d good a. answer_shown (search_rules_of k) (legal k) P t o d good a
