use Rattle.search_rules.specs.FastSearch.{search_rules_of}
use Rattle.search_rules.proofs.NamedSearches.{legal, single}
use Rattle.search_rules.proofs.RulePoints.{from_shown, searches_once, plain_answer, answer_plain}
use Rattle.search_rules.proofs.laws.searches_by_rules_from_points_are_shown.Goals as goal

pub returns-clause-shown : goal.returns-clause-shown
returns-clause-shown c = λ k P t gs start o d n is answer. from_shown (search_rules_of k) (legal k) P t n gs start is o d answer

pub returns-clause-one : goal.returns-clause-one
returns-clause-one c = λ k P t gs a b o p d e n is other s u. searches_once (search_rules_of k) (legal k) (single k) P t n gs a b is other o p d e s u

pub returns-clause-on : goal.returns-clause-on
returns-clause-on c = λ k P t o d a. plain_answer (search_rules_of k) P t o d a

pub returns-clause-back : goal.returns-clause-back
returns-clause-back c = λ k P t o d a. answer_plain (search_rules_of k) P t o d a
