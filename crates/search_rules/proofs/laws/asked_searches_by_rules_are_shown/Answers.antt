use Rattle.std.proofs.Common.{Some, refl}
use Rattle.search_rules.specs.FastSearch.{search_rules_of}
use Rattle.search_rules.proofs.NamedSearches.{legal, single}
use Rattle.search_rules.proofs.RuleAnswers.{answer_shown_by, answer_bound_by, best_accepted_by, near_true_by, nothing_asked_by, asked_nothing_by}
use Rattle.search_rules.proofs.OneRuleAnswer.{asked_once_by}
use Rattle.search_rules.proofs.laws.asked_searches_by_rules_are_shown.Goals as goal

pub returns-clause-outcome : goal.returns-clause-outcome
returns-clause-outcome c = λ k P t a gs start o b d n is answer. answer_shown_by (search_rules_of k) (legal k) P t a n gs start is o b d answer

pub returns-clause-bound : goal.returns-clause-bound
returns-clause-bound c = λ k P t a gs start o b d n is answer. answer_bound_by (search_rules_of k) (legal k) P t a n gs start is o (Some b) b d refl answer

pub returns-clause-best : goal.returns-clause-best
returns-clause-best c = λ k P t a gs start x vs j b d n is s e tells. best_accepted_by (search_rules_of k) (legal k) P t a n gs start is x vs j b d s e tells

pub returns-clause-near : goal.returns-clause-near
returns-clause-near c = λ k P t a gs start g s ks xs n is comes near from y f. near_true_by (search_rules_of k) (legal k) P t a n gs start is g s ks xs comes near from y f

pub returns-clause-one : goal.returns-clause-one
returns-clause-one c = λ k P t a gs i j o p b d e f n is other s u. asked_once_by (search_rules_of k) (legal k) (single k) P t a n gs i j o p b d e f is other s u

pub returns-clause-on : goal.returns-clause-on
returns-clause-on c = λ k P t start o b d answer. nothing_asked_by (search_rules_of k) (legal k) P t start o b d answer

pub returns-clause-back : goal.returns-clause-back
returns-clause-back c = λ k P t start o d answer. asked_nothing_by (search_rules_of k) (legal k) P t start o d answer
