use Rattle.search_rules.proofs.FirstPoints.{from_shown, searches_once, from_none, comes_from_none, plain_answer, answer_plain}
use Rattle.search_rules.proofs.laws.searches_from_points_are_shown.Goals as goal

pub returns-clause-shown : goal.returns-clause-shown
returns-clause-shown c = λ P t gs start o d n is answer. from_shown P t n gs start is o d answer

pub returns-clause-one : goal.returns-clause-one
returns-clause-one c = λ P t gs a b o p d e n is other s u. searches_once P t n gs a b is other o p d e s u

pub returns-clause-on : goal.returns-clause-on
returns-clause-on c = λ P t o d a. plain_answer P t o d a

pub returns-clause-back : goal.returns-clause-back
returns-clause-back c = λ P t o d a. answer_plain P t o d a

pub returns-clause-moments_on : goal.returns-clause-moments_on
returns-clause-moments_on c = λ P t m comes. from_none P t m comes

pub returns-clause-moments_back : goal.returns-clause-moments_back
returns-clause-moments_back c = λ P t m comes. comes_from_none P t m comes
