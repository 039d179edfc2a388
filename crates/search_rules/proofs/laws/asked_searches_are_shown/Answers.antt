use Rattle.std.proofs.Common.{Some, refl}
use Rattle.search_rules.proofs.AskedSearches.{answer_shown}
use Rattle.search_rules.proofs.AskedBounds.{found_shown, best_accepted, unsure_accepted, asked_once}
use Rattle.search_rules.proofs.laws.asked_searches_are_shown.Goals as goal

pub returns-clause-outcome : goal.returns-clause-outcome
returns-clause-outcome c = λ P t a gs start o b d n is answer. answer_shown P t a n gs start is o b d answer

pub returns-clause-bound : goal.returns-clause-bound
returns-clause-bound c = λ P t a gs start o b d n is answer. found_shown P t a n gs start is o (Some b) b d refl answer

pub returns-clause-best : goal.returns-clause-best
returns-clause-best c = λ P t a gs start x vs k b d n is s e tells. best_accepted P t a n gs start is x vs k b d s e tells

pub returns-clause-unsure : goal.returns-clause-unsure
returns-clause-unsure c = λ P t a start k b d s e tells. unsure_accepted P k b e tells

pub returns-clause-one : goal.returns-clause-one
returns-clause-one c = λ P t a gs i j o p b d e f n is other s u. asked_once P t a n gs i j o p b d e f is other s u
