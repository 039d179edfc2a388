use Rattle.search_rules.proofs.FirstPoints.{first_once, first_feasible}
use Rattle.search_rules.proofs.laws.first_points_are_one.Goals as goal

pub returns-clause-one : goal.returns-clause-one
returns-clause-one c = λ P gs a b n is other. first_once P gs a b n is other

pub returns-clause-feasible : goal.returns-clause-feasible
returns-clause-feasible c = λ P gs f is. first_feasible P gs f is
