use Rattle.evidence.proofs.LeftOut.{farkas_left, bound_left, grid_left}
use Rattle.evidence.proofs.variables_may_be_left_out.Goals as goal

pub returns-clause-farkas : goal.returns-clause-farkas
returns-clause-farkas c = λ I ms good f. farkas_left I good ms f

pub returns-clause-bound : goal.returns-clause-bound
returns-clause-bound c = λ I ms z good p b. bound_left I good ms z p b

pub returns-clause-grid : goal.returns-clause-grid
returns-clause-grid c = λ I g ms z good b. grid_left I good g ms z b
