use Rattle.cert_checker.proofs.GridSteps.{grid_is}
use Rattle.cert_checker.proofs.grids.checked_grids_are_grids.Goals as goal

pub returns : goal.returns
returns c = grid_is
