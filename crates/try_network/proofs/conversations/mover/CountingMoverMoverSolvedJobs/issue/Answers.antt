use Rattle.job_table.specs.Jobs.{Register, beginning}
use Rattle.try_network.proofs.TableMoves.{if_none}
use Rattle.try_network.proofs.conversations.mover.CountingMoverMoverSolvedJobs.issue.Goals as goal

pub returns-clause-sure : goal.returns-clause-sure
returns-clause-sure c = if_none _ (Register × Unit {0}) (beginning 1, tt)
