use Rattle.evidence.proofs.UniqueRows.{one_end, level_step, endless_step}
use Rattle.evidence.proofs.LevelSteps.{next-instance}
use Rattle.evidence.proofs.levels_are_read.Goals as goal

pub returns-clause-one_end : goal.returns-clause-one_end
returns-clause-one_end c = one_end

pub returns-clause-best : goal.returns-clause-best
returns-clause-best c = level_step

pub returns-clause-endless : goal.returns-clause-endless
returns-clause-endless c = endless_step

pub returns-clause-instances : goal.returns-clause-instances
returns-clause-instances c = λ I v e g good p h q. next-instance I good v e p h g q
