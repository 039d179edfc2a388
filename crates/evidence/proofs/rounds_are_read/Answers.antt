use Rattle.evidence.proofs.UniqueRows.{one_row}
use Rattle.evidence.proofs.RowRounds.{one_round_row, round_step}
use Rattle.evidence.proofs.RoundingCuts.{instance_derived, instance_rounded}
use Rattle.evidence.specs.Rounds.{RoundBy}
use Rattle.evidence.proofs.rounds_are_read.Goals as goal

pub returns-clause-one_row : goal.returns-clause-one_row
returns-clause-one_row c = one_row

pub returns-clause-none_left : goal.returns-clause-none_left
returns-clause-none_left c = λ I nodes z. (λ h. h, λ h. h)

pub returns-clause-round : goal.returns-clause-round
returns-clause-round c = λ I good ms. round_step I good (RoundBy ms)

pub returns-clause-instances : goal.returns-clause-instances
returns-clause-instances c = λ I ms cs k good r. instance_derived I good ms cs k r

pub returns-clause-any_row : goal.returns-clause-any_row
returns-clause-any_row c = one_round_row

pub returns-clause-any_round : goal.returns-clause-any_round
returns-clause-any_round c = round_step

pub returns-clause-any_instances : goal.returns-clause-any_instances
returns-clause-any_instances c = λ I r cs k good is. instance_rounded I good r cs k is
