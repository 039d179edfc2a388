use Rattle.evidence.proofs.SemiVariables.{semi_kept, semi_moves}
use Rattle.evidence.proofs.semi_variables_are_zero_or_between.Goals as goal

pub returns-clause-keeps : goal.returns-clause-keeps
returns-clause-keeps c = semi_kept

pub returns-clause-moves : goal.returns-clause-moves
returns-clause-moves c = semi_moves
