use Rattle.simplex.proofs.ValueLists.{length-listed, value_listed}
use Rattle.simplex.proofs.laws.first_values_are_listed.Goals as goal

pub returns : goal.returns
returns c = record { count = length-listed; values = value_listed }
