use Rattle.bases.proofs.OwnColumns.{fresh_dictionary}
use Rattle.bases.proofs.laws.rows_are_a_dictionary.Goals as goal

pub returns : goal.returns
returns c = fresh_dictionary
