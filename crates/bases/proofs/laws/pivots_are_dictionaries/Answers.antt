use Rattle.bases.proofs.Pivots.{pivoted_dictionary}
use Rattle.bases.proofs.laws.pivots_are_dictionaries.Goals as goal

pub returns : goal.returns
returns c = pivoted_dictionary
