use Rattle.bases.proofs.Lists.{one_dictionary, same_basis}
use Rattle.bases.proofs.laws.bases_have_one_dictionary.Goals as goal

pub returns-clause-only : goal.returns-clause-only
returns-clause-only c = one_dictionary

pub returns-clause-alike : goal.returns-clause-alike
returns-clause-alike c = same_basis
