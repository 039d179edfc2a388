use Rattle.dictionary.proofs.FoundValues.{found_unmarked, found_nothing}
use Rattle.dictionary.proofs.scratch.Scratch.clear.Goals as goal

pub returns-clause-none : goal.returns-clause-none
returns-clause-none c j = found_unmarked _ j (c.clear.ensures.none j)

pub returns-clause-found : goal.returns-clause-found
returns-clause-found c = found_nothing _ c.clear.ensures.none
