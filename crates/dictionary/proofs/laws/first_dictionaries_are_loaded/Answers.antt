use Rattle.dictionary.specs.Dict.{width_of, height_of}
use Rattle.dictionary.proofs.FirstDictionary.{first_holds, first_basis}
use Rattle.dictionary.proofs.laws.first_dictionaries_are_loaded.Goals as goal

pub returns-clause-holds : goal.returns-clause-holds
returns-clause-holds g c = λ A d first. first_holds d A first

pub returns-clause-basis : goal.returns-clause-basis
unfolding width_of height_of
returns-clause-basis g c = λ A d first. first_basis d A first
