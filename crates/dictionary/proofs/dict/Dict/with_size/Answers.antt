use Rattle.std.proofs.Common.{refl}
use Rattle.dictionary.specs.Dict.{width_of, height_of}
use Rattle.dictionary.proofs.dict.Dict.with_size.Goals as goal

pub returns-clause-width : goal.returns-clause-width
unfolding width_of
returns-clause-width g c = refl

pub returns-clause-height : goal.returns-clause-height
unfolding height_of
returns-clause-height g c = refl
