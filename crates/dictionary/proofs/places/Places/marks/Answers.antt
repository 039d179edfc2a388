use Rattle.dictionary.specs.Dict.{place_values}
use Rattle.dictionary.proofs.places.Places.marks.Goals as goal

pub returns : goal.returns
unfolding place_values
returns c = let p = c.args.self.now in p.marked
