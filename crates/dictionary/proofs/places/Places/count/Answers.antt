use Rattle.std.proofs.Common.{◌∙◌}
use Rattle.dictionary.specs.Dict.{count_of}
use Rattle.dictionary.proofs.places.Places.count.Goals as goal

pub returns : goal.returns
unfolding count_of
returns c = let v = c.args.self.now.values in c.len.ensures ∙ v.ok.0
