use Rattle.std.proofs.Common.{arith, sym}
use Rattle.instance.proofs.Terms.{read}
use Rattle.dictionary.specs.Dict.{count_of, place_values}
use Rattle.dictionary.proofs.places.Places.value.Goals as goal

pub index-requires : goal.index-requires
unfolding count_of
index-requires c = let v = c.args.self.now.values in let e = v.ok.0 in let l = c.requires in omega arith

pub returns : goal.returns
unfolding count_of place_values
returns c = sym (read c.args.self.now.values.items c.args.column c.index.result.now c.requires c.index.ensures)
