use Rattle.std.proofs.Common.{◌≡◌}
use Rattle.dictionary.specs.Dict.{width_of, height_of}
use Rattle.tableaus.specs.Dictionaries.{HoldsProgram}
use Rattle.tableaus.proofs.turning.turn_all.Given as goal

abbrev pub invariant-loop-k : goal.invariant-loop-k
invariant-loop-k g l = record {
  width : width_of l.dict ≡ width_of l.initial.dict;
  height : height_of l.dict ≡ height_of l.initial.dict;
  held : HoldsProgram l.dict;
}
