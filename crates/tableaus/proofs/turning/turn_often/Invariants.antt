use Rattle.std.proofs.Common.{◌≡◌}
use Rattle.dictionary.specs.Dict.{width_of, height_of}
use Rattle.tableaus.proofs.turning.turn_often.Given as goal

abbrev pub invariant-loop : goal.invariant-loop
invariant-loop g l = record {
  width : width_of l.dict ≡ width_of l.initial.dict;
  height : height_of l.dict ≡ height_of l.initial.dict;
}
