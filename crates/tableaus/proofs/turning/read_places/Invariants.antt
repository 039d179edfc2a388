use Rattle.std.proofs.Common.{◌≡◌, length}
use Rattle.dictionary.specs.Dict.{count_of}
use Rattle.tableaus.proofs.turning.read_places.Given as goal

abbrev pub invariant-loop-value : goal.invariant-loop-value
invariant-loop-value l = count_of l.places ≡ length l.values
