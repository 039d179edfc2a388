use Rattle.std.proofs.Common.{◌≡◌, flat_map, take}
use Rattle.tree_writing.specs.Escapes.{escaped_by}
use Rattle.tree_writing.proofs.writing.plain_length.Given as goal

abbrev pub invariant-loop-i : goal.invariant-loop-i
invariant-loop-i l = flat_map (escaped_by l.in_value) (take l.i l.bytes) ≡ take l.i l.bytes
