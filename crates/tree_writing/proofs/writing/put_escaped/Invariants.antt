use Rattle.std.proofs.Common.{flat_map, length}
use Rattle.os_io.specs.declared.streams.Failed.{Failed}
use Rattle.tree_writing.specs.Escapes.{escaped_by}
use Rattle.os_io.proofs.Pieces.{SoFar}
use Rattle.tree_writing.proofs.writing.put_escaped.Given as goal

abbrev pub invariant-loop-first : goal.invariant-loop-first
invariant-loop-first g l = SoFar Failed (flat_map (escaped_by l.in_value) l.bytes) (flat_map (escaped_by l.in_value) l.rest) (g.S.Stream.tells l.fn.sink) (g.S.Stream.tells l.sink)

abbrev pub decreases-loop-first : goal.decreases-loop-first
decreases-loop-first g l = length l.rest
