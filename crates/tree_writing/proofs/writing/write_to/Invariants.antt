use Rattle.std.proofs.Common.{◌++◌, drop, false}
use Rattle.os_io.specs.declared.streams.Failed.{Failed}
use Rattle.tree_grammar.specs.WrittenText.{written_declaration, written_events}
use Rattle.os_io.proofs.Pieces.{SoFar}
use Rattle.tree_writing.proofs.writing.write_to.Given as goal

abbrev pub invariant-loop-i : goal.invariant-loop-i
invariant-loop-i g l = SoFar Failed (written_declaration ++ written_events false l.tree) (written_events l.is_open (drop l.i l.tree)) (g.S.Stream.tells l.fn.sink) (g.S.Stream.tells l.sink)
