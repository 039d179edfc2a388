use Rattle.std.proofs.Common.{[], drop}
use Rattle.os_io.specs.declared.streams.Failed.{Failed}
use Rattle.tree_grammar.specs.WrittenText.{written_attributes}
use Rattle.element_tree.specs.Items.{event_at, attributes_of}
use Rattle.os_io.proofs.Pieces.{SoFar}
use Rattle.tree_writing.proofs.writing.put_attributes.Given as goal

abbrev pub invariant-loop-k : goal.invariant-loop-k
invariant-loop-k g l = SoFar Failed (written_attributes (attributes_of (event_at l.tree l.i)) []) (written_attributes (drop l.k (attributes_of (event_at l.tree l.i))) []) (g.S.Stream.tells l.fn.sink) (g.S.Stream.tells l.sink)
