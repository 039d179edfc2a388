use Rattle.doc_tree.proofs.Words.{Each, IsNameChar, take}
use Rattle.doc_tree.proofs.machine.walks.rest_length.Given as goal

abbrev pub invariant-loop-i : goal.invariant-loop-i
invariant-loop-i l = Each IsNameChar (take l.i l.bytes)
