use Rattle.doc_tree.proofs.Words.{Each, IsPlainText, take}
use Rattle.doc_tree.proofs.machine.walks.text_length.Given as goal

abbrev pub invariant-loop-i : goal.invariant-loop-i
invariant-loop-i l = Each IsPlainText (take l.i l.bytes)
