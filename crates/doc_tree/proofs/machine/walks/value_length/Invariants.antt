use Rattle.doc_tree.proofs.Words.{Each, IsPlainValue, take}
use Rattle.doc_tree.proofs.machine.walks.value_length.Given as goal

abbrev pub invariant-loop-i : goal.invariant-loop-i
invariant-loop-i l = Each (IsPlainValue l.quote) (take l.i l.bytes)
