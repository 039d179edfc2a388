use Rattle.osrl_grammar.proofs.Names.{take, IsFree}
use Rattle.osrl_grammar.proofs.pieces.cut.Given as goal

abbrev pub invariant-loop-i : goal.invariant-loop-i
invariant-loop-i l = IsFree l.byte (take l.i l.text)
