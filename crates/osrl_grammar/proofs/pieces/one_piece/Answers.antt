use Rattle.osrl_grammar.proofs.Names.{ap, length, arith}
use Rattle.osrl_grammar.proofs.PieceTexts.{more_some}
use Rattle.osrl_grammar.proofs.pieces.one_piece.Goals as goal

pub returns-then-is_some : goal.returns-then-is_some
returns-then-is_some c = λ one. let all = ap length c.in_ok-a.ensures in let some = more_some c.in_ok-a.rest c.if-is_some.ensures in omega (arith, one, all, some)
