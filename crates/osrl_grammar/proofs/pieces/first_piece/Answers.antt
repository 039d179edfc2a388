use Rattle.osrl_grammar.proofs.PieceTexts.{first_is}
use Rattle.osrl_grammar.proofs.pieces.first_piece.Goals as goal

pub returns : goal.returns
returns c = first_is c.args.text.now c.cut.result.0.now c.cut.result.1 c.cut.ensures.free c.cut.ensures.parts
