use Rattle.osrl_grammar.proofs.PieceTexts.{parted_none, parted_some}
use Rattle.osrl_grammar.proofs.pieces.parted.Goals as goal

pub returns-in-Some : goal.returns-in-Some
returns-in-Some c = parted_some c.args.piece.now c.cut.result.0.now c.cut.result.1 c.in-Some.factor c.in-Some.is c.cut.ensures.free c.cut.ensures.parts

pub returns-in-None : goal.returns-in-None
returns-in-None c = parted_none c.args.piece.now c.cut.result.0.now c.cut.result.1 c.in-None.is c.cut.ensures.free c.cut.ensures.parts
