use Rattle.osrl_grammar.proofs.Names.{more, no_field}
use Rattle.osrl_grammar.proofs.PieceTexts.{behind_some, not_none}
use Rattle.osrl_grammar.proofs.Fields.{shapeless_read}
use Rattle.osrl_grammar.proofs.item_reading.alone.Goals as goal

pub returns-in-Some : goal.returns-in-Some
returns-in-Some c = shapeless_read (no_field (more c.args.rest)) _ (not_none (more c.args.rest) (behind_some c.args.rest _ c.in-Some.is))
