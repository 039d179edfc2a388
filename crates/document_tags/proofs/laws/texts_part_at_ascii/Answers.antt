use Rattle.document_tags.proofs.TextCuts.{parts}
use Rattle.document_tags.proofs.laws.texts_part_at_ascii.Goals as goal

pub returns : goal.returns
returns c = parts
