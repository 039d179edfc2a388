use Rattle.osol_grammar.proofs.ReadOptions.{text_back}
use Rattle.osol_grammar.proofs.laws.read_options_come_back.Goals as goal

pub returns : goal.returns
returns c = text_back c.documents_are_of_characters.ensures.root c.texts_part_at_ascii.ensures
