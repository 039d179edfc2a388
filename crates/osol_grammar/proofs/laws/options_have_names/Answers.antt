use Rattle.osol_grammar.proofs.ReadOptions.{text_back}
use Rattle.osol_grammar.proofs.laws.options_have_names.Goals as goal

pub returns : goal.returns
returns c = λ bytes o is. (text_back c.documents_are_of_characters.ensures.root c.texts_part_at_ascii.ensures bytes o is).job
