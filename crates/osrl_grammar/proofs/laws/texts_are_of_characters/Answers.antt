use Rattle.osrl_grammar.proofs.laws.texts_are_of_characters.Goals as goal

pub returns : goal.returns
returns c = record { root = c.documents_are_of_characters.ensures.root; part = c.texts_part_at_ascii.ensures }
