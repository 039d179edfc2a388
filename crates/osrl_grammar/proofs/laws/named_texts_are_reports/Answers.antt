use Rattle.osrl_grammar.proofs.RoundTrips.{named_again}
use Rattle.osrl_grammar.proofs.laws.named_texts_are_reports.Goals as goal

pub returns : goal.returns
returns c = named_again c.texts_are_of_characters.ensures
