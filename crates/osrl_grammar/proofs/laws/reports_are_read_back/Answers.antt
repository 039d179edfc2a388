use Rattle.osrl_grammar.proofs.RoundTrips.{reads_again}
use Rattle.osrl_grammar.proofs.laws.reports_are_read_back.Goals as goal

pub returns : goal.returns
returns c = reads_again c.texts_are_of_characters.ensures
