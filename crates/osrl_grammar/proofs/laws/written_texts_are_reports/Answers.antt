use Rattle.osrl_grammar.proofs.BackReport.{text_comes_back}
use Rattle.osrl_grammar.proofs.laws.written_texts_are_reports.Goals as goal

pub returns : goal.returns
returns c = text_comes_back
