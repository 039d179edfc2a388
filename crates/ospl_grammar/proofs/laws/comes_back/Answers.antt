use Rattle.ospl_grammar.specs.Writing.{process_text}
use Rattle.ospl_grammar.proofs.OneAnswer.{answer_is}
use Rattle.ospl_grammar.proofs.BackMarks.{text_says}
use Rattle.ospl_grammar.proofs.laws.comes_back.Goals as goal

pub returns : goal.returns
returns c = λ p r back ok err other. answer_is (process_text p) p r (text_says p back) ok err other
