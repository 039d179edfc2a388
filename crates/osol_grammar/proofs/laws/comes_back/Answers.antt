use Rattle.osol_grammar.specs.Writing.{options_text}
use Rattle.osol_grammar.proofs.OneAnswer.{answer_is}
use Rattle.osol_grammar.proofs.BackMarks.{text_says}
use Rattle.osol_grammar.proofs.laws.comes_back.Goals as goal

pub returns : goal.returns
returns c = λ o r back ok err other. answer_is (options_text o) o r (text_says o back) ok err other
