use Rattle.osil_grammar.proofs.WrittenTexts.{text_is_own, text_of_no_other}
use Rattle.osil_grammar.proofs.laws.written_text_is_of_one_instance.Goals as goal

pub returns-clause-own : goal.returns-clause-own
returns-clause-own c = text_is_own

pub returns-clause-only : goal.returns-clause-only
returns-clause-only c = text_of_no_other
