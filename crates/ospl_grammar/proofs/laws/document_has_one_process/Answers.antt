use Rattle.ospl_grammar.proofs.OneAnswer.{process_once, process_text_once}
use Rattle.ospl_grammar.proofs.laws.document_has_one_process.Goals as goal

pub returns-clause-root : goal.returns-clause-root
returns-clause-root c = process_once

pub returns-clause-text : goal.returns-clause-text
returns-clause-text c = process_text_once
