use Rattle.osol_grammar.proofs.OneAnswer.{options_once, text_once}
use Rattle.osol_grammar.proofs.laws.document_says_one.Goals as goal

pub returns-clause-root : goal.returns-clause-root
returns-clause-root c = options_once

pub returns-clause-text : goal.returns-clause-text
returns-clause-text c = text_once
