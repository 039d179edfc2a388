use Rattle.osol_grammar.proofs.OneAnswer.{root_apart, text_apart}
use Rattle.osol_grammar.proofs.laws.options_are_not_refused.Goals as goal

pub returns-clause-root : goal.returns-clause-root
returns-clause-root c = root_apart

pub returns-clause-text : goal.returns-clause-text
returns-clause-text c = text_apart
