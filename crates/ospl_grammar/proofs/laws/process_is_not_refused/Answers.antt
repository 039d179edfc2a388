use Rattle.ospl_grammar.proofs.OneAnswer.{process_apart, refusal_apart}
use Rattle.ospl_grammar.proofs.laws.process_is_not_refused.Goals as goal

pub returns-clause-root : goal.returns-clause-root
returns-clause-root c = process_apart

pub returns-clause-text : goal.returns-clause-text
returns-clause-text c = refusal_apart
