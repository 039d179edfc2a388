use Rattle.osrl_grammar.proofs.OneDocument.{report_apart, refusal_apart}
use Rattle.osrl_grammar.proofs.reading_laws.report_is_not_refused.Goals as goal

pub returns-clause-root : goal.returns-clause-root
returns-clause-root c = report_apart

pub returns-clause-text : goal.returns-clause-text
returns-clause-text c = refusal_apart
