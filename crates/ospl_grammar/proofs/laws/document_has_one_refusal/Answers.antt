use Rattle.ospl_grammar.proofs.OneAnswer.{refused_once, refusal_once}
use Rattle.ospl_grammar.proofs.laws.document_has_one_refusal.Goals as goal

pub returns-clause-root : goal.returns-clause-root
returns-clause-root c = refused_once

pub returns-clause-text : goal.returns-clause-text
returns-clause-text c = refusal_once
