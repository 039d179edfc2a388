use Rattle.osrl_grammar.proofs.OneDocument.{refusal_once, refusal_text_once}
use Rattle.osrl_grammar.proofs.reading_laws.document_has_one_refusal.Goals as goal

pub returns-clause-root : goal.returns-clause-root
returns-clause-root c = refusal_once

pub returns-clause-text : goal.returns-clause-text
returns-clause-text c = refusal_text_once
