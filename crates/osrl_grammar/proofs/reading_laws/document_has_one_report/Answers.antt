use Rattle.osrl_grammar.proofs.OneDocument.{report_once, report_text_once}
use Rattle.osrl_grammar.proofs.reading_laws.document_has_one_report.Goals as goal

pub returns-clause-root : goal.returns-clause-root
returns-clause-root c = report_once

pub returns-clause-text : goal.returns-clause-text
returns-clause-text c = report_text_once
