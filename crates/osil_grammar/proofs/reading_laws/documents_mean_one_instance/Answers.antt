use Rattle.osil_grammar.proofs.OneDocument.{root_means_once, text_means_once}
use Rattle.osil_grammar.proofs.reading_laws.documents_mean_one_instance.Goals as goal

pub returns-clause-root : goal.returns-clause-root
returns-clause-root c = root_means_once

pub returns-clause-text : goal.returns-clause-text
returns-clause-text c = text_means_once
