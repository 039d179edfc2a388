use Rattle.osil_grammar.proofs.Documents.{written_document}
use Rattle.osil_grammar.proofs.laws.written_instance_is_document.Goals as goal

pub returns : goal.returns
returns c = written_document
