use Rattle.tree_writing.proofs.Documents.{written_doc}
use Rattle.tree_writing.proofs.laws.written_text_is_document.Goals as goal

pub returns : goal.returns
returns c = written_doc
