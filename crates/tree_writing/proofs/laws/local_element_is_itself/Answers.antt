use Rattle.tree_writing.proofs.Documents.{element_local}
use Rattle.tree_writing.proofs.laws.local_element_is_itself.Goals as goal

pub returns : goal.returns
returns c = element_local
