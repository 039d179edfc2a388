use Rattle.tree_grammar.proofs.Order.{element_in_order}
use Rattle.tree_grammar.proofs.written_in_document_order.Goals as goal

pub returns : goal.returns
returns c = element_in_order
