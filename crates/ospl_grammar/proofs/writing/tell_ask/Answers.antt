use Rattle.document_tags.proofs.Tellings.{told_then, ends_told}
use Rattle.ospl_grammar.proofs.writing.tell_ask.Goals as goal

pub returns : goal.returns
returns c = ends_told c.close.result _ _ _ _ _ (told_then _ _ _ _ _ c.in_ok-open.ensures c.in_ok-leaf_with.ensures) c.close.ensures
