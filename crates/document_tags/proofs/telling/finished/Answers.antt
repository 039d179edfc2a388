use Rattle.document_tags.proofs.OneTree.{has_tree, tree_is}
use Rattle.document_tags.proofs.telling.finished.Goals as goal

pub unwrap-requires : goal.unwrap-requires
unwrap-requires c = has_tree c.finish.result _ c.finish.ensures c.requires

pub returns : goal.returns
returns c = tree_is c.finish.result _ c.unwrap.result c.finish.ensures c.unwrap.ensures
