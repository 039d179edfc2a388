use Rattle.doc_tree.proofs.Words.{view}
use Rattle.doc_tree.proofs.Walking.Steps.{value_walks}
use Rattle.doc_tree.proofs.machine.Machine.value_walk.Goals as goal

pub returns-clause-walks : goal.returns-clause-walks
returns-clause-walks c = value_walks (view c.args.self.now) _ _ c.requires.place c.requires.good c.value_length-length.ensures.plain c.in_ok-extend_from_slice.ensures.items
