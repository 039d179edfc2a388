use Rattle.doc_tree.proofs.Words.{view}
use Rattle.doc_tree.proofs.Walking.Pieces.{some_taken}
use Rattle.doc_tree.proofs.Walking.Steps.{text_walks}
use Rattle.doc_tree.proofs.machine.Machine.text_walk.Goals as goal

pub returns-clause-walks : goal.returns-clause-walks
returns-clause-walks c = text_walks (view c.args.self.now) _ _ _ c.requires.place c.requires.good c.text_length-length.ensures.plain (some_taken c.text_length-length.result c.args.bytes.now c.if-length-eq0.false c.text_length-length.ensures.within) c.in_ok-push_text.ensures.waits c.in_ok-push_text.ensures.says
