use Rattle.doc_tree.specs.Marks.{Finish}
use Rattle.tag_tests.specs.Places.{ends}
use Rattle.tag_tests.proofs.EndKinds.{end_here}
use Rattle.tag_tests.proofs.Readers.{step_as}
use Rattle.osol_grammar.specs.Marked.{by_kinds}
use Rattle.osol_grammar.proofs.parse_state.ParseStateMarkReaderRefused.close.Goals as goal

pub returns : goal.returns
returns c = step_as by_kinds c.args.self.now c.end.new.self (Finish c.args._name.now) (ends c.args.self.now.place) c.end.result (end_here c.args.self.now.depth c.args.self.now.place c.if-self-gt0.false) c.end.ensures
