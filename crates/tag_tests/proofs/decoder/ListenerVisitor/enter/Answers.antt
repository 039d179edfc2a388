use Rattle.std.proofs.Common.{[], ◌∷◌}
use Rattle.doc_tree.specs.Marks.{Start}
use Rattle.tag_tests.proofs.Readers.{told_in_vain, kept_hears}
use Rattle.tag_tests.proofs.decoder.ListenerVisitor.enter.Goals as goal

pub returns-in_default : goal.returns-in_default
returns-in_default g c = told_in_vain g.S.MarkReader.took g.S.MarkReader.refuses c.args.self.now.course (Start c.args.name.now c.args.attributes.now ∷ []) c.in_default.not-Going

pub returns : goal.returns
returns g c = kept_hears g.S.MarkReader.took g.S.MarkReader.refuses c.in-Going.reader c.enter-step.new.self c.args.self.now.course c.keep.new.course (Start c.args.name.now c.args.attributes.now ∷ []) c.keep.result c.enter-step.result c.in-Going.is c.enter-step.ensures c.keep.ensures
