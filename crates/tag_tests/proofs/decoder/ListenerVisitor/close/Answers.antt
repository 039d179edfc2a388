use Rattle.std.proofs.Common.{[], ◌∷◌}
use Rattle.doc_tree.specs.Marks.{Finish}
use Rattle.tag_tests.proofs.Readers.{told_in_vain, kept_hears}
use Rattle.tag_tests.proofs.decoder.ListenerVisitor.close.Goals as goal

pub returns-in_default : goal.returns-in_default
returns-in_default g c = told_in_vain g.S.MarkReader.took g.S.MarkReader.refuses c.args.self.now.course (Finish c.args.name.now ∷ []) c.in_default.not-Going

pub returns : goal.returns
returns g c = kept_hears g.S.MarkReader.took g.S.MarkReader.refuses c.in-Going.reader c.close-step.new.self c.args.self.now.course c.keep.new.course (Finish c.args.name.now ∷ []) c.keep.result c.close-step.result c.in-Going.is c.close-step.ensures c.keep.ensures
