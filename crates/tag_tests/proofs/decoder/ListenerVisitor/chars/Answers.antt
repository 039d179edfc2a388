use Rattle.std.specs.Prelude.{map}
use Rattle.doc_tree.specs.Marks.{Char}
use Rattle.tag_tests.proofs.Readers.{told_in_vain, kept_hears}
use Rattle.tag_tests.proofs.decoder.ListenerVisitor.chars.Goals as goal

pub returns-in_default : goal.returns-in_default
returns-in_default g c = told_in_vain g.S.MarkReader.took g.S.MarkReader.refuses c.args.self.now.course (map Char c.args.text.now) c.in_default.not-Going

pub returns : goal.returns
returns g c = kept_hears g.S.MarkReader.took g.S.MarkReader.refuses c.in-Going.reader c.chars-step.new.self c.args.self.now.course c.keep.new.course (map Char c.args.text.now) c.keep.result c.chars-step.result c.in-Going.is c.chars-step.ensures c.keep.ensures
