use Rattle.tag_tests.specs.declared.decoder.Course.TheVariants.{Going}
use Rattle.tag_tests.proofs.Readers.{fed_more}
use Rattle.tag_tests.proofs.decoder.Decoder.feed.Goals as goal

pub returns-clause-fed : goal.returns-clause-fed
returns-clause-fed g c =
    let old = c.self.inside.events in
    let new = c.feed.new.self in
    fed_more g.S.MarkReader.took g.S.MarkReader.refuses (record { reading = old.reading; course = old.visitor.course }) c.args.self.now (record { reading = new.reading; course = new.visitor.course }) c.args.piece.now c.self.view_is c.feed.ensures.limit
    (λ s bytes h. c.feed.ensures.fed (record { alloc = old.visitor.alloc; course = Going s }) bytes h)

pub returns-clause-none : goal.returns-clause-none
returns-clause-none g c = c.feed.ensures.none
