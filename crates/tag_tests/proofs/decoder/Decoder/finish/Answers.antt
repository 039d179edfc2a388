use Rattle.std.proofs.Common.{refl, Ok, Err}
use Rattle.tag_tests.specs.declared.decoder.Course.TheVariants.{Going, Stopped}
use Rattle.tag_tests.proofs.Readers.{finished, failed}
use Rattle.tag_tests.proofs.decoder.Decoder.finish.Goals as goal

pub returns-in-Going-clause-ok : goal.returns-in-Going-clause-ok
returns-in-Going-clause-ok g c =
    let e = c.self.inside.events in
    finished g.S.MarkReader.took g.S.MarkReader.refuses (record { reading = e.reading; course = e.visitor.course }) c.args.self c.in-Ok.field-0.course (Going c.in-Going.reader) (Ok c.in-Going.reader) c.self.view_is c.in-Going.is refl (λ s bytes h. c.in-Ok.ensures.visits (record { alloc = e.visitor.alloc; course = Going s }) bytes h)

pub returns-in-Stopped-clause-ok : goal.returns-in-Stopped-clause-ok
returns-in-Stopped-clause-ok g c =
    let e = c.self.inside.events in
    finished g.S.MarkReader.took g.S.MarkReader.refuses (record { reading = e.reading; course = e.visitor.course }) c.args.self c.in-Ok.field-0.course (Stopped c.in-Stopped.refused) (Err c.in-Stopped.refused) c.self.view_is c.in-Stopped.is refl (λ s bytes h. c.in-Ok.ensures.visits (record { alloc = e.visitor.alloc; course = Going s }) bytes h)

pub returns-in-Err-clause-err : goal.returns-in-Err-clause-err
returns-in-Err-clause-err g c =
    let e = c.self.inside.events in
    failed g.S.MarkReader.took g.S.MarkReader.refuses (record { reading = e.reading; course = e.visitor.course }) c.args.self c.in-Err.fault c.self.view_is (λ s bytes h. c.in-Err.ensures.refuses (record { alloc = e.visitor.alloc; course = Going s }) bytes h)
