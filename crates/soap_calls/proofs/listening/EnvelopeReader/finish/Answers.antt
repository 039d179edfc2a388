use Rattle.soap_calls.specs.Listening.{listening}
use Rattle.soap_calls.specs.Marked.{start}
use Rattle.soap_calls.proofs.Listenings.{finds, fails}
use Rattle.soap_calls.proofs.listening.EnvelopeReader.finish.Goals as goal

pub returns-in-Ok-clause-finds : goal.returns-in-Ok-clause-finds
returns-in-Ok-clause-finds c =
    let e = c.self.inside.events in
    finds (listening e.reading e.visitor.parse_state) c.args.self c.in-Ok.field-0.parse_state c.self.view_is (λ bytes h. c.in-Ok.ensures.visits (record { alloc = e.visitor.alloc; parse_state = start }) bytes h)

pub returns-in-Err-clause-fails : goal.returns-in-Err-clause-fails
returns-in-Err-clause-fails c =
    let e = c.self.inside.events in
    fails (listening e.reading e.visitor.parse_state) c.args.self c.in-Err.fault c.self.view_is (λ bytes h. c.in-Err.ensures.refuses (record { alloc = e.visitor.alloc; parse_state = start }) bytes h)
