use Rattle.soap_calls.specs.Listening.{listening}
use Rattle.soap_calls.specs.Marked.{start}
use Rattle.soap_calls.proofs.Listenings.{fed_more}
use Rattle.soap_calls.proofs.listening.EnvelopeReader.feed.Goals as goal

pub returns-clause-fed : goal.returns-clause-fed
returns-clause-fed c =
    let old = c.self.inside.events in
    let new = c.feed.new.self in
    fed_more (listening old.reading old.visitor.parse_state) c.args.self.now (listening new.reading new.visitor.parse_state) c.args.piece.now c.self.view_is c.feed.ensures.limit
    (λ bytes h. c.feed.ensures.fed (record { alloc = old.visitor.alloc; parse_state = start }) bytes h)
