use Rattle.sessions.proofs.OneSeat.{served_alone, closed_runs}
use Rattle.std.proofs.Common.{◌∙◌}
use Rattle.sessions.proofs.session.serve_alone.Goals as goal

pub returns-clause-serves : goal.returns-clause-serves
returns-clause-serves g c =
    let served = c.serve_by_seat-served in
    let closed = c.close-closed in
    served_alone _ served.result _ _ closed.result served.ensures.serves
    (closed_runs c.args.seat.me.0 served.new.seat.me.0 c.requires.fresh _ served.ensures.serves.moves closed.result closed.ensures.closes (closed.ensures.first ∙ c.requires.begins))
