use Rattle.std.proofs.Common.{◌≡◌, refl}
use Rattle.os_server.proofs.Rounds.{serves_so}
use Rattle.job_solver.specs.Runs.{MakesDocument, WakesNobody}
use Rattle.sessions.proofs.OneSeat.{closed_with_all}
use Rattle.sessions.proofs.stored.serve_stored_alone.Goals as goal

pub returns-clause-serves : goal.returns-clause-serves
returns-clause-serves g c =
    let served = c.serve_by_seat-served in
    let s = served.ensures.serves in
    let own = s.part.entries in
    let closed = c.close_stored-table in (
      own,
      closed.result.0,
      closed.result.1,
      c.into_disk.ensures,
      closed_with_all c.args.seat.me.0 served.new.seat.me.0 c.requires.fresh own s.moves closed.ensures,
      serves_so MakesDocument WakesNobody _ (λ made. made ≡ own) _ _ _ s refl,
    )
