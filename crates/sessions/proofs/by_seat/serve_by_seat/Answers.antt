use Rattle.std.proofs.Common.{◌≡◌, sym, subst}
use Rattle.desk.specs.SeatHistory.{AskedBy}
use Rattle.desk.specs.SeatMoves.{told_of}
use Rattle.os_server.proofs.Rounds.{serves_so}
use Rattle.job_solver.specs.Runs.{MakesDocument, WakesNobody}
use Rattle.sessions.proofs.by_seat.serve_by_seat.Goals as goal

pub returns-clause-serves : goal.returns-clause-serves
returns-clause-serves g c =
    let served = c.serve_ends-served in
    let s = served.ensures.serves in
    let back : c.seat-1.given.0 ≡ served.new.mover.seat.now = c.seat-1.given.1 (sym s.moves.0) in
    serves_so MakesDocument WakesNobody _ _ _ _ _ s
    (subst (λ seat. AskedBy (g.T.SlotContents.legal (told_of c.args.desk.now)) c.args.seat.now.me.0 seat.me.0 s.part.entries) (sym back) s.moves.2)
