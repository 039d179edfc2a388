use Rattle.std.proofs.Common.{ap, arith, subst, sym}
use Rattle.desk.specs.SeatMoves.{desk_id, IsSeatOf}
use Rattle.server_threads.specs.Serving.{stand}
use Rattle.server_threads.specs.Talks.{DeskSeat}
use Rattle.server_threads.proofs.Rounds.{going_begins}
use Rattle.server_threads.proofs.links.LinkHost+E+J+T+N+N+Conn+R+S+B.new.Goals as goal

pub returns-clause-goes : goal.returns-clause-goes
returns-clause-goes g c = record {
  seat_is = subst (λ desk. IsSeatOf desk c.args.seat) (sym (λ i. desk_id (c.again.ensures i).desk.now)) c.requires.seat;
  few = let same = ap (λ (s : DeskSeat g.row.T.Denot). s.me.0.given) c.of-before.ensures.seat in omega arith;
  going = going_begins _ _ _ _ _ _ _ _ _ (λ i. stand g.N.Listener.tells (c.of-before.ensures.seat i) (c.of-before.ensures.net i)) c.requires.first c.requires.may.fresh c.requires.may.none;
}

pub returns-clause-stands : goal.returns-clause-stands
returns-clause-stands g c i = stand g.N.Listener.tells (c.of-before.ensures.seat i) (c.of-before.ensures.net i)
