use Rattle.server_threads.proofs.Rounds.{going_so}
use Rattle.server_threads.proofs.links.LinkHost+E+J+T+N+N+Conn+R+S+B.free_at.Goals as goal

pub join_one-requires-clause-goes : goal.join_one-requires-clause-goes
join_one-requires-clause-goes g c κs within = record {
  seat_is = c.requires.goes.seat_is;
  few = c.requires.goes.few;
  going = going_so _ _ _ _ _ _ _ _ _ _ c.in-Some.ensures.out c.requires.goes.going;
}
