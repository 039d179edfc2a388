use Rattle.std.proofs.Common.{arith, ap, ◌+◌}
use Rattle.server_threads.proofs.Rounds.{seat_of_desk, place_due, going_few, going_met}
use Rattle.server_threads.proofs.links.LinkHost+E+J+T+N+N+Conn+R+S+B.join_one.Goals as goal

pub join-done-requires : goal.join-done-requires
join-done-requires g c = place_due _ _ _ _ _ _ _ _ _ _ c.requires.goes.going

pub meet-requires-clause-other : goal.meet-requires-clause-other
meet-requires-clause-other g c = seat_of_desk _ _ _ _ _ _ _ _ _ _ _ _ c.requires.goes.going c.join-done.ensures

pub overflow_add-self : goal.overflow_add-self
overflow_add-self g c =
    let few = going_few _ _ _ _ _ _ _ _ _ c.requires.goes.going c.requires.goes.few in
    omega (arith, few, c.number_of.ensures.at_most)

pub returns-clause-goes : goal.returns-clause-goes
returns-clause-goes g c = record {
  seat_is = c.meet.ensures.seat;
  few = let same = c.meet.ensures.met.given in let few = c.requires.goes.few in omega arith;
  going = going_met _ _ _ _ _ _ _ _ _ _ _ _ c.join-done.result c.requires.goes.going c.join-done.ensures c.meet.ensures.met c.done.ensures.given_back c.done.ensures.coming c.done.ensures.reached
      (ap (λ k. c.args.self.now.running.short + k) c.number_of.ensures.one);
}
