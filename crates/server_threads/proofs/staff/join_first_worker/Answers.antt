use Rattle.server_threads.proofs.Rounds.{worker_of_desk, staffed_met}
use Rattle.server_threads.proofs.staff.join_first_worker.Goals as goal

pub meet-requires-clause-other : goal.meet-requires-clause-other
meet-requires-clause-other g c = worker_of_desk _ _ _ _ _ _ _ _ _ c.in-Some.place _ _ c.requires.staffed.1 c.in-Some.ensures.items c.join-seat.ensures

pub returns-clause-staffed : goal.returns-clause-staffed
returns-clause-staffed g c = λ met s. staffed_met _ _ _ _ _ _ _ _ _ _ c.in-Some.place c.join-seat.result s c.in-Some.ensures.items c.join-seat.ensures c.meet.ensures.met
