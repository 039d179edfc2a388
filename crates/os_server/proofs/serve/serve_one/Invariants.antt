use Rattle.os_server.proofs.Rounds.{SoFar}
use Rattle.os_server.proofs.serve.serve_one.Given as goal

abbrev pub invariant-loop : goal.invariant-loop
invariant-loop g l = SoFar g.S.Runner.ran g.S.Server.wakes (g.C.Mover.did l.fn.mover l.mover) l.counter (g.L.Stream.tells l.fn.link) (g.L.Stream.tells l.link)
