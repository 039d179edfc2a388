use Rattle.std.specs.Vec.{vec_len}
use Rattle.server_threads.specs.OpenLinks.{Goes, Stays}
use Rattle.server_threads.specs.Talks.{AnyHistory}
use Rattle.server_threads.proofs.links.LinkHost+E+J+T+N+N+Conn+R+S+B.join_all.Given as goal

abbrev pub invariant-loop-last : goal.invariant-loop-last
invariant-loop-last g l = record {
  goes : Goes AnyHistory (g.S.Service.talked g.B.Bell.rang) g.N.Conn.Stream.tells g.N.Listener.tells l.self l.net;
  stays : Stays g.N.Listener.tells l.fn.self l.fn.net l.self l.net;
}

abbrev pub decreases-loop-last : goal.decreases-loop-last
decreases-loop-last g l = vec_len l.self.running.places
