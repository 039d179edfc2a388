use Rattle.std.proofs.Common.{◌≡◌, ◌+◌}
use Rattle.std.specs.Vec.{vec_len}
use Rattle.server_threads.specs.OpenLinks.{Goes, KeepsMeans}
use Rattle.server_threads.specs.Talks.{AnyHistory}
use Rattle.server_threads.proofs.links.LinkHost+E+J+T+N+N+Conn+R+S+B.take_links.Given as goal

abbrev pub invariant-loop-number : goal.invariant-loop-number
invariant-loop-number g l = record {
  goes : Goes AnyHistory (g.S.Service.talked g.B.Bell.rang) g.N.Conn.Stream.tells g.N.Listener.tells l.self l.net;
  given : l.self.seat.me.0.given ≡ l.self.before.seat.value.me.0.given + l.number;
  room : vec_len l.self.running.places ≡ l.self.means.limits.servers;
  kept : KeepsMeans l.fn.self l.self;
  faults : (g.N.Listener.tells l.net).faults ≡ (g.N.Listener.tells l.fn.net).faults;
}
