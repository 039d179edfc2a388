use Rattle.std.proofs.Common.{◌≡◌, []}
use Rattle.std.specs.Vec.{vec_len, vec_capacity}
use Rattle.server_threads.specs.Serving.{taken}
use Rattle.server_threads.proofs.means.free_places.Given as goal

abbrev pub invariant-loop-at : goal.invariant-loop-at
invariant-loop-at g l = record {
  none : taken l.places.items ≡ [];
  long : vec_len l.places ≡ l.at;
  room : vec_capacity l.places ≡ l.servers;
  numbers : vec_len l.free ≡ l.at;
  numbers_room : vec_capacity l.free ≡ l.servers;
}
