use Rattle.std.proofs.Common.{◌≡◌, ◌-◌, ◌≤◌}
use Rattle.os_io.specs.Streams.{SameOutput}
use Rattle.http_link.specs.Pieces.{TakesPieces}
use Rattle.http_link.proofs.RequestSteps.{Went}
use Rattle.http_link.proofs.requests.read_body.Given as goal

abbrev pub invariant-loop-done : goal.invariant-loop-done
invariant-loop-done g l = record {
  fits : l.done ≤ l.len;
  went : Went (TakesPieces g.B.Body.took l.fn.body l.body) l.done (g.S.Stream.tells l.fn.source).left (g.S.Stream.tells l.source).left;
  faults : (g.S.Stream.tells l.source).read_faults ≡ (g.S.Stream.tells l.fn.source).read_faults;
  output : SameOutput (g.S.Stream.tells l.fn.source) (g.S.Stream.tells l.source);
}

abbrev pub decreases-loop-done : goal.decreases-loop-done
decreases-loop-done g l = l.len - l.done
