use Rattle.std.proofs.Common.{◌-◌, ◌≤◌, length, drop}
use Rattle.os_io.specs.declared.streams.Failed.{Failed}
use Rattle.os_io.proofs.Pieces.{SoFar}
use Rattle.os_io.proofs.streams.write_all.Given as goal

abbrev pub invariant-loop-done : goal.invariant-loop-done
invariant-loop-done g l = record {
  within : l.done ≤ length l.bytes;
  so_far : SoFar Failed l.bytes (drop l.done l.bytes) (g.S.Stream.tells l.fn.sink) (g.S.Stream.tells l.sink);
}

abbrev pub decreases-loop-done : goal.decreases-loop-done
decreases-loop-done g l = length l.bytes - l.done
