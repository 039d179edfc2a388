use Rattle.std.proofs.Common.{◌≡◌, length}
use Rattle.cert_checker.specs.Programs.{AreWide}
use Rattle.cert_checker.proofs.scratch.make_rows.Given as goal

abbrev pub invariant-loop-k : goal.invariant-loop-k
invariant-loop-k l = record { count : length l.added.items ≡ l.k; wide : AreWide l.n l.added.items }
