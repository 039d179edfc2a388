use Rattle.std.proofs.Common.{◌≡◌, ℕ, ◌<◌}
use Rattle.simplex.specs.Cuts.{ranges_in, range_at}
use Rattle.simplex.proofs.beginning.set_ends.Given as goal

abbrev pub invariant-loop-c : goal.invariant-loop-c
invariant-loop-c l = (k : ℕ) → k < l.c → ranges_in l.ends k ≡ range_at l.cuts l.rows l.added k
