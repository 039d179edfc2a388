use Rattle.std.proofs.Common.{ℕ, ◌<◌}
use Rattle.evidence.specs.Cases.{IsEmpty}
use Rattle.simplex.specs.Cuts.{ranges_in}
use Rattle.simplex.proofs.beginning.first_clash.Given as goal

abbrev pub invariant-loop-c : goal.invariant-loop-c
invariant-loop-c l = (k : ℕ) → k < l.c → IsEmpty (ranges_in l.ends k) → ⊥
