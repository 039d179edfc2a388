use Rattle.std.proofs.Common.{ℕ, ◌<◌}
use Rattle.fraction.specs.Frac.{ratios}
use Rattle.evidence.specs.Width.{RowFits}
use Rattle.instance.specs.Program.{program}
use Rattle.branch_bound.proofs.values.rows_fit.Given as goal

abbrev pub invariant-loop-i : goal.invariant-loop-i
invariant-loop-i l = (i : ℕ) → i < l.i → RowFits (program l.instance) (ratios l.point) i
