use Rattle.std.proofs.Common.{ℕ, ◌<◌}
use Rattle.fraction.specs.Frac.{ratios}
use Rattle.evidence.specs.Point.{value_at}
use Rattle.case_tree.specs.Cuts.{cut_at}
use Rattle.cert_checker.specs.Columns.{MayStand}
use Rattle.cert_checker.proofs.whole_rows.are_whole_numbers.Given as goal

abbrev pub invariant-loop-j : goal.invariant-loop-j
invariant-loop-j l = (j : ℕ) → j < l.j → MayStand (cut_at l.cuts j) (value_at (ratios l.numbers) j)
