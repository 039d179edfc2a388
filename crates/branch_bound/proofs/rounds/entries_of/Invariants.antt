use Rattle.fraction.specs.Frac.{ratios}
use Rattle.evidence.specs.Point.{value_at}
use Rattle.branch_bound.proofs.RowEntries.{AreRowEntries}
use Rattle.branch_bound.proofs.rounds.entries_of.Given as goal

abbrev pub invariant-loop-j : goal.invariant-loop-j
invariant-loop-j l = AreRowEntries l.row l.j (value_at (ratios l.numbers)) l.entries
