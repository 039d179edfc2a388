use Rattle.certificate.specs.Meanings as Means
use Rattle.simplex.specs.Memory.{statuses_in, entries_in}
use Rattle.branch_bound.proofs.Leftovers.{AreLeft}
use Rattle.branch_bound.proofs.cutting.left_mults.Given as goal

abbrev pub invariant-loop-col : goal.invariant-loop-col
invariant-loop-col g l = AreLeft (statuses_in l.work) (entries_in l.work l.variable) l.col (Means.multipliers l.mults) l.is_at_zero
