use Rattle.std.proofs.Common.{◌≡◌}
use Rattle.certificate.specs.Meanings as Means
use Rattle.simplex.specs.Memory.{factor_in}
use Rattle.simplex_rules.specs.Reports.{collected}
use Rattle.branch_bound.proofs.points.read_mults.Given as goal

abbrev pub invariant-loop-col : goal.invariant-loop-col
invariant-loop-col g l = Means.multipliers l.mults ≡ collected (factor_in l.work) l.col
