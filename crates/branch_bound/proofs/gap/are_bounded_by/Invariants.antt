use Rattle.std.proofs.Common.{Option, IsSomeAnd}
use Rattle.rational.specs.Ratio.{IsAtMost}
use Rattle.fraction.specs.Frac.{ratio}
use Rattle.branch_bound.specs.declared.carried.Carried.{Carried}
use Rattle.branch_bound.specs.Bounds.{number_of}
use Rattle.branch_bound.proofs.Gaps.{EachCounts}
use Rattle.branch_bound.proofs.gap.are_bounded_by.Given as goal

abbrev pub invariant-loop-e : goal.invariant-loop-e
invariant-loop-e l = EachCounts (λ (k : Option Carried). IsSomeAnd (number_of k) (λ b. IsAtMost (ratio l.number) b)) l.list l.branches l.e
