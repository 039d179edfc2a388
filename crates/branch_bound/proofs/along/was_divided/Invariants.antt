use Rattle.std.specs.List.{Contains}
use Rattle.branch_bound.specs.Walks.{divided}
use Rattle.branch_bound.proofs.along.was_divided.Given as goal

abbrev pub invariant-loop-e : goal.invariant-loop-e
invariant-loop-e l = Contains (divided l.branches l.e) l.col → ⊥
