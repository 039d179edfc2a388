use Rattle.std.proofs.Common.{ℕ, ◌<◌, Option}
use Rattle.evidence.specs.Instance.{Instance}
use Rattle.simplex.specs.Memory.{ray_of}
use Rattle.search_rules.specs.Branching.{IsMoving}
use Rattle.branch_bound.specs.declared.walk.RayAt.{RayAt}
use Rattle.branch_bound.specs.Walks.{case_by}
use Rattle.branch_bound.proofs.along.first_moving.Given as goal

abbrev pub invariant-loop-j : goal.invariant-loop-j
invariant-loop-j g l = (I : Instance) (r : Option RayAt) (i : ℕ) → i < l.j → IsMoving (case_by I l.cuts l.branches r l.depth) (ray_of l.work) i → ⊥
