use Rattle.evidence.specs.Instance.{Instance}
use Rattle.case_tree.specs.Cuts.{cut}
use Rattle.simplex.specs.Memory.{point_of}
use Rattle.search_rules.specs.Branching.{IsWholeBelow}
use Rattle.branch_bound.proofs.cutting.first_fractional.Given as goal

abbrev pub invariant-loop-j : goal.invariant-loop-j
invariant-loop-j g l = (I : Instance) → IsWholeBelow (cut I l.cuts) (point_of l.work) l.j
