use Rattle.std.proofs.Common.{◌+◌, ◌≤◌, IfSome, [], ◌∷◌, length, drop}
use Rattle.certificate.specs.Meanings as Means
use Rattle.case_tree.specs.Cuts as Tree
use Rattle.cert_checker.specs.Cuts as Of
use Rattle.evidence.specs.Instance.{width}
use Rattle.cert_checker.specs.Columns.{open_cases}
use Rattle.cert_checker.specs.Trees.{LeadsThrough}
use Rattle.cert_checker.proofs.walk.check_tree.Given as goal

abbrev pub invariant-loop-i : goal.invariant-loop-i
invariant-loop-i l = record {
  above : IfSome l.next (λ d. Tree.AreBranches (length l.cuts) l.branches d);
  depth : IfSome l.next (λ d. d ≤ l.i);
  leads : LeadsThrough (l.program ∷ []) (Means.nodes l.nodes) 1 (open_cases (width l.program) l.program l.cuts l.branches l.next) (drop l.i (Means.nodes l.nodes)) (l.i + 1) (Of.aim l.aim);
}
