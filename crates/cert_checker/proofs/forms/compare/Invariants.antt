use Rattle.certificate.specs.Meanings.{multipliers}
use Rattle.case_tree.specs.Cuts as Tree
use Rattle.cert_checker.specs.Cuts as Of
use Rattle.cert_checker.specs.Leaves.{FormsBelow}
use Rattle.cert_checker.proofs.forms.compare.Given as goal

abbrev pub invariant-loop-j : goal.invariant-loop-j
invariant-loop-j l = FormsBelow (Tree.cut l.program l.cuts) (multipliers l.mults) (Of.aim l.aim) l.j
