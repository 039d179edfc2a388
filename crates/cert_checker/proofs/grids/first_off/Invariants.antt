use Rattle.fraction.specs.Frac.{ratio}
use Rattle.case_tree.specs.Cuts.{cut}
use Rattle.cert_checker.specs.Grids.{StepsBelow}
use Rattle.cert_checker.proofs.grids.first_off.Given as goal

abbrev pub invariant-loop-j : goal.invariant-loop-j
invariant-loop-j l = StepsBelow (cut l.program l.cuts) (ratio l.step) l.j
