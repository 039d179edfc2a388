use Rattle.certificate.specs.Meanings.{multipliers}
use Rattle.case_tree.specs.Cuts.{cut}
use Rattle.cert_checker.specs.Leaves.{PairsBelow}
use Rattle.cert_checker.proofs.pairs.first_illegal.Given as goal

abbrev pub invariant-loop-k : goal.invariant-loop-k
invariant-loop-k l = PairsBelow (cut l.program l.cuts) (multipliers l.mults) l.k
