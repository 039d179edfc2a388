use Rattle.certificate.specs.Meanings.{multipliers}
use Rattle.case_tree.specs.Cuts.{cut}
use Rattle.cert_checker.specs.RoundRefusals.{WholeFormsBelow}
use Rattle.cert_checker.proofs.rounds.check_parts.Given as goal

abbrev pub invariant-loop-j : goal.invariant-loop-j
invariant-loop-j l = WholeFormsBelow (cut l.program l.cuts) (multipliers l.mults) l.j
