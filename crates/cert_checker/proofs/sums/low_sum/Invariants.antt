use Rattle.fraction.specs.Frac.{ratio}
use Rattle.evidence.specs.Cases.{multiplier_at, end_of, or_none}
use Rattle.evidence.proofs.Steps.{IsSum}
use Rattle.certificate.specs.Meanings.{multipliers}
use Rattle.case_tree.specs.Cuts.{cut}
use Rattle.cert_checker.proofs.sums.low_sum.Given as goal

abbrev pub invariant-loop-k : goal.invariant-loop-k
invariant-loop-k l = IsSum (ratio l.initial.sum) l.k (λ k. (multiplier_at (multipliers l.mults) k).by) (λ k. or_none (end_of (cut l.program l.cuts) (multiplier_at (multipliers l.mults) k))) (ratio l.sum)
