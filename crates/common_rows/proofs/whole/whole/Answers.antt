use Rattle.std.proofs.Common.{ℕ}
use Rattle.std.specs.Int.{IsGcd}
use Rattle.rational.proofs.CommonDivisors.{one_divides}
use Rattle.common_rows.proofs.whole.whole.Goals as goal

over_one : (k : ℕ) → IsGcd k 1 1
over_one k = (one_divides k, one_divides 1, λ d p q. q)

pub invariant_of-result-clause-reduced : goal.invariant_of-result-clause-reduced
invariant_of-result-clause-reduced c = over_one _
