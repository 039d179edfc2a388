use Rattle.std.proofs.Common.{◌≤◌, ℤ, subst, sym, arith}
use Rattle.std.specs.Prelude.{unsigned_abs}
use Rattle.std.proofs.Math.Facts.{to_z-of_z}
use Rattle.rational.specs.Width.{most}
use Rattle.rational.proofs.CommonDivisors.{one_divides}
use Rattle.case_tree.proofs.Sizes.{size_within}
use Rattle.case_tree.proofs.numbers.whole.Goals as goal

pub invariant_of-result-clause-reduced : goal.invariant_of-result-clause-reduced
invariant_of-result-clause-reduced c = (one_divides _, one_divides 1, λ d p q. q)

pub invariant_of-result-clause-numer_within : goal.invariant_of-result-clause-numer_within
invariant_of-result-clause-numer_within c = subst (λ (z : ℤ). unsigned_abs z ≤ most) (sym (to_z-of_z c.ranges.k)) (size_within most c.args.k c.requires (let h = c.ranges.k.sfits in omega arith))
