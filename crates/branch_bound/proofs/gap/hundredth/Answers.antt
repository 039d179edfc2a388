use Rattle.std.proofs.Common.{lit<, lit≤}
use Rattle.std.proofs.Math.Nat.{one-dvd}
use Rattle.std.proofs.lemmas.Nat.Gcd.{dvd_refl}
use Rattle.branch_bound.proofs.gap.hundredth.Goals as goal

pub invariant_of-result : goal.invariant_of-result
invariant_of-result c = record { above = lit< tt; reduced = (dvd_refl 1, one-dvd 100, λ d p q. p); numer_within = lit≤ tt; denom_within = lit≤ tt }
