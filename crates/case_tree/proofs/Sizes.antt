-- Whole numbers within 128 bits.
use Rattle.std.proofs.Common.{◌≡◌, ℕ, zero, suc, ◌+◌, ◌<◌, ◌≤◌, ℤ, pos, negsuc, neg_ℤ, ◌≤ℤ◌, ◌+ℤ◌, ◌<ℤ◌, subst, arith}
use Rattle.std.specs.Prelude.{unsigned_abs}
use Rattle.std.specs.Int.Signed.{mag}
use Rattle.std.proofs.lemmas.Int.{ints}
use mir.Val.{SFits}
use mir.Syntax.{w128}
use Rattle.rational.specs.Width.{most}

pub size_within : (m : ℕ) (k : ℤ) → neg_ℤ (pos m) ≤ℤ k → mag k < m + 1 → unsigned_abs k ≤ m
size_within m (pos n) low high = omega arith
size_within m (negsuc n) low high = omega (arith, ints)
