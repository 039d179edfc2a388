-- The floor of a number that isn't whole.
use Rattle.std.proofs.Common.{◌≡◌, ◌+◌, ◌*◌, ◌≤◌, ℤ, pos, negsuc, neg_ℤ, ◌+ℤ◌, ◌*ℤ◌, ◌≤ℤ◌, ◌<ℤ◌, arith, subst}
use Rattle.std.specs.Prelude.{unsigned_abs}
use Rattle.std.proofs.Math.Nat.{mul-le-mul_left}
use Rattle.std.proofs.lemmas.Int.{ints}
use Rattle.rational.specs.Ratio.{Ratio, IsFloor}
use Rattle.rational.specs.Width.{most}
use Rattle.rational.proofs.Integers.{neg-times}

-- not below the least size
pub floor_low : (x : Ratio) (k : ℤ) → 1 ≤ x.den → unsigned_abs x.num ≤ most → IsFloor x k → neg_ℤ (pos most) ≤ℤ k
floor_low x (pos n) one small f = omega (arith, ints)
floor_low x (negsuc n) one small f =
    let e : negsuc n +ℤ pos 1 ≡ neg_ℤ (pos n) = omega (arith, ints) in
    let a : x.num <ℤ (neg_ℤ (pos n) *ℤ pos x.den) = subst (λ z. x.num <ℤ (z *ℤ pos x.den)) e f.high in
    let b : x.num <ℤ neg_ℤ (pos (n * x.den)) = subst (λ z. x.num <ℤ z) (neg-times (pos n) (pos x.den)) a in
    let c : n * x.den + 1 ≤ most = omega (arith, ints) in
    let d : n * 1 ≤ n * x.den = mul-le-mul_left n one in
    omega (arith, ints)

-- within half the size of the numerator, so that its next one fits too
pub floor_within : (x : Ratio) (k : ℤ) → 2 ≤ x.den → unsigned_abs x.num ≤ most → IsFloor x k → (neg_ℤ (pos most) ≤ℤ k) × (k <ℤ pos most)
floor_within x (pos n) two small f =
    let a : (pos (n * x.den)) ≤ℤ x.num = f.low in
    let b : n * x.den ≤ most = omega (arith, ints) in
    let c : n * 2 ≤ n * x.den = mul-le-mul_left n two in
    (omega (arith, ints), omega (arith, ints))
floor_within x (negsuc n) two small f = (floor_low x (negsuc n) (omega arith) small f, omega (arith, ints))
