-- Ends cut by a number, and a whole number on either side of one.
use Rattle.std.proofs.Common.{ℤ, ◌≤ℤ◌, Option, None, Some, IfSome}
use Rattle.rational.specs.Ratio.{Ratio, whole, IsSame, IsNumber, IsAtMost}
use Rattle.rational.proofs.Integers.{more-times}
use Rattle.evidence.specs.Sums.{is_below}
use Rattle.evidence.specs.Cases.{lesser_end, greater_end}
use Rattle.evidence.proofs.Columns.{pick}

pub lesser-number : (o : Option Ratio) (k : Ratio) → IsNumber k → IfSome o IsNumber → IfSome (lesser_end o k) IsNumber
lesser-number None k p q = p
lesser-number (Some u) k p q = pick (λ r. IfSome r IsNumber) (is_below k u) (Some k) (Some u) p q

pub greater-number : (o : Option Ratio) (k : Ratio) → IsNumber k → IfSome o IsNumber → IfSome (greater_end o k) IsNumber
greater-number None k p q = p
greater-number (Some l) k p q = pick (λ r. IfSome r IsNumber) (is_below l k) (Some k) (Some l) p q

pub lesser-high : (o : Option Ratio) (k v : Ratio) → IsAtMost v k → IfSome o (λ u. IsAtMost v u) → IfSome (lesser_end o k) (λ u. IsAtMost v u)
lesser-high None k v p q = p
lesser-high (Some u) k v p q = pick (λ r. IfSome r (λ u. IsAtMost v u)) (is_below k u) (Some k) (Some u) p q

pub greater-low : (o : Option Ratio) (k v : Ratio) → IsAtMost k v → IfSome o (λ l. IsAtMost l v) → IfSome (greater_end o k) (λ l. IsAtMost l v)
greater-low None k v p q = p
greater-low (Some l) k v p q = pick (λ r. IfSome r (λ l. IsAtMost l v)) (is_below l k) (Some k) (Some l) p q

-- a whole number is at most k or at least k + 1
pub whole_at_most : (v : Ratio) (n k : ℤ) → IsSame v (whole n) → n ≤ℤ k → IsAtMost v (whole k)
whole_at_most v n k e h = rw e (more-times n k v.den h)

pub whole_at_least : (v : Ratio) (n k : ℤ) → IsSame v (whole n) → k ≤ℤ n → IsAtMost (whole k) v
whole_at_least v n k e h = rw e (more-times k n v.den h)
