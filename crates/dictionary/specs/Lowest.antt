-- Numbers in lowest terms.
use Rattle.std.specs.Prelude.{ℕ, zero, suc, ◌/◌, ◌%◌, ℤ, pos, negsuc, neg_ℤ, unsigned_abs}
use Rattle.rational.specs.Ratio.{Ratio}

-- the greatest common divisor, by as many of Euclid's steps
abbrev pub divisor_by : ℕ → ℕ → ℕ → ℕ
divisor_by zero a b = a
divisor_by (suc k) a zero = a
divisor_by (suc k) a (suc b) = divisor_by k (suc b) (a % suc b)

unfoldable pub divisor_of : ℕ → ℕ → ℕ
divisor_of a b = divisor_by (suc b) a b

abbrev pub over_divisor : ℤ → ℕ → ℕ → Ratio
over_divisor (pos n) d g = record { num = pos (n / g); den = d / g }
over_divisor (negsuc n) d g = record { num = neg_ℤ (pos (suc n / g)); den = d / g }

-- n over d in lowest terms
unfoldable pub lowest : ℤ → ℕ → Ratio
lowest n d = over_divisor n d (divisor_of (unsigned_abs n) d)
