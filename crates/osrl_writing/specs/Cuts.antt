-- Numbers for people: cut towards zero after twelve decimals (see Numbers).
use Rattle.std.specs.Prelude.{ℕ, ◌+◌, ◌*◌, ◌/◌, ◌%◌, ◌^◌, ◌==◌, ℤ, pos, negsuc, unsigned_abs, Bool, false, cond, not, List, [], ◌∷◌, ◌++◌, drop, reverse, decimal}
use Rattle.rational.specs.Ratio.{Ratio}
use Rattle.decimal_text.specs.Sign.{optional}
use Rattle.decimal_text.specs.Plain.{point_text}

-- the size in whole parts of 10^12, cut
abbrev pub cut_size : Ratio → ℕ
cut_size x = unsigned_abs x.num * 10 ^ 12 / x.den

-- without the zeros that come first
abbrev pub without_zeros : List ℕ → List ℕ
without_zeros [] = []
without_zeros (c ∷ cs) = cond (c == 48) (without_zeros cs) (c ∷ cs)

-- n as twelve digits, without the zeros that come last
abbrev pub decimals : ℕ → List ℕ
decimals n = reverse (without_zeros (reverse (drop 1 (decimal (10 ^ 12 + n)))))

-- below 0, and not cut to 0
abbrev pub has_sign : ℤ → ℕ → Bool
has_sign (pos n) size = false
has_sign (negsuc n) size = not (size == 0)

abbrev pub cut_text : Ratio → List ℕ
cut_text x = optional 45 (has_sign x.num (cut_size x)) ++ (decimal (cut_size x / 10 ^ 12) ++ point_text (decimals (cut_size x % 10 ^ 12)))
