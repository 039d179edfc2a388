-- Decimals without an exponent, as they are written: the canonical form of XML Schema part 2, section 3.2.3, but for the `.0` of a whole number.
use Rattle.std.specs.Prelude.{◌≡◌, ◌≢◌, ℕ, ◌+◌, ◌-◌, ◌*◌, ◌/◌, ◌^◌, ℤ, pos, negsuc, suc, neg_ℤ, Bool, true, List, [], ◌∷◌, ◌++◌, length, slice_index, decimal}
use Rattle.std.specs.Str.Parse.{AllDigits, digits_value}
use Rattle.rational.specs.Ratio.{Ratio, IsSame}
use Rattle.rational.specs.Whole.{signed}
use Rattle.decimal_text.specs.Sign.{optional}

-- a point and the digits after it, or nothing where there are none
abbrev pub point_text : List ℕ → List ℕ
point_text [] = []
point_text (d ∷ ds) = 46 ∷ d ∷ ds

-- x as a whole part without leading zeros and digits without trailing ones, and `-` before it where x is below 0
pub record PlainText (s : List ℕ) (x : Ratio) : Type 0 where
  pub is_negative : Bool
  pub whole : ℕ
  pub digits : List ℕ
  pub text : s ≡ optional 45 is_negative ++ (decimal whole ++ point_text digits)
  pub are_digits : AllDigits 10 digits
  pub no_trailing_zero : slice_index digits (length digits - 1) ≢ 48
  pub below : is_negative ≡ true → x.num ≢ pos 0
  pub same : IsSame (record { num = signed is_negative (whole * 10 ^ length digits + digits_value 10 digits); den = 10 ^ length digits }) x

-- n over d, cut towards zero to whole parts of 10^12
abbrev pub cut12_of : ℤ → ℕ → ℤ
cut12_of (pos n) d = pos (n * 10 ^ 12 / d)
cut12_of (negsuc n) d = neg_ℤ (pos (suc n * 10 ^ 12 / d))

-- x cut towards zero to twelve decimals
abbrev pub cut12 : Ratio → Ratio
cut12 x = record { num = cut12_of x.num x.den; den = 10 ^ 12 }

-- what is written after a text
pub record AppendsNumber (old new : List ℕ) (x : Ratio) : Type 0 where
  pub written : List ℕ
  pub after : new ≡ old ++ written
  pub plain : PlainText written x
