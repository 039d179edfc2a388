-- Decimals: the lexical form of a double without its special values (XML Schema part 2, section 3.2.5), and bounds.
use Rattle.std.specs.Prelude.{◌≡◌, ◌≢◌, ℕ, ◌+◌, ◌*◌, ◌%◌, ◌^◌, ℤ, pos, negsuc, suc, Bool, cond, List, [], ◌∷◌, ◌++◌, ◌⊎◌, length}
use Rattle.std.specs.Str.Parse.{IsNumeral, digits_value}
use Rattle.rational.specs.Ratio.{Ratio, IsNumber, IsSame}
use Rattle.rational.specs.Width.{IsWithin}
use Rattle.rational.specs.Whole.{signed}
use Rattle.decimal_text.specs.Space.{trimmed}
use Rattle.decimal_text.specs.Sign.{Sign, sign_text, is_minus}

-- digits without a point, or the digits before and after a point
pub data Mantissa : Type 0 where
  plain : List ℕ → Mantissa
  pointed : List ℕ → List ℕ → Mantissa

-- its text, with `.` for the point
abbrev pub mantissa_text : Mantissa → List ℕ
mantissa_text (plain ds) = ds
mantissa_text (pointed ds es) = ds ++ 46 ∷ es

-- all its digits in order, without the point
abbrev pub mantissa_digits : Mantissa → List ℕ
mantissa_digits (plain ds) = ds
mantissa_digits (pointed ds es) = ds ++ es

-- how many digits stand after the point
abbrev pub places : Mantissa → ℕ
places (plain ds) = 0
places (pointed ds es) = length es

-- no exponent, or a letter, which may be a capital, a sign and digits
pub data Exponent : Type 0 where
  none : Exponent
  power : Bool → Sign → List ℕ → Exponent

-- its text, with `e` or `E` for the letter
abbrev pub exponent_text : Exponent → List ℕ
exponent_text none = []
exponent_text (power capital sign ds) = (cond capital 69 101) ∷ (sign_text sign ++ ds)

-- an exponent has one digit or more
abbrev pub IsExponent : Exponent → Type 0
IsExponent none = Unit {0}
IsExponent (power capital sign ds) = IsNumeral 10 ds

-- the exponent, where it isn't negative
abbrev pub up : Exponent → ℕ
up none = 0
up (power capital sign ds) = cond (is_minus sign) 0 (digits_value 10 ds)

-- the exponent's size, where it is negative
abbrev pub down : Exponent → ℕ
down none = 0
down (power capital sign ds) = cond (is_minus sign) (digits_value 10 ds) 0

-- a size times ten to a, over ten to b
abbrev pub powered : Bool → ℕ → ℕ → ℕ → Ratio
powered negative size a b = record { num = signed negative (size * 10 ^ a); den = 10 ^ b }

-- the digits without their point, times ten to the exponent, over ten for each digit after the point
abbrev pub decimal_value : Sign → Mantissa → Exponent → Ratio
decimal_value sign m e = powered (is_minus sign) (digits_value 10 (mantissa_digits m)) (up e) (places m + down e)

-- an optional sign, digits that may have a point, at least one in all, and an optional exponent, which write x
pub record DecimalText (s : List ℕ) (x : Ratio) : Type 0 where
  pub sign : Sign
  pub mantissa : Mantissa
  pub exponent : Exponent
  pub text : s ≡ sign_text sign ++ (mantissa_text mantissa ++ exponent_text exponent)
  pub numeral : IsNumeral 10 (mantissa_digits mantissa)
  pub powers : IsExponent exponent
  pub value : x ≡ decimal_value sign mantissa exponent

-- the texts of decimals, of any size
abbrev pub DecimalGrammar : List ℕ → Type 0
DecimalGrammar s = (x : Ratio) × DecimalText s x

-- n times ten to the k
abbrev pub scientific : Bool → ℕ → ℤ → Ratio
scientific negative n (pos k) = record { num = signed negative (n * 10 ^ k); den = 1 }
scientific negative n (negsuc k) = record { num = signed negative n; den = 10 ^ suc k }

-- x as n times ten to the k, where n is no multiple of ten, or n and k are 0
pub record ShortestForm (x : Ratio) : Type 0 where
  pub negative : Bool
  pub n : ℕ
  pub k : ℤ
  pub shortest : (n % 10 ≢ 0) ⊎ ((n ≡ 0) × (k ≡ pos 0))
  pub same : IsSame (scientific negative n k) x

-- n and the power of ten are within the width where k is negative, and their product where it isn't
abbrev pub IsNarrow : {x : Ratio} → ShortestForm x → Type 0
IsNarrow f = IsWithin (scientific f.negative f.n f.k)

-- x is the number w, whose shortest form fits
pub record HasFit (w x : Ratio) : Type 0 where
  pub number : IsNumber x
  pub same : IsSame x w
  pub form : ShortestForm w
  pub fits : IsNarrow form

-- the shortest form of w doesn't fit
pub record HasNoFit (w : Ratio) : Type 0 where
  pub form : ShortestForm w
  pub wide : IsNarrow form → ⊥

-- s is a decimal with the value x, which fits
pub record FittingText (s : List ℕ) (x : Ratio) : Type 0 where
  pub written : Ratio
  pub read : DecimalText s written
  pub fit : HasFit written x

-- s is a decimal that doesn't fit
pub record WideText (s : List ℕ) : Type 0 where
  pub written : Ratio
  pub read : DecimalText s written
  pub unfit : HasNoFit written

-- the text, with white space round it dropped, is a decimal with the value x, which fits
abbrev pub IsDecimal : List ℕ → Ratio → Type 0
IsDecimal text x = FittingText (trimmed text) x

-- the text, with white space round it dropped, is a decimal that doesn't fit
abbrev pub IsWideDecimal : List ℕ → Type 0
IsWideDecimal text = WideText (trimmed text)
