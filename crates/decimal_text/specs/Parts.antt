-- The parts of a decimal as they are read: what stands where, and where they end.
use Rattle.std.specs.Prelude.{◌≡◌, ◌≢◌, ℕ, ◌*◌, ◌%◌, ◌^◌, ◌<◌, ◌≤◌, Bool, cond, List, [], ◌∷◌, ◌++◌, ◌⊎◌, length, Option, MatchOption}
use Rattle.std.specs.Str.Parse.{AllDigits, digits_value}
use Rattle.rational.specs.Width.{most}
use Rattle.decimal_text.specs.Sign.{Sign, sign_text}
use Rattle.decimal_text.specs.Head.{DoesNotBegin, HasNoDigit, IsBehind}
use Rattle.decimal_text.specs.Decimal.{Mantissa, plain, pointed, mantissa_text, mantissa_digits, places, Exponent, exponent_text, IsExponent, up, down}

-- what stands behind all of a mantissa
abbrev pub EndsMantissa : Mantissa → List ℕ → Type 0
EndsMantissa (plain ds) rest = HasNoDigit rest × DoesNotBegin 46 rest
EndsMantissa (pointed ds es) rest = HasNoDigit rest

-- a text as a mantissa and the rest, with the digits before and after the point
pub record MantissaSplit (text before after rest : List ℕ) : Type 0 where
  pub mantissa : Mantissa
  pub parts : text ≡ mantissa_text mantissa ++ rest
  pub joined : mantissa_digits mantissa ≡ before ++ after
  pub point : places mantissa ≡ length after
  pub before_digits : AllDigits 10 before
  pub after_digits : AllDigits 10 after
  pub ends : EndsMantissa mantissa rest

-- the text is the letter of an exponent and the rest
abbrev pub HasLetter : List ℕ → List ℕ → Type 0
HasLetter text rest = (is_capital : Bool) × (text ≡ (cond is_capital 69 101) ∷ rest)

-- the whole text is an exponent or empty
pub record PowerSplit (text : List ℕ) (is_down : Bool) (power : List ℕ) : Type 0 where
  pub exponent : Exponent
  pub parts : text ≡ exponent_text exponent
  pub powers : IsExponent exponent
  pub rise : up exponent ≡ cond is_down 0 (digits_value 10 power)
  pub fall : down exponent ≡ cond is_down (digits_value 10 power) 0
  pub digits : AllDigits 10 power

-- the text begins with something else than an exponent
pub record PowerMissing (text : List ℕ) (left : ℕ) : Type 0 where
  pub present : 0 < length text
  pub small : DoesNotBegin 101 text
  pub capital : DoesNotBegin 69 text
  pub all : left ≡ length text

-- an exponent begins, and its digits are missing or something stands behind them
pub record PowerBroken (text : List ℕ) (left : ℕ) : Type 0 where
  pub is_capital : Bool
  pub sign : Sign
  pub digits : List ℕ
  pub rest : List ℕ
  pub parts : text ≡ (cond is_capital 69 101) ∷ (sign_text sign ++ (digits ++ rest))
  pub behind : IsBehind sign (digits ++ rest)
  pub are_digits : AllDigits 10 digits
  pub ends : HasNoDigit rest
  pub more : 0 < length digits → 0 < length rest
  pub all : left ≡ length rest

-- the text isn't an exponent, and so much of it is left where that shows
abbrev pub PowerStop : List ℕ → ℕ → Type 0
PowerStop text left = PowerMissing text left ⊎ PowerBroken text left

-- the parts of a decimal behind its sign
pub record UnsignedSplit (text before after : List ℕ) (is_down : Bool) (power : List ℕ) : Type 0 where
  pub rest : List ℕ
  pub mantissa : MantissaSplit text before after rest
  pub present : 0 < length (before ++ after)
  pub exponent : PowerSplit rest is_down power

-- there is no digit before what is left
pub record MantissaMissing (text : List ℕ) (left : ℕ) : Type 0 where
  pub rest : List ℕ
  pub mantissa : MantissaSplit text [] [] rest
  pub all : left ≡ length rest

-- there is a mantissa, and no exponent that is whole behind it
pub record MantissaFollowed (text : List ℕ) (left : ℕ) : Type 0 where
  pub before : List ℕ
  pub after : List ℕ
  pub rest : List ℕ
  pub mantissa : MantissaSplit text before after rest
  pub present : 0 < length (before ++ after)
  pub stop : PowerStop rest left

-- the text isn't a decimal without a sign, and so much of it is left where that shows
abbrev pub UnsignedStop : List ℕ → ℕ → Type 0
UnsignedStop text left = MantissaMissing text left ⊎ MantissaFollowed text left

-- the size, or nothing where it passes the width
abbrev pub IsKeptSize : ℕ → Option ℕ → Type 0
IsKeptSize n kept = MatchOption kept (most < n) (λ m. (m ≡ n) × (m ≤ most))

-- v as a size that is no multiple of ten, and zeros behind it
pub record IsSignificand (v : ℕ) (kept : Option ℕ) (zeros : ℕ) : Type 0 where
  pub size : ℕ
  pub value : v ≡ size * 10 ^ zeros
  pub short : (size % 10 ≢ 0) ⊎ ((size ≡ 0) × (zeros ≡ 0))
  pub keeps : IsKeptSize size kept
