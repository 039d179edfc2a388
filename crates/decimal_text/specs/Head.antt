-- How a text begins.
use Rattle.std.specs.Prelude.{◌≡◌, ◌≢◌, ℕ, ◌≤◌, Bool, List, [], ◌∷◌, ◌++◌, ◌⊎◌}
use Rattle.std.specs.Char.{digit_value}
use Rattle.std.specs.Str.Parse.{AllDigits}
use Rattle.decimal_text.specs.Sign.{Sign, absent, plus, minus, sign_text, is_minus}

-- the text doesn't begin with a digit
abbrev pub HasNoDigit : List ℕ → Type 0
HasNoDigit [] = Unit {0}
HasNoDigit (b ∷ s) = 10 ≤ digit_value b

-- the text doesn't begin with this byte
abbrev pub DoesNotBegin : ℕ → List ℕ → Type 0
DoesNotBegin byte [] = Unit {0}
DoesNotBegin byte (b ∷ s) = b ≢ byte

-- a text behind its sign, which has no other where that one is absent
abbrev pub IsBehind : Sign → List ℕ → Type 0
IsBehind absent s = DoesNotBegin 43 s × DoesNotBegin 45 s
IsBehind plus s = Unit {0}
IsBehind minus s = Unit {0}

-- a text as its sign and what stands behind it
pub record SignSplit (s : List ℕ) (negative : Bool) (rest : List ℕ) : Type 0 where
  pub sign : Sign
  pub parts : s ≡ sign_text sign ++ rest
  pub side : negative ≡ is_minus sign
  pub behind : IsBehind sign rest

-- what stands behind digits without a leading zero, or where there are none
abbrev pub EndsPositive : List ℕ → List ℕ → Type 0
EndsPositive [] [] = Unit {0}
EndsPositive [] (b ∷ s) = (10 ≤ digit_value b) ⊎ (b ≡ 48)
EndsPositive (d ∷ ds) rest = HasNoDigit rest

-- a text as the digits without a leading zero that it begins with, and the rest
pub record PositiveSplit (s digits rest : List ℕ) : Type 0 where
  pub parts : s ≡ digits ++ rest
  pub are_digits : AllDigits 10 digits
  pub no_zero : DoesNotBegin 48 digits
  pub ends : EndsPositive digits rest
