-- Exact numbers: a whole number, or two with `/` between them in lowest terms. This form is the project's own.
use Rattle.std.specs.Prelude.{◌≡◌, ℕ, ◌≤◌, ◌==◌, pos, Bool, cond, List, [], ◌∷◌, ◌++◌, ◌⊎◌, length, ◌<◌, decimal}
use Rattle.std.specs.Fmt.{signed_decimal}
use Rattle.std.specs.Str.Parse.{AllDigits, IsNumeral, digits_value}
use Rattle.rational.specs.Ratio.{Ratio, whole}
use Rattle.rational.specs.Width.{IsReduced, IsWithin}
use Rattle.rational.specs.Whole.{signed}
use Rattle.decimal_text.specs.Head.{DoesNotBegin, EndsPositive}
use Rattle.decimal_text.specs.Sign.{optional}

-- one digit or more, without a leading zero
abbrev pub IsPositive : List ℕ → Type 0
IsPositive ds = IsNumeral 10 ds × DoesNotBegin 48 ds

-- nothing, or `/` and the digits of a denominator
pub data Under : Type 0 where
  absent : Under
  over : List ℕ → Under

-- its text
abbrev pub under_text : Under → List ℕ
under_text absent = []
under_text (over ds) = 47 ∷ ds

-- a denominator is 2 or more
abbrev pub IsUnder : Under → Type 0
IsUnder absent = Unit {0}
IsUnder (over ds) = IsPositive ds × (2 ≤ digits_value 10 ds)

-- the denominator that it writes, 1 where there is none
abbrev pub under_value : Under → ℕ
under_value absent = 1
under_value (over ds) = digits_value 10 ds

-- an optional `-`, digits without a leading zero, and an optional denominator, which write x
pub record QuotientText (s : List ℕ) (x : Ratio) : Type 0 where
  pub is_negative : Bool
  pub digits : List ℕ
  pub under : Under
  pub text : s ≡ optional 45 is_negative ++ (digits ++ under_text under)
  pub positive : IsPositive digits
  pub denominator : IsUnder under
  pub num : x.num ≡ signed is_negative (digits_value 10 digits)
  pub den : x.den ≡ under_value under

-- `0` or a quotient, in lowest terms or not
abbrev pub RatioText : List ℕ → Ratio → Type 0
RatioText s x = ((s ≡ 48 ∷ []) × (x ≡ whole (pos 0))) ⊎ QuotientText s x

-- the denominator that these digits are, or none
abbrev pub under_of : List ℕ → Under
under_of [] = absent
under_of (d ∷ ds) = over (d ∷ ds)

-- the whole text is a denominator or empty
pub record UnderSplit (text digits : List ℕ) : Type 0 where
  pub parts : text ≡ under_text (under_of digits)
  pub good : IsUnder (under_of digits)

-- the text begins with something else than `/`
pub record UnderMissing (text : List ℕ) (left : ℕ) : Type 0 where
  pub present : 0 < length text
  pub no_line : DoesNotBegin 47 text
  pub all : left ≡ length text

-- a denominator begins; its digits are missing, or 1, or something stands behind them
pub record UnderBroken (text : List ℕ) (left : ℕ) : Type 0 where
  pub digits : List ℕ
  pub rest : List ℕ
  pub parts : text ≡ 47 ∷ (digits ++ rest)
  pub are_digits : AllDigits 10 digits
  pub no_zero : DoesNotBegin 48 digits
  pub ends : EndsPositive digits rest
  pub more : 0 < length digits → (0 < length rest) ⊎ (digits ≡ 49 ∷ [])
  pub all : left ≡ length rest

-- the text isn't a denominator, and so much of it is left where that shows
abbrev pub UnderStop : List ℕ → ℕ → Type 0
UnderStop text left = UnderMissing text left ⊎ UnderBroken text left

-- the texts of this shape, of any size
abbrev pub RatioGrammar : List ℕ → Type 0
RatioGrammar s = (x : Ratio) × RatioText s x

-- the text has the shape, and one of its numbers is too great
abbrev pub IsWideRatio : List ℕ → Type 0
IsWideRatio s = (x : Ratio) × (RatioText s x × (IsWithin x → ⊥))

-- the text has the shape and fits, and isn't in lowest terms
abbrev pub IsUnreduced : List ℕ → Type 0
IsUnreduced s = (x : Ratio) × (RatioText s x × IsWithin x × (IsReduced x → ⊥))

-- `/` and a denominator, or nothing where it is 1
abbrev pub denominator_text : ℕ → List ℕ
denominator_text d = cond (d == 1) [] (47 ∷ decimal d)

-- the text of a ratio within the width
abbrev pub ratio_text : Ratio → List ℕ
ratio_text x = signed_decimal x.num ++ denominator_text x.den
