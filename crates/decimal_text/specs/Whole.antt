-- Whole numbers: XML Schema part 2, section 3.3.13 (integer).
use Rattle.std.specs.Prelude.{◌≡◌, ℕ, ◌≤◌, ◌<◌, ℤ, List, ◌++◌, unsigned_abs}
use Rattle.std.specs.Str.Parse.{IsNumeral, digits_value}
use Rattle.rational.specs.Whole.{signed}
use Rattle.decimal_text.specs.Space.{trimmed}
use Rattle.decimal_text.specs.Sign.{Sign, sign_text, is_minus}
use Rattle.decimal_text.specs.Count.{most_count}

-- an optional sign and one digit or more, which write z
pub record WholeText (s : List ℕ) (z : ℤ) : Type 0 where
  pub sign : Sign
  pub digits : List ℕ
  pub text : s ≡ sign_text sign ++ digits
  pub numeral : IsNumeral 10 digits
  pub value : z ≡ signed (is_minus sign) (digits_value 10 digits)

-- the texts of whole numbers, of any size
abbrev pub WholeGrammar : List ℕ → Type 0
WholeGrammar s = (z : ℤ) × WholeText s z

-- the text, with white space round it dropped, is the whole number z, whose size is at most the greatest count
abbrev pub IsWholeText : List ℕ → ℤ → Type 0
IsWholeText text z = WholeText (trimmed text) z × (unsigned_abs z ≤ most_count)

-- the text is a whole number of too great a size
abbrev pub IsWideWhole : List ℕ → Type 0
IsWideWhole text = (z : ℤ) × (WholeText (trimmed text) z × (most_count < unsigned_abs z))
