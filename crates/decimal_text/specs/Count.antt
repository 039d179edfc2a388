-- Counts: XML Schema part 2, section 3.3.20 (nonNegativeInteger), without `-0`.
use Rattle.std.specs.Prelude.{◌≡◌, ℕ, ◌-◌, ◌^◌, ◌≤◌, ◌<◌, Bool, List, ◌++◌}
use Rattle.std.specs.Str.Parse.{IsNumeral, digits_value}
use Rattle.decimal_text.specs.Space.{trimmed}
use Rattle.decimal_text.specs.Sign.{optional}

-- an optional `+` and one digit or more, which write n
pub record CountText (s : List ℕ) (n : ℕ) : Type 0 where
  pub has_plus : Bool
  pub digits : List ℕ
  pub text : s ≡ optional 43 has_plus ++ digits
  pub numeral : IsNumeral 10 digits
  pub value : n ≡ digits_value 10 digits

-- the texts of counts, of any size
abbrev pub CountGrammar : List ℕ → Type 0
CountGrammar s = (n : ℕ) × CountText s n

-- the greatest count
abbrev pub most_count : ℕ
most_count = 2 ^ 63 - 1

-- the text, with white space round it dropped, is the count n
abbrev pub IsCount : List ℕ → ℕ → Type 0
IsCount text n = CountText (trimmed text) n × (n ≤ most_count)

-- the text is a count that is too great
abbrev pub IsWideCount : List ℕ → Type 0
IsWideCount text = (n : ℕ) × (CountText (trimmed text) n × (most_count < n))
