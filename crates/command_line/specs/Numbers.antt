-- Numbers among the words.
use Rattle.std.specs.Prelude.{ℕ, Option, Some, None, if◌then◌else◌}
use Rattle.std.specs.Str.Parse.{digits_value, without_leading_plus}
use Rattle.clap.specs.Words.{Text}
use Rattle.clap.specs.ValueTests.{is_unsigned_in}

-- the number that a word is: digits, perhaps behind a `+`, of a number from `least` to `most`
abbrev pub number_between : (least most : ℕ) → Text → Option ℕ
number_between least most word = if is_unsigned_in least most word then Some (digits_value 10 (without_leading_plus word)) else None

-- the number that a word is, or this one where no word is given
abbrev pub number_or : (default least most : ℕ) → Option Text → Option ℕ
number_or default least most None = Some default
number_or default least most (Some word) = number_between least most word
