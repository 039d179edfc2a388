-- Ends of ranges: decimals and the infinities, `INF` with an optional sign (XML Schema part 2, section 3.2.5, and `+INF`).
use Rattle.std.specs.Prelude.{◌≡◌, ℕ, false, List, [], ◌∷◌, ◌++◌, ◌⊎◌, ◌<◌, length}
use Rattle.fraction.specs.declared.ends.End.{End}
use Rattle.fraction.specs.declared.ends.End.TheVariants.{NegInf, At, Inf}
use Rattle.fraction.specs.Frac.{ratio}
use Rattle.decimal_text.specs.Head.{DoesNotBegin}
use Rattle.decimal_text.specs.Space.{trimmed}
use Rattle.decimal_text.specs.Sign.{Sign, minus, sign_text, is_minus}
use Rattle.decimal_text.specs.Decimal.{DecimalGrammar, IsDecimal}

-- `INF`
abbrev pub infinity : List ℕ
infinity = 73 ∷ 78 ∷ 70 ∷ []

-- the texts of bounds, of any size
abbrev pub BoundGrammar : List ℕ → Type 0
BoundGrammar s = DecimalGrammar s ⊎ ((sign : Sign) × (s ≡ sign_text sign ++ infinity))

-- the text, with white space round it dropped, is this end, which fits where it is a number
abbrev pub SaysEnd : List ℕ → End → Type 0
SaysEnd text NegInf = trimmed text ≡ sign_text minus ++ infinity
SaysEnd text (At x) = IsDecimal text (ratio x)
SaysEnd text Inf = (sign : Sign) × ((is_minus sign ≡ false) × (trimmed text ≡ sign_text sign ++ infinity))

-- what stands behind as much of `NF` as there is
abbrev pub EndsInfinity : List ℕ → List ℕ → Type 0
EndsInfinity read rest = ((read ≡ []) × DoesNotBegin 78 rest) ⊎ (((read ≡ 78 ∷ []) × DoesNotBegin 70 rest) ⊎ ((read ≡ 78 ∷ 70 ∷ []) × (0 < length rest)))

-- behind an `I`, a text that isn't `NF`, and how much of it is left where that shows
pub record InfinityStop (behind : List ℕ) (left : ℕ) : Type 0 where
  pub read : List ℕ
  pub rest : List ℕ
  pub parts : behind ≡ read ++ rest
  pub stop : EndsInfinity read rest
  pub all : left ≡ length rest
