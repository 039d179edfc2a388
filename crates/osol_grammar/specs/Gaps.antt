-- How near the best point has to be to the bound for a search to stop, as an option says it. The option is the project's own.
use Rattle.std.specs.Prelude.{◌≡◌, ◌≢◌, ℕ, pos, ◌≤ℤ◌, Bool, true, false, IsSomeAnd, List, [], ◌++◌, codes}
use Rattle.fraction.specs.Frac.{ratio}
use Rattle.tree_grammar.specs.Elements.{Attribute}
use Rattle.document_tags.specs.Elements.{value_of}
use Rattle.decimal_text.specs.Exact.{ratio_text}
use Rattle.osol_grammar.specs.declared.gaps.Gap.{Gap}
use Rattle.osol_grammar.specs.Times.{IsAmount}

-- the text ends with the sign of hundredths, and these stand before it; or it doesn't, and they are the text
abbrev pub IsBeforePercent : Bool → List ℕ → List ℕ → Type 0
IsBeforePercent true digits text = text ≡ digits ++ codes "%"
IsBeforePercent false digits text = (digits ≡ text) × ((others : List ℕ) → text ≢ others ++ codes "%")

-- the text says this gap: a number from 0 on, and directly behind it the sign where hundredths of a value are meant
pub record IsGapText (text : List ℕ) (g : Gap) : Type 0 where
  pub digits : List ℕ
  pub before : IsBeforePercent g.is_percent digits text
  pub number : IsAmount digits g.number
  pub above : pos 0 ≤ℤ g.number.numer

-- an option with these attributes says it
abbrev pub SaysGap : List Attribute → Gap → Type 0
SaysGap as' g = IsSomeAnd (value_of (codes "value") as') (λ text. IsGapText text g)

-- as it is written
abbrev pub percent : Bool → List ℕ
percent true = codes "%"
percent false = []

abbrev pub gap_text : Gap → List ℕ
gap_text g = ratio_text (ratio g.number) ++ percent g.is_percent
