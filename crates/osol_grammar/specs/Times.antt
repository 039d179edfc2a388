-- For how long a job may be searched, as a document says it (Optimization Services option language, `maxTime`): a number of units, exactly.
use Rattle.std.specs.Prelude.{◌≢◌, ◌⊎◌, ℕ, pos, cond, bytes_eq, Option, None, Some, List, codes}
use Rattle.std.specs.declared.cmp.Ordering.TheVariants.{Less, Greater}
use Rattle.rational.specs.Ratio.{whole, product, order, IsSame}
use Rattle.fraction.specs.Frac.{ratio}
use Rattle.fraction.specs.declared.frac.Frac.{Frac}
use Rattle.decimal_text.specs.Count.{most_count}
use Rattle.decimal_text.specs.Decimal.{IsDecimal}
use Rattle.decimal_text.specs.Exact.{RatioText}

-- the seconds of the unit of this name; where none is named they are 1
abbrev pub unit_named : Option (List ℕ) → Option ℕ
unit_named None = Some 1
unit_named (Some name) = cond (bytes_eq name (codes "second")) (Some 1) (cond (bytes_eq name (codes "minute")) (Some 60) (cond (bytes_eq name (codes "hour")) (Some 3600) None))

-- the text is this number: a ratio, as results have numbers, or else a decimal
abbrev pub IsAmount : List ℕ → Frac → Type 0
IsAmount text x = RatioText text (ratio x) ⊎ (((y : Frac) → RatioText text (ratio y) → ⊥) × IsDecimal text (ratio x))

-- so many seconds are a time: they aren't below 0, nor past the greatest count
pub record IsTime (s : Frac) : Type 0 where
  pub above : order (ratio s) (whole (pos 0)) ≢ Less
  pub below : order (ratio s) (whole (pos most_count)) ≢ Greater

-- the text says these seconds, in units of so many
pub record SaysTime (unit : ℕ) (text : List ℕ) (s : Frac) : Type 0 where
  pub amount : Frac
  pub written : IsAmount text amount
  pub times : IsSame (ratio s) (product (ratio amount) (whole (pos unit)))
  pub is : IsTime s
