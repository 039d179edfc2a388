-- Ratios that have a text as a decimal.
use Rattle.std.specs.Prelude.{◌≡◌, ◌≢◌, ℕ, ◌*◌, ◌%◌, ◌^◌, ◌≤◌, ◌⊎◌, List, ◌++◌}
use Rattle.rational.specs.Ratio.{Ratio}
use Rattle.rational.specs.Width.{most}
use Rattle.decimal_text.specs.declared.fault.DecimalFault.{DecimalFault}
use Rattle.decimal_text.specs.declared.fault.DecimalFault.TheVariants.{NotNumber, Wide, NotDecimal, Memory}
use Rattle.decimal_text.specs.Decimal.{IsDecimal}
use Rattle.decimal_text.specs.Plain.{PlainText}

-- size over denom as a whole number over ten to the places, both within the width, with as few places as can be
pub record HasPlaces (size denom : ℕ) : Type 0 where
  pub places : ℕ
  pub n : ℕ
  pub near : places ≤ 38
  pub same : size * 10 ^ places ≡ n * denom
  pub small : n ≤ most
  pub least : (places ≡ 0) ⊎ (n % 10 ≢ 0)

-- what is written after a text, and read as the value
pub record AppendsDecimal (old new : List ℕ) (x : Ratio) : Type 0 where
  pub written : List ℕ
  pub after : new ≡ old ++ written
  pub plain : PlainText written x
  pub read : IsDecimal written x

-- no text that is read has the value, or there was no memory
abbrev pub DecimalWriteFails : Ratio → DecimalFault → Type 0
DecimalWriteFails x NotDecimal = (text : List ℕ) → IsDecimal text x → ⊥
DecimalWriteFails x Memory = Unit {0}
DecimalWriteFails x (NotNumber at) = ⊥
DecimalWriteFails x Wide = ⊥
