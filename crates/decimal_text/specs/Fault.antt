-- Why a text is refused.
use Rattle.std.specs.Prelude.{◌≡◌, ℕ, List, ◌⊎◌, length}
use Rattle.decimal_text.specs.declared.fault.DecimalFault.{DecimalFault}
use Rattle.decimal_text.specs.declared.fault.DecimalFault.TheVariants.{NotNumber, Wide, NotDecimal, Memory}
use Rattle.decimal_text.specs.Prefix.{LeavesAt}
use Rattle.decimal_text.specs.Exact.{RatioGrammar, IsWideRatio, IsUnreduced}

-- s is no text of the grammar, or its number is too great
abbrev pub RefusesText : (List ℕ → Type 0) → Type 0 → List ℕ → DecimalFault → Type 0
RefusesText grammar wide s (NotNumber at) = LeavesAt grammar s at
RefusesText grammar wide s Wide = wide
RefusesText grammar wide s NotDecimal = ⊥
RefusesText grammar wide s Memory = ⊥

-- the same of a ratio, which is also refused at its length where it isn't in lowest terms
abbrev pub RefusesRatio : List ℕ → DecimalFault → Type 0
RefusesRatio s (NotNumber at) = LeavesAt RatioGrammar s at ⊎ ((at ≡ length s) × IsUnreduced s)
RefusesRatio s Wide = IsWideRatio s
RefusesRatio s NotDecimal = ⊥
RefusesRatio s Memory = ⊥
