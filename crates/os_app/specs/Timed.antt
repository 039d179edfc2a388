-- The options' text that a job is solved with where a time in seconds is asked for.
use Rattle.std.specs.Prelude.{◌≡◌, ◌≢◌, ◌⊎◌, ℕ, pos, Option, None, Some, List}
use Rattle.rational.specs.Ratio.{whole}
use Rattle.fraction.specs.Frac.{ratio}
use Rattle.fraction.specs.declared.frac.Frac.{Frac}
use Rattle.osol_grammar.specs.declared.options.Options.{Options}
use Rattle.osol_grammar.specs.declared.fault.OsolFault.{OsolFault}
use Rattle.osol_grammar.specs.declared.fault.OsolFault.TheVariants.{Memory}
use Rattle.osol_grammar.specs.Meaning.{IsOptionsText}
use Rattle.osol_grammar.specs.Reading.{DecodeFails}
use Rattle.osol_grammar.specs.Writing.{options_text}

-- the text of the options with so many seconds in place of their own time
pub record IsTimedText (osol : List ℕ) (n : ℕ) (text : List ℕ) : Type 0 where
  pub options : Options
  pub said : IsOptionsText osol options
  pub seconds : Frac
  pub are : ratio seconds ≡ whole (pos n)
  pub is : text ≡ options_text (record options { seconds = Some seconds })

-- the options are refused
abbrev pub HasNoTimedText : List ℕ → Type 0
HasNoTimedText osol = (f : OsolFault) × (f ≢ Memory) × DecodeFails osol f

-- that text, or none
abbrev pub IsTimedOrNone : (osol : List ℕ) → ℕ → Option (List ℕ) → Type 0
IsTimedOrNone osol n None = HasNoTimedText osol
IsTimedOrNone osol n (Some text) = IsTimedText osol n text

-- the text that is taken: the options' own, or, where it is asked for and there is one, that with the time
abbrev pub TakesTime : Option ℕ → (osol taken : List ℕ) → Type 0
TakesTime None osol taken = taken ≡ osol
TakesTime (Some n) osol taken = IsTimedText osol n taken ⊎ (HasNoTimedText osol × (taken ≡ osol))
