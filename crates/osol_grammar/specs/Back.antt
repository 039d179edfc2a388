-- The options that come back from their text.
use Rattle.std.specs.Prelude.{◌≡◌, ◌≢◌, ℕ, ◌-◌, ◌≤◌, pos, ◌≤ℤ◌, Option, None, Some, List, [], length}
use Rattle.tree_grammar.specs.Characters.{IsXmlText}
use Rattle.fraction.specs.declared.frac.Frac.{Frac}
use Rattle.decimal_text.specs.Space.{trimmed}
use Rattle.osol_grammar.specs.declared.gaps.Gap.{Gap}
use Rattle.osol_grammar.specs.declared.limit.Limit.{Limit}
use Rattle.osol_grammar.specs.declared.options.Options.{Options}
use Rattle.osol_grammar.specs.Limits.{limit_row}
use Rattle.osol_grammar.specs.Options.{amount}
use Rattle.osol_grammar.specs.Times.{IsTime}
use Rattle.osol_grammar.specs.FirstValues.{most_variables, IsSaid}

-- a job's name: characters of XML, one at least and of at most 256 bytes, with no white space round them
pub record IsJobName (job : List ℕ) : Type 0 where
  pub some : job ≢ []
  pub short : length job ≤ 256
  pub bare : trimmed job ≡ job
  pub characters : IsXmlText job

abbrev pub IsNameOrNone : Option (List ℕ) → Type 0
IsNameOrNone None = Unit {0}
IsNameOrNone (Some job) = IsJobName job

-- no time, or one
abbrev pub IsTimeOrNone : Option Frac → Type 0
IsTimeOrNone None = Unit {0}
IsTimeOrNone (Some s) = IsTime s

-- the last first value is said, and none is past the last variable that an instance may have
pub record AreFirstValues (vs : List (Option Frac)) : Type 0 where
  pub some : vs ≢ []
  pub few : length vs ≤ most_variables
  pub last : IsSaid vs (length vs - 1)

abbrev pub AreFirstOrNone : Option (List (Option Frac)) → Type 0
AreFirstOrNone None = Unit {0}
AreFirstOrNone (Some vs) = AreFirstValues vs

-- no gap, or one from 0 on
abbrev pub IsGapOrNone : Option Gap → Type 0
IsGapOrNone None = Unit {0}
IsGapOrNone (Some g) = pos 0 ≤ℤ g.number.numer

-- there is no job's name or it is one, the seconds are a time where there are some, so are the first values and the gap, and each limit is one that it may be
pub record ComesBack (o : Options) : Type 0 where
  pub job : IsNameOrNone o.job
  pub seconds : IsTimeOrNone o.seconds
  pub first : AreFirstOrNone o.first
  pub gap : IsGapOrNone o.gap
  pub above : (l : Limit) → (limit_row l).least ≤ amount o l
  pub below : (l : Limit) → amount o l ≤ (limit_row l).most
