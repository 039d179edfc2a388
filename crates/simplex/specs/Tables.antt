-- What a dictionary, statuses and values in memory say together.
use Rattle.std.specs.Prelude.{◌≡◌, ℕ, ◌+◌, ◌<◌, List, length}
use Rattle.fraction.specs.Frac.{ratios}
use Rattle.fraction.specs.declared.frac.Frac.{Frac}
use Rattle.evidence.specs.Instance as Of
use Rattle.evidence.specs.Instance.{Instance}
use Rattle.evidence.specs.Point.{value_at}
use Rattle.bases.specs.Dictionary.{Entries, Values}
use Rattle.simplex_rules.specs.declared.columns.Status.{Status}
use Rattle.simplex_rules.specs.Statuses.{basic_in}
use Rattle.dictionary.specs.declared.dict.Dict.{Dict}
use Rattle.dictionary.specs.Dict.{width_of, height_of, columns_of, basic_of, Holds}

-- these are the statuses of the columns; the goal's, after the last, is basic
pub record AreStatuses {L : _} {G : _} (d : Dict L G) (ss : List Status) : Type 0 where
  pub count : length ss ≡ width_of d + height_of d
  pub basic : (c : ℕ) → c < columns_of d → basic_in ss c ≡ basic_of d c

-- the dictionary is that of its basis for some rows, and these are the statuses of its columns
pub record AreHeld {L : _} {G : _} (d : Dict L G) (ss : List Status) : Type 0 where
  pub rows : Entries
  pub holds : Holds rows d
  pub statuses : AreStatuses d ss

abbrev pub values_in : List Frac → Values
values_in vs = value_at (ratios vs)

-- it has the size of the program
pub record HasSizeOf {L : _} {G : _} (I : Instance) (d : Dict L G) : Type 0 where
  pub width : width_of d ≡ Of.width I
  pub height : height_of d ≡ Of.height I
