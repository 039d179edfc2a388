-- What holds of a dictionary that was loaded and turned.
use Rattle.bases.specs.Dictionary.{Entries}
use Rattle.dictionary.specs.declared.dict.Dict.{Dict}
use Rattle.dictionary.specs.Dict.{Holds}
use Rattle.tableaus.specs.declared.turning.Turned.{Turned}
use Rattle.tableaus.specs.declared.turning.Turned.TheVariants.{All, Never, Wide}

-- it is the dictionary of its basis for some rows
abbrev pub HoldsProgram : {L : _} {G : _} → Dict L G → Type 0
HoldsProgram d = (A : Entries) × Holds A d

-- it still is, unless a number didn't fit
abbrev pub KeepsProgram : {L : _} {G : _} → Turned → Dict L G → Type 0
KeepsProgram All d = HoldsProgram d
KeepsProgram (Never k) d = HoldsProgram d
KeepsProgram (Wide k) d = Unit {0}
