-- The result that is handed in beside a job's options.
use Rattle.std.specs.Prelude.{◌≡◌, ◌+◌, ℕ, Option, None, Some, List}
use Rattle.os_io.specs.Files.{Held, ReadsFirst}
use Rattle.os_io.specs.Limits.{most_bytes}
use Rattle.command_answers.specs.FileNames.{ReadsNamed}
use Rattle.handed_results.specs.declared.handed.Handed.{Handed}
use Rattle.handed_results.specs.declared.handed.Handed.TheVariants.{Nothing, Once, Twice}
use Rattle.handed_results.specs.Reading.{HandsIn}

-- the text of the one result that is handed in
abbrev pub one_handed : Handed → Option (List ℕ)
one_handed Nothing = None
one_handed (Once text) = Some text
one_handed Twice = None

-- the options hand in this one, or none
abbrev pub HandInOne : (osol : List ℕ) → (beside : Option (List ℕ)) → Type 0
HandInOne osol beside = (h : Handed) × HandsIn osol h × (beside ≡ one_handed h)

-- the text beside the options: that of the file, if one is named, of which so many bytes are read at most, one more than a document may have; and else the one
-- result that the options hand in, which stands beside the text that is made of them, too
abbrev pub TakesResult : Option Held → (osol : List ℕ) → (beside : Option (List ℕ)) → Type 0
TakesResult None osol beside = HandInOne osol beside
TakesResult (Some held) osol beside = (text : List ℕ) × ReadsFirst (most_bytes + 1) held text × (beside ≡ Some text)

-- whatever is read of the options hands in nothing
abbrev pub HandInNothing : Option Held → Type 0
HandInNothing options = (osol : List ℕ) (h : Handed) → ReadsNamed options osol → HandsIn osol h → h ≡ Nothing
