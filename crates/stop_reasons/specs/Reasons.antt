-- Why looks said to stop, and looks of a watch around another one that says to stop once a time is over.
use Rattle.std.specs.Prelude.{◌≡◌, ℕ, ◌+◌, Bool, true, false, Option, None, Some, List, map}
use Rattle.os_io.specs.Looks.{stops_of}
use Rattle.fraction.specs.declared.frac.Frac.{Frac}
use Rattle.stop_reasons.specs.declared.until.Reason.{Reason}
use Rattle.stop_reasons.specs.declared.until.Reason.TheVariants.{Killed, Time}

-- whether a look said to stop, which said why or went on
abbrev pub says_stop : Option Reason → Bool
says_stop None = false
says_stop (Some why) = true

-- and whether it was for this reason
abbrev pub says_killed : Option Reason → Bool
says_killed None = false
says_killed (Some Killed) = true
says_killed (Some Time) = false

abbrev pub says_time : Option Reason → Bool
says_time None = false
says_time (Some Killed) = false
says_time (Some Time) = true

-- looks with these answers: each was a look at the watch inside, and where that one went on, the time may have said to stop. So it did only where there
-- was a limit, and how often it did is counted
pub record CameUntil (Came : List Bool → Type 0) (limit : Option Frac) (before after : ℕ) (answers : List Bool) : Type 0 where
  pub told : List (Option Reason)
  pub are : answers ≡ map says_stop told
  pub came : Came (map says_killed told)
  pub counted : after ≡ before + stops_of (map says_time told)
  pub limited : limit ≡ None → stops_of (map says_time told) ≡ 0
