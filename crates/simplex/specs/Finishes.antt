-- How the turns of a run finish, and what that makes of its end.
use Rattle.std.specs.Prelude.{◌≡◌, ◌+◌, ◌<◌, ◌≤◌, Bool, true, false, Option, None, Some, List, length}
use Rattle.fraction.specs.Frac.{ratio}
use Rattle.evidence.specs.Instance.{Instance, width}
use Rattle.bases.specs.Dictionary.{Entries, Values}
use Rattle.bases.specs.Program.{goal_column}
use Rattle.simplex_rules.specs.declared.columns.Status.{Status}
use Rattle.simplex_rules.specs.declared.columns.Way.TheVariants.{Fall}
use Rattle.simplex_rules.specs.Statuses.{basic_in}
use Rattle.simplex_rules.specs.Ends.{Terms, Clock, End, Empty, Best, Endless, TurnsOut, TooWide, Stopped}
use Rattle.simplex_rules.specs.Reports.{multipliers_of, movement}
use Rattle.simplex_rules.specs.Runs.{Moment, Next, To, Out, ComesInRun, IsNext}
use Rattle.dictionary.specs.declared.dict.Dict.{Dict}
use Rattle.simplex.specs.declared.answer.Turns.{Turns}
use Rattle.simplex.specs.declared.finish.Finish.{Finish}
use Rattle.simplex.specs.declared.finish.Finish.TheVariants as Has
use Rattle.simplex.specs.Tables.{AreHeld}
use Rattle.simplex.specs.Answers.{listed}

-- the end at a basis, whose dictionary is u and whose values are w
abbrev pub end_at : Instance → List Status → Entries → Values → Finish → End
end_at I ss u w (Has.Empty m) = Empty (multipliers_of I u m.col m.way)
end_at I ss u w (Has.Best b) = Best (ratio b) (listed (width I) w) (multipliers_of I u (goal_column I) Fall)
end_at I ss u w (Has.Endless m) = Endless (listed (width I) w) (listed (width I) (movement ss u m.col m.way))
end_at I ss u w Has.TurnLimit = TurnsOut
end_at I ss u w (Has.Wide s) = TooWide s
end_at I ss u w Has.Stopped = Stopped

-- what comes next: a moment with these statuses, or the end
abbrev pub next_at : Instance → List Status → Entries → Values → Clock → Option Finish → Next
next_at I ss u w c None = To (record { statuses = ss; clock = c })
next_at I ss u w c (Some f) = Out (end_at I ss u w f) c

abbrev pub is_stop : Finish → Bool
is_stop (Has.Empty m) = false
is_stop (Has.Best b) = false
is_stop (Has.Endless m) = false
is_stop Has.TurnLimit = false
is_stop (Has.Wide s) = false
is_stop Has.Stopped = true

abbrev pub stops_at : Option Finish → Bool
stops_at None = false
stops_at (Some f) = is_stop f

abbrev pub is_best : Finish → Bool
is_best (Has.Empty m) = false
is_best (Has.Best b) = true
is_best (Has.Endless m) = false
is_best Has.TurnLimit = false
is_best (Has.Wide s) = false
is_best Has.Stopped = false

-- the column that moved or was to move is one that the dictionary has
abbrev pub IsFinishReady : List Status → Finish → Type 0
IsFinishReady ss (Has.Empty m) = (m.col < length ss) × (basic_in ss m.col ≡ true)
IsFinishReady ss (Has.Best b) = Unit {0}
IsFinishReady ss (Has.Endless m) = (m.col < length ss) × (basic_in ss m.col ≡ false)
IsFinishReady ss Has.TurnLimit = Unit {0}
IsFinishReady ss (Has.Wide s) = Unit {0}
IsFinishReady ss Has.Stopped = Unit {0}

-- what holds where the end is read off the basis
abbrev pub KeepsBasis : Finish → Type 0 → Type 0
KeepsBasis (Has.Empty m) P = P
KeepsBasis (Has.Best b) P = P
KeepsBasis (Has.Endless m) P = P
KeepsBasis Has.TurnLimit P = Unit {0}
KeepsBasis (Has.Wide s) P = Unit {0}
KeepsBasis Has.Stopped P = Unit {0}

-- and where the run goes on, too
abbrev pub KeepsAt : Option Finish → Type 0 → Type 0
KeepsAt None P = P
KeepsAt (Some f) P = KeepsBasis f P

-- what a finish leaves in memory: all that its end is read off
pub record IsLeft {L : _} {G : _} (d : Dict L G) (ss : List Status) (f : Finish) : Type 0 where
  pub held : KeepsBasis f (AreHeld d ss)
  pub ready : IsFinishReady ss f

-- where the run goes on, the dictionary and the statuses stand
abbrev pub IsLeftAt : {L : _} {G : _} → Dict L G → List Status → Option Finish → Type 0
IsLeftAt d ss None = AreHeld d ss
IsLeftAt d ss (Some f) = IsLeft d ss f

-- after a turn that was done: the end where its look stopped the run, or else the next moment
abbrev pub after_turn : Bool → List Status → Clock → Next
after_turn true ss c = Out Stopped c
after_turn false ss c = To (record { statuses = ss; clock = c })

-- a run that goes on has done one turn, of those that it may
abbrev pub CountsTurn : Turns → Turns → Option Finish → Type 0
CountsTurn old new None = (old.done < old.most) × (new.done ≡ old.done + 1)
CountsTurn old new (Some f) = (old.done ≤ new.done) × (old.done ≤ old.most → new.done ≤ old.most)

-- the run comes to a moment with this end, and where that is read off the basis, these are the moment's statuses
pub record ComesTo (I : Instance) (zeroed : Bool) (t : Terms) (c : Clock) (e : End) (d : Clock) (f : Finish) (ss : List Status) : Type 0 where
  pub last : Moment
  pub comes : ComesInRun I zeroed t c last
  pub ends : IsNext I zeroed t last (Out e d)
  pub basis : KeepsBasis f (last.statuses ≡ ss)
