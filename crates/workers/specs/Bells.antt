-- What a bell says that was rung.
use Rattle.std.specs.Prelude.{Bool}

-- what is known of the answer of a system's channel: nothing, since what it did with a token is told by nobody else
abbrev pub Untold : (sent : Bool) → Type 0
Untold sent = Unit {0}
