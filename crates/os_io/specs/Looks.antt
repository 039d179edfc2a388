-- Looks at whether to stop.
use Rattle.std.specs.Prelude.{ℕ, ◌+◌, ◌-◌, ◌^◌, min, Bool, true, false, List, [], ◌∷◌}

-- how many of these looks said to stop
abbrev pub stops_of : List Bool → ℕ
stops_of [] = 0
stops_of (true ∷ more) = stops_of more + 1
stops_of (false ∷ more) = stops_of more

-- the number of the call after so many: calls are counted from 1, and the count stays at its greatest
abbrev pub next_call : ℕ → ℕ
next_call calls = min (calls + 1) (2 ^ 64 - 1)
