-- How many turns are enough.
use Rattle.std.specs.Prelude.{ℕ, ◌+◌, ◌^◌, Option, None, Some, nat_le, if◌then◌else◌}

-- as many as there are ways for each column to be basic or to have one of three places, where that is at most 4 ^ 13 = 67,108,864
abbrev pub safe_limit : (variables rows : ℕ) → Option ℕ
safe_limit variables rows = if nat_le (variables + rows) 13 then Some (4 ^ (variables + rows)) else None
