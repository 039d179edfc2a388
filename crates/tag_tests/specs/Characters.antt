-- Characters that come one by one, and are kept or not.
use Rattle.std.specs.Prelude.{ℕ, Bool, true, false, List, [], ◌∷◌, ◌++◌}

-- one more
abbrev pub heard : Bool → List ℕ → ℕ → List ℕ
heard true before c = before ++ c ∷ []
heard false before c = before

-- and some more
abbrev pub kept : Bool → List ℕ → List ℕ → List ℕ
kept true before cs = before ++ cs
kept false before cs = before
