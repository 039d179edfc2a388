-- The looks of a run: what they answered, and which stop that agrees with.
use Rattle.std.specs.Prelude.{◌≡◌, ℕ, zero, suc, ◌+◌, ◌<◌, Bool, true, false, Option, None, Some, List, [], ◌∷◌, ◌++◌, IfSome}
use Rattle.simplex_rules.specs.Ends.{End, Clash, Empty, Best, Endless, TurnsOut, TooWide, Stopped}

abbrev pub is_stopped : End → Bool
is_stopped (Clash c) = false
is_stopped (Empty ms) = false
is_stopped (Best b x ms) = false
is_stopped (Endless x d) = false
is_stopped TurnsOut = false
is_stopped (TooWide s) = false
is_stopped Stopped = true

-- the answers of looks: n went on, and one more may have stopped
abbrev pub went_on : ℕ → List Bool
went_on zero = []
went_on (suc n) = false ∷ went_on n

abbrev pub answers : ℕ → Bool → List Bool
answers n false = went_on n
answers n true = went_on n ++ true ∷ []

-- the look that stops isn't among the first n
abbrev pub IsAfter : ℕ → Option ℕ → Type 0
IsAfter n stop = IfSome stop (λ k. n < k)

-- the stop agrees with these looks: after the first ones n went on, and the next one stopped where one did
abbrev pub AgreesWith : Option ℕ → ℕ → ℕ → Bool → Type 0
AgreesWith stop looks n false = IsAfter (looks + n) stop
AgreesWith stop looks n true = stop ≡ Some (looks + n + 1)

-- the stop that so many looks of a search tell
abbrev pub stop_after : ℕ → Bool → Option ℕ
stop_after n false = None
stop_after n true = Some (n + 1)

abbrev pub looks_after : ℕ → ℕ → Bool → ℕ
looks_after looks n false = looks + n
looks_after looks n true = looks + n + 1
