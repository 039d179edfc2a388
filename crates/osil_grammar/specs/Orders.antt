-- Entries in order: each one and the next.
use Rattle.std.specs.Prelude.{List, [], ◌∷◌}
use Rattle.fraction.specs.declared.ends.Entry.{Entry}
use Rattle.instance.specs.Parts.{IsBefore}

-- an entry stands to the first of a list as this says, and each of the list to the next
abbrev pub Follow : (Entry → Entry → Type 0) → Entry → List Entry → Type 0
Follow R a [] = Unit {0}
Follow R a (b ∷ more) = R a b × Follow R b more

-- each one to the next
abbrev pub AllFollow : (Entry → Entry → Type 0) → List Entry → Type 0
AllFollow R [] = Unit {0}
AllFollow R (a ∷ more) = Follow R a more

-- the second isn't before the first
abbrev pub IsNotBehind : Entry → Entry → Type 0
IsNotBehind a b = IsBefore b a → ⊥

-- no entry is before the one behind which it stands
abbrev pub IsInOrder : List Entry → Type 0
IsInOrder es = AllFollow IsNotBehind es

-- each is before the next
abbrev pub IsRising : List Entry → Type 0
IsRising es = AllFollow IsBefore es
