-- Disks that are opened by name, and given back.
use Rattle.std.specs.Prelude.{◌≡◌, ℕ, Bool, true, List, [], ◌∷◌, ◌++◌, Option, Some, Result, Ok, Err}
use Rattle.os_io.specs.Streams.{BothTold}

-- the disk tells that it has these bytes, where they are told
abbrev pub IsHeld : Option (List ℕ) → (told : Bool) → (seen : List ℕ) → Type 0
IsHeld held told seen = (bytes : List ℕ) → held ≡ Some bytes → (told ≡ true) × (seen ≡ bytes)

-- one that had these bytes was given back behind those before
abbrev pub IsBack : Option (List (List ℕ)) → Option (List (List ℕ)) → List ℕ → Type 0
IsBack old new bytes = BothTold old new (λ before after. after ≡ before ++ bytes ∷ [])

-- these were opened behind those before, and no other
abbrev pub AreOpened : Option (List (List ℕ)) → Option (List (List ℕ)) → (names : List (List ℕ)) → Type 0
AreOpened old new names = BothTold old new (λ before after. after ≡ before ++ names)

-- one was opened by this name, and none where that failed
abbrev pub NamesOpened : {X E : Type 0} → Result X E → Option (List (List ℕ)) → Option (List (List ℕ)) → (name : List ℕ) → Type 0
NamesOpened (Ok disk) old new name = AreOpened old new (name ∷ [])
NamesOpened (Err fault) old new name = new ≡ old
