-- What a tag decides: the tests of its kind are tried in order, and the first that fails refuses.
use Rattle.std.specs.Prelude.{◌≡◌, ◌⊎◌, ℕ, ◌≤◌, List, [], ◌∷◌, Contains, Result, Ok, Err}

-- all of these tests pass
abbrev pub AllPass : {C : Type 0} → (C → Type 0) → List C → Type 0
AllPass {C} Fails [] = Unit {0}
AllPass {C} Fails (c ∷ cs) = (Fails c → ⊥) × AllPass Fails cs

-- of these tests the first that fails refuses so
abbrev pub FirstFails : {C R : Type 0} → (C → Type 0) → (C → R) → List C → R → Type 0
FirstFails {C} {R} Fails told [] r = ⊥
FirstFails {C} {R} Fails told (c ∷ cs) r = (Fails c × (r ≡ told c)) ⊎ ((Fails c → ⊥) × FirstFails Fails told cs r)

-- some test fails, wherever it stands, and refuses so
pub record SomeFails {C R : Type 0} (Fails : C → Type 0) (told : C → R) (cs : List C) (r : R) : Type 0 where
  pub test : C
  pub stands : Contains cs test
  pub fails : Fails test
  pub is : r ≡ told test

-- no test behind one of this number has a lesser one
abbrev pub FromHere : {C : Type 0} → (C → ℕ) → ℕ → List C → Type 0
FromHere {C} number n [] = Unit {0}
FromHere {C} number n (c ∷ cs) = (n ≤ number c) × FromHere number n cs

-- the tests stand in the order of their numbers
abbrev pub InOrder : {C : Type 0} → (C → ℕ) → List C → Type 0
InOrder {C} number [] = Unit {0}
InOrder {C} number (c ∷ cs) = FromHere number (number c) cs × InOrder number cs

-- what was read at a tag answers these tests: all pass, and it is so; or it is the refusal of the first that fails
abbrev pub Answers : {C R X : Type 0} → (C → Type 0) → (C → R) → List C → Result X R → (X → Type 0) → Type 0
Answers {C} {R} {X} Fails told cs (Ok x) Says = AllPass Fails cs × Says x
Answers {C} {R} {X} Fails told cs (Err r) Says = FirstFails Fails told cs r
