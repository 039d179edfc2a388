-- A form of documents: each mark, in the state that those before it leave, has a list of tests, and where all pass it leaves a state.
use Rattle.std.specs.Prelude.{◌≡◌, List, [], ◌∷◌, ◌++◌}
use Rattle.tag_tests.specs.Tests.{AllPass, FirstFails}

-- of states, marks, tests and refusals: the tests of a mark in their order, when each fails, how it refuses, and what the mark leaves
pub record Form (S T C R : Type 0) : Type 1 where
  pub tests : S → T → List C
  pub Fails : S → T → C → Type 0
  pub told : S → T → C → R
  pub Becomes : S → T → S → Type 0

-- this mark refuses so
abbrev pub Refuses : {S T C R : Type 0} → Form S T C R → S → T → R → Type 0
Refuses {S} {T} {C} {R} F s t r = FirstFails (F.Fails s t) (F.told s t) (F.tests s t) r

-- this mark is taken, and leaves this state
abbrev pub TakesMark : {S T C R : Type 0} → Form S T C R → S → T → S → Type 0
TakesMark {S} {T} {C} {R} F s t z = AllPass (F.Fails s t) (F.tests s t) × F.Becomes s t z

-- all these marks are taken, from one state to the other
abbrev pub AreTaken : {S T C R : Type 0} → Form S T C R → S → List T → S → Type 0
AreTaken {S} {T} {C} {R} F s [] z = z ≡ s
AreTaken {S} {T} {C} {R} F s (t ∷ ts) z = (m : S) × TakesMark F s t m × AreTaken F m ts z

-- the first of these marks that isn't taken refuses so
pub record AreRefused {S T C R : Type 0} (F : Form S T C R) (s : S) (ts : List T) (r : R) : Type 0 where
  pub before : List T
  pub mark : T
  pub after : List T
  pub split : ts ≡ before ++ mark ∷ after
  pub state : S
  pub taken : AreTaken F s before state
  pub refuses : Refuses F state mark r

-- a mark that is taken leaves one state
abbrev pub LeavesOne : {S T C R : Type 0} → Form S T C R → Type 0
LeavesOne {S} {T} {C} {R} F = (s : S) (t : T) (a b : S) → TakesMark F s t a → TakesMark F s t b → a ≡ b
