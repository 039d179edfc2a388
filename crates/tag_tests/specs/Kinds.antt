-- A form whose marks have kinds: the tests of a mark are those of its kind, and the kind says all that the form needs of the mark.
use Rattle.std.specs.Prelude.{List, Result, Ok, Err}
use Rattle.tag_tests.specs.declared.marks.Stop.{Stop}
use Rattle.tag_tests.specs.declared.marks.Stop.TheVariants.{Refused, Memory}
use Rattle.tag_tests.specs.Tests.{AllPass, FirstFails}
use Rattle.tag_tests.specs.Forms.{Form}

-- the kind of a mark in a state, the tests of a kind in their order, when each fails, how it refuses, and what a mark of a kind leaves
pub record Kinds (S T K C R : Type 0) : Type 1 where
  pub kind : S → T → K
  pub tests : K → List C
  pub Fails : S → K → C → Type 0
  pub told : S → C → R
  pub Leaves : S → K → S → Type 0

abbrev pub form : {S T K C R : Type 0} → Kinds S T K C R → Form S T C R
form {S} {T} {K} {C} {R} G = record { tests = λ s t. G.tests (G.kind s t); Fails = λ s t c. G.Fails s (G.kind s t) c; told = λ s t c. G.told s c; Becomes = λ s t z. G.Leaves s (G.kind s t) z }

-- a mark of this kind is taken, or refused; or there was no memory
abbrev pub StepsAs : {S T K C R X : Type 0} → Kinds S T K C R → S → K → S → Result X (Stop R) → Type 0
StepsAs {S} {T} {K} {C} {R} {X} G s k z (Ok x) = AllPass (G.Fails s k) (G.tests k) × G.Leaves s k z
StepsAs {S} {T} {K} {C} {R} {X} G s k z (Err (Refused r)) = FirstFails {R = R} (G.Fails s k) (G.told s) (G.tests k) r
StepsAs {S} {T} {K} {C} {R} {X} G s k z (Err Memory) = Unit {0}
