-- Numbers of one tag that are read together: no text may be out of its grammar, and then no number too great.
use Rattle.std.specs.Prelude.{◌≡◌, ◌⊎◌, List, [], ◌∷◌, ◌++◌, map, Result, Ok, Err}
use Rattle.tag_tests.specs.declared.numbers.Unread.{Unread}
use Rattle.tag_tests.specs.declared.numbers.Unread.TheVariants.{NotNumber, Wide}
use Rattle.tag_tests.specs.Tests.{AllPass}

-- of these the first of which it is so
abbrev pub OneFirst : {X : Type 0} → (X → Type 0) → List X → Type 0
OneFirst {X} P [] = ⊥
OneFirst {X} P (f ∷ fs) = P f ⊎ ((P f → ⊥) × OneFirst P fs)

-- the numbers of these fields were read, and say so; or one is bad; or none is bad and one is wide
abbrev pub FieldsRead : {X A : Type 0} → (X → Type 0) → (X → Type 0) → List X → Result A Unread → (A → Type 0) → Type 0
FieldsRead {X} {A} Bad TooGreat fs (Ok a) Says = AllPass Bad fs × AllPass TooGreat fs × Says a
FieldsRead {X} {A} Bad TooGreat fs (Err NotNumber) Says = OneFirst Bad fs
FieldsRead {X} {A} Bad TooGreat fs (Err Wide) Says = AllPass Bad fs × OneFirst TooGreat fs

-- what is told of two: the first kind where one is of it, else the second
abbrev pub IsFirstOf : {A B : Type 0} → Result A Unread → Result B Unread → Unread → Type 0
IsFirstOf {A} {B} a b NotNumber = (a ≡ Err NotNumber) ⊎ (b ≡ Err NotNumber)
IsFirstOf {A} {B} a b Wide = ((a ≡ Err Wide) ⊎ (b ≡ Err Wide)) × (a ≡ Err NotNumber → ⊥) × (b ≡ Err NotNumber → ⊥)

-- the tests of fields: all of one kind, and then all of the other
abbrev pub field_tests : {X C : Type 0} → (X → C) → (X → C) → List X → List C
field_tests {X} {C} bad wide fs = map bad fs ++ map wide fs
