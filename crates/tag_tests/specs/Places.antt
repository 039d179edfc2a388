-- Elements by their names: what may stand in what, where a start tag leads, and the kinds of marks where elements of other names are passed over.
use Rattle.std.specs.Prelude.{ℕ, zero, suc, cond, bytes_eq, List, [], ◌∷◌}
use Rattle.tree_grammar.specs.Elements.{Attribute}
use Rattle.tag_tests.specs.declared.places.Led.{Led}
use Rattle.tag_tests.specs.declared.places.Led.TheVariants.{Over}

-- an element that may stand in another one
pub record Child (P : Type 0) : Type 0 where
  pub name : List ℕ
  pub place : P

abbrev pub child : {P : Type 0} → List ℕ → P → Child P
child {P} name place = record { name = name; place = place }

-- where the start tag of an element of this name leads: to the place of the first of these that has it, or as is said of other names
abbrev pub among : {P L : Type 0} → (P → L) → List ℕ → List (Child P) → L → L
among {P} {L} to name [] other = other
among {P} {L} to name (c ∷ cs) other = cond (bytes_eq name c.name) (to c.place) (among to name cs other)

-- the same where so many elements are open that are passed over
abbrev pub led_from : {P : Type 0} → ℕ → Led P → Led P
led_from {P} zero led = led
led_from {P} (suc d) led = Over

-- a start tag that leads there, with its attributes; a character; the end tag of such an element, and of one that is passed over
pub data Kind (P : Type 0) : Type 0 where
  begins : Led P → List Attribute → Kind P
  text : ℕ → Kind P
  ends : P → Kind P
  ends_over : Kind P

abbrev pub end_kind : {P : Type 0} → ℕ → P → Kind P
end_kind {P} zero p = ends p
end_kind {P} (suc d) p = ends_over
