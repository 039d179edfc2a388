-- What may stand in an element, where the start tags in it lead, which kinds the marks in it are of, and whether its characters are kept.
use Rattle.std.specs.Prelude.{ℕ, zero, suc, Bool, false, List, [], ◌∷◌}
use Rattle.tree_grammar.specs.Elements.{Attribute}
use Rattle.doc_tree.specs.Marks.{Mark, Start, Char, Finish}
use Rattle.tag_tests.specs.declared.places.Led.{Led}
use Rattle.tag_tests.specs.declared.places.Led.TheVariants.{To, OtherRoot, Over}
use Rattle.tag_tests.specs.Places.{Child, child, among, led_from, Kind, begins, text, end_kind}

-- the child elements that are read, and where the start tags of all others lead
pub record ChildPlaces (P : Type 0) : Type 0 where
  pub children : List (Child P)
  pub others : Led P

-- outside of all elements: the root. One of another name isn't read
abbrev pub root : {P : Type 0} → List ℕ → P → ChildPlaces P
root {P} name place = record { children = child name place ∷ []; others = OtherRoot }

-- in an element: these. All else is passed over, with all that stands in it
abbrev pub reads : {P : Type 0} → List (Child P) → ChildPlaces P
reads {P} cs = record { children = cs; others = Over }

-- where the start tag of an element of this name leads
abbrev pub leads_by : {P : Type 0} → (P → ChildPlaces P) → P → List ℕ → Led P
leads_by {P} content p name = among (λ q. To q) name (content p).children (content p).others

-- the kind of a mark in an element where so many are open that are passed over
abbrev pub kind_by : {P : Type 0} → (P → List ℕ → List Attribute → Led P) → ℕ → P → Mark → Kind P
kind_by {P} leads d p (Start name as') = begins (led_from d (leads p name as')) as'
kind_by {P} leads d p (Char c) = text c
kind_by {P} leads d p (Finish name) = end_kind d p

-- the characters that stand in such an element itself are kept
abbrev pub keeps_in : {P : Type 0} → (P → Bool) → ℕ → P → Bool
keeps_in {P} is_text zero p = is_text p
keeps_in {P} is_text (suc d) p = false
