-- What a builder is told, whatever comes behind it.
use Rattle.std.specs.Prelude.{◌≡◌, ℕ, List, [], ◌∷◌, ◌++◌}
use Rattle.tree_grammar.specs.Elements.{Attribute, Element, Event, Open, Close, nodes_events}
use Rattle.element_tree.specs.Building.{Building, said}
use Rattle.document_tags.specs.Writing.{text_nodes}

-- more was told, and no attribute waits
pub record Told (old new : Building) (more : List Event → List Event) : Type 0 where
  pub told : (behind : List Event) → said new ++ behind ≡ said old ++ more behind
  pub waiting : new.attributes ≡ []

-- attributes were told, for the element that begins next
pub record ToldAttributes (old new : Building) (more : List Attribute) : Type 0 where
  pub told : said new ≡ said old
  pub waiting : new.attributes ≡ old.attributes ++ more

-- an element begins with these attributes, and an element ends
abbrev pub opening : List ℕ → List Attribute → List Event → List Event
opening name attributes behind = Open name attributes ∷ behind

abbrev pub closing : List ℕ → List Event → List Event
closing name behind = Close name ∷ behind

-- a whole element that holds a text
abbrev pub marked : List ℕ → List Attribute → List ℕ → List Event → List Event
marked name attributes text behind = Open name attributes ∷ nodes_events (text_nodes text) (Close name ∷ behind)

-- a whole element
abbrev pub whole_element : Element → List Event → List Event
whole_element e behind = Open e.name e.attributes ∷ nodes_events e.children (Close e.name ∷ behind)
