-- What of a tree's events is still to come while elements are passed.
use Rattle.std.specs.Prelude.{◌≡◌, ℕ, zero, suc, List, ◌∷◌}
use Rattle.tree_grammar.specs.Elements.{Nodes, Element, Event, Open, Close, nodes_events}
use Rattle.document_tags.specs.Rests.{child_elements}

-- so many elements are still to be ended, each with its content, and then comes the rest
abbrev pub Pending : ℕ → List Event → List Event → Type 0
Pending zero events rest = events ≡ rest
Pending (suc d) events rest = (content : Nodes) × (name : List ℕ) × (after : List Event) × (events ≡ nodes_events content (Close name ∷ after)) × Pending d after rest

-- the events of this element, and then what comes behind it
abbrev pub element_events : Element → List Event → List Event
element_events e behind = Open e.name e.attributes ∷ nodes_events e.children (Close e.name ∷ behind)

-- an element's content begins with characters or nothing, and then comes this child element
pub record IsChild (content : Nodes) (name : List ℕ) (rest events : List Event) : Type 0 where
  pub child : Element
  pub more : Nodes
  pub first : child_elements content ≡ child ∷ child_elements more
  pub here : events ≡ element_events child (nodes_events more (Close name ∷ rest))

-- characters of the content were passed, and this comes then
pub record Remains (content : Nodes) (name : List ℕ) (rest events : List Event) : Type 0 where
  pub more : Nodes
  pub same : child_elements more ≡ child_elements content
  pub here : events ≡ nodes_events more (Close name ∷ rest)
