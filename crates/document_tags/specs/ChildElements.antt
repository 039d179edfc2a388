-- Child elements gathered event by event.
use Rattle.std.specs.Prelude.{◌≡◌, ℕ, Option, None, Some, List, ◌∷◌, ◌++◌}
use Rattle.tree_grammar.specs.Elements.{Nodes, Element, Event, Close, nodes_events}
use Rattle.document_tags.specs.declared.spot.Spot.{Spot}
use Rattle.document_tags.specs.Rests.{child_elements}
use Rattle.document_tags.specs.Passages.{Pending}
use Rattle.document_tags.specs.Spots.{AreSpots}

-- so many elements that were begun in it are still to be ended, more nodes come then and its own end, and these child elements were found so far
pub record GathersChildren (e : Element) (depth : ℕ) (events : List Event) (found : List Spot) : Type 0 where
  pub more : Nodes
  pub rest : List Event
  pub so_far : List Element
  pub pending : Pending depth events (nodes_events more (Close e.name ∷ rest))
  pub spots : AreSpots found so_far
  pub total : so_far ++ child_elements more ≡ child_elements e.children

-- some are still to be ended, or all child elements were found
abbrev pub AreGathered : Element → List Event → List Spot → Option ℕ → Type 0
AreGathered e events found None = AreSpots found (child_elements e.children)
AreGathered e events found (Some depth) = GathersChildren e depth events found
