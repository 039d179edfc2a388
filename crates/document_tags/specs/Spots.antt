-- Elements at their places in a tree's events.
use Rattle.std.specs.Prelude.{◌≡◌, Option, None, Some, List, drop}
use Rattle.std.specs.List.{AllZip}
use Rattle.tree_grammar.specs.Elements.{Element, Event}
use Rattle.document_tags.specs.declared.spot.Spot.{Spot}
use Rattle.document_tags.specs.Passages.{element_events}

-- the element begins at this place
abbrev pub StandsAt : Spot → Element → Type 0
StandsAt s e = (rest : List Event) × (drop s.at s.tree.now ≡ element_events e rest)

-- these elements, each at its place
abbrev pub AreSpots : List Spot → List Element → Type 0
AreSpots spots es = AllZip StandsAt spots es

-- one, or none
abbrev pub IsSpot : Option Spot → Option Element → Type 0
IsSpot None None = Unit {0}
IsSpot None (Some e) = ⊥
IsSpot (Some s) None = ⊥
IsSpot (Some s) (Some e) = StandsAt s e
