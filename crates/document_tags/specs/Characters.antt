-- Names, values and texts whose bytes are the UTF-8 of characters of XML (XML 1.0, production 2).
use Rattle.std.specs.Prelude.{List, [], ◌∷◌}
use Rattle.tree_grammar.specs.Characters.{IsXmlText}
use Rattle.tree_grammar.specs.Elements.{Attribute, Nodes, none, element, chars, Element}

-- these attributes' names and values
abbrev pub AttributesOfCharacters : List Attribute → Type 0
AttributesOfCharacters [] = Unit {0}
AttributesOfCharacters (a ∷ more) = IsXmlText a.name × IsXmlText a.value × AttributesOfCharacters more

-- all that stands in these nodes, at any depth
abbrev pub NodesOfCharacters : Nodes → Type 0
NodesOfCharacters none = Unit {0}
NodesOfCharacters (element name attributes children more) = IsXmlText name × AttributesOfCharacters attributes × NodesOfCharacters children × NodesOfCharacters more
NodesOfCharacters (chars text more) = IsXmlText text × NodesOfCharacters more

-- an element and all that stands in it
pub record IsOfCharacters (e : Element) : Type 0 where
  pub name : IsXmlText e.name
  pub attributes : AttributesOfCharacters e.attributes
  pub children : NodesOfCharacters e.children
