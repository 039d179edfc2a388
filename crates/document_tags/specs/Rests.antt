-- An element's child elements.
use Rattle.std.specs.Prelude.{List, [], ◌∷◌}
use Rattle.tree_grammar.specs.Elements.{Nodes, none, element, chars, Element}

-- the child elements in their order; characters between them are passed over
abbrev pub child_elements : Nodes → List Element
child_elements none = []
child_elements (element name attributes children more) = record { name = name; attributes = attributes; children = children } ∷ child_elements more
child_elements (chars text more) = child_elements more
