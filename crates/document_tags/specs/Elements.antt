-- The parts of a document: attributes by their names, child elements by theirs, and an element's own text.
use Rattle.std.specs.Prelude.{ℕ, suc, ◌+◌, Option, None, Some, cond, bytes_eq, List, [], ◌∷◌, ◌++◌}
use Rattle.tree_grammar.specs.Elements.{Attribute, Nodes, none, element, chars, Element}
use Rattle.document_tags.specs.Rests.{child_elements}

-- the value of the first attribute of this name, if there is one
abbrev pub value_of : List ℕ → List Attribute → Option (List ℕ)
value_of name [] = None
value_of name (a ∷ more) = cond (bytes_eq a.name name) (Some a.value) (value_of name more)

-- those of this name, in their order
abbrev pub named : List ℕ → List Element → List Element
named name [] = []
named name (e ∷ more) = cond (bytes_eq e.name name) (e ∷ named name more) (named name more)

-- the child elements of this name
abbrev pub children_named : List ℕ → Element → List Element
children_named name e = named name (child_elements e.children)

-- the characters that stand in it, and not in an element in it
abbrev pub characters : Nodes → List ℕ
characters none = []
characters (element name attributes children more) = characters more
characters (chars text more) = text ++ characters more

abbrev pub own_text : Element → List ℕ
own_text e = characters e.children

-- a text, or none where it is empty
abbrev pub unless_empty : List ℕ → Option (List ℕ)
unless_empty [] = None
unless_empty (c ∷ cs) = Some (c ∷ cs)

-- how many elements there are, at any depth
abbrev pub elements_in : Nodes → ℕ
elements_in none = 0
elements_in (element name attributes children more) = suc (elements_in children + elements_in more)
elements_in (chars text more) = elements_in more
