-- Elements that are the only ones of their kind in another, and what they say.
use Rattle.std.specs.Prelude.{ℕ, Option, None, Some, List, [], ◌∷◌}
use Rattle.tree_grammar.specs.Elements.{Element}
use Rattle.document_tags.specs.Elements.{children_named, own_text}
use Rattle.document_tags.specs.Rests.{child_elements}

-- the one of these elements, if it is one
abbrev pub only_one : List Element → Option Element
only_one [] = None
only_one (e ∷ []) = Some e
only_one (e ∷ f ∷ more) = None

-- the one child element of this name, if there is exactly one
abbrev pub only_child : Element → List ℕ → Option Element
only_child e name = only_one (children_named name e)

-- the one child element, if there is exactly one, whatever its name
abbrev pub only_element : Element → Option Element
only_element e = only_one (child_elements e.children)

-- a text, where there are no elements
abbrev pub unless_elements : List Element → List ℕ → Option (List ℕ)
unless_elements [] text = Some text
unless_elements (e ∷ more) text = None

-- what an element says that has no element in it
abbrev pub plain_text : Element → Option (List ℕ)
plain_text e = unless_elements (child_elements e.children) (own_text e)

-- the answer is a value of this kind, or there is none
abbrev pub IsOnly : {X : Type 0} → (X → Type 0) → Option X → Type 0
IsOnly {X} P None = (x : X) → P x → ⊥
IsOnly {X} P (Some x) = P x
