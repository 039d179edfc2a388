-- Nodes that documents are written as.
use Rattle.std.specs.Prelude.{ℕ, List, [], ◌∷◌, codes}
use Rattle.std.specs.Fmt.{decimal}
use Rattle.tree_grammar.specs.Elements.{Attribute, Nodes, none, element, chars, Element}

-- an attribute, and then more
abbrev pub with_attribute : (name value : List ℕ) → List Attribute → List Attribute
with_attribute name value more = record { name = name; value = value } ∷ more

-- the one attribute of this name
abbrev pub only : (name value : List ℕ) → List Attribute
only name value = with_attribute name value []

-- characters, or nothing where the text is empty
abbrev pub text_nodes : List ℕ → Nodes
text_nodes [] = none
text_nodes (c ∷ cs) = chars (c ∷ cs) none

-- an element with these attributes that holds this text, and then more
abbrev pub holding : (name : List ℕ) → List Attribute → (text : List ℕ) → Nodes → Nodes
holding name attributes text more = element name attributes (text_nodes text) more

-- an element without attributes that holds this text, or these nodes, and then more
abbrev pub leaf : (name text : List ℕ) → Nodes → Nodes
leaf name text more = holding name [] text more

abbrev pub group : (name : List ℕ) → Nodes → Nodes → Nodes
group name children more = element name [] children more

-- an element whose type is all that it says, and then more
abbrev pub typed : (name type : List ℕ) → Nodes → Nodes
typed name type more = element name (only (codes "type") type) none more

-- an element with a count of what stands in it, and then more
abbrev pub counted_element : (name count_name : List ℕ) → ℕ → Nodes → Nodes → Nodes
counted_element name count_name n children more = element name (only count_name (decimal n)) children more

-- the root of a document, with the namespace of the Optimization Services
abbrev pub rooted : (name : List ℕ) → Nodes → Element
rooted name children = record { name = name; attributes = only (codes "xmlns") (codes "os.optimizationservices.org"); children = children }

-- the root that is read, whose namespace is no attribute of it
abbrev pub bare_root : (name : List ℕ) → Nodes → Element
bare_root name children = record { name = name; attributes = []; children = children }
