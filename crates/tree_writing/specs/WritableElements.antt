-- Elements whose text is a document, and what such a document holds.
use Rattle.std.specs.Prelude.{◌≡◌, ◌≢◌, true, false, cond, List, [], ◌∷◌, map}
use Rattle.tree_grammar.specs.Characters.{IsXmlText, IsQName, local_part, has_prefix}
use Rattle.tree_grammar.specs.Elements.{Attribute, Nodes, none, element, chars, Element}
use Rattle.tree_grammar.specs.Tags.{IsAmong, is_kept}

-- Each attribute has a qualified name, and a value of characters of XML.
abbrev pub AreWritable : List Attribute → Type 0
AreWritable [] = Unit {0}
AreWritable (a ∷ more) = IsQName a.name × IsXmlText a.value × AreWritable more

-- No name comes twice (XML 1.0, section 3.1).
abbrev pub NamesDiffer : List Attribute → Type 0
NamesDiffer [] = Unit {0}
NamesDiffer (a ∷ more) = (IsAmong a.name (map (λ b. b.name) more) → ⊥) × NamesDiffer more

-- No character data stands first.
abbrev pub BeginsApart : Nodes → Type 0
BeginsApart none = Unit {0}
BeginsApart (element name attributes children more) = Unit {0}
BeginsApart (chars text more) = ⊥

-- Names and characters of XML; character data is not empty, and doesn't touch.
abbrev pub NodesWritable : Nodes → Type 0
NodesWritable none = Unit {0}
NodesWritable (element name attributes children more) = (IsQName name × AreWritable attributes × NamesDiffer attributes) × NodesWritable children × NodesWritable more
NodesWritable (chars text more) = (text ≢ []) × IsXmlText text × BeginsApart more × NodesWritable more

-- The same of an element.
abbrev pub IsWritable : Element → Type 0
IsWritable e = (IsQName e.name × AreWritable e.attributes × NamesDiffer e.attributes) × NodesWritable e.children

-- the attributes that a document's element has: not those of namespaces, nor those with a prefix
abbrev pub kept_attributes : List Attribute → List Attribute
kept_attributes [] = []
kept_attributes (a ∷ more) = cond (is_kept a.name) (a ∷ kept_attributes more) (kept_attributes more)

-- The nodes with their names' local parts (Namespaces in XML 1.0, section 4), and with those attributes.
abbrev pub local_nodes : Nodes → Nodes
local_nodes none = none
local_nodes (element name attributes children more) = element (local_part name) (kept_attributes attributes) (local_nodes children) (local_nodes more)
local_nodes (chars text more) = chars text (local_nodes more)

-- The same of an element.
abbrev pub local_element : Element → Element
local_element e = record { name = local_part e.name; attributes = kept_attributes e.attributes; children = local_nodes e.children }

-- Each attribute belongs to the tree of a document.
abbrev pub AreInDocument : List Attribute → Type 0
AreInDocument [] = Unit {0}
AreInDocument (a ∷ more) = (is_kept a.name ≡ true) × AreInDocument more

-- No name has a prefix, and no attribute is of a namespace.
abbrev pub NodesLocal : Nodes → Type 0
NodesLocal none = Unit {0}
NodesLocal (element name attributes children more) = (has_prefix name ≡ false) × AreInDocument attributes × NodesLocal children × NodesLocal more
NodesLocal (chars text more) = NodesLocal more

-- The same of an element.
abbrev pub IsLocal : Element → Type 0
IsLocal e = (has_prefix e.name ≡ false) × AreInDocument e.attributes × NodesLocal e.children
