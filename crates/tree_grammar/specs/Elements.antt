-- Elements of XML documents (XML 1.0, sections 2.1 and 3), as trees and in document order.
use Rattle.std.specs.Prelude.{ℕ, suc, ◌≤◌, max, List, [], ◌∷◌, length}

-- An attribute's name and its value (XML 1.0, section 3.1).
pub record Attribute : Type 0 where
  pub name : List ℕ
  pub value : List ℕ

-- Elements and character data in a row: an element with its attributes and children, or characters, and then what follows.
pub data Nodes : Type 0 where
  none : Nodes
  element : (name : List ℕ) → List Attribute → (children : Nodes) → (more : Nodes) → Nodes
  chars : (text : List ℕ) → (more : Nodes) → Nodes

-- An element: its name, its attributes in their order, and its children.
pub record Element : Type 0 where
  pub name : List ℕ
  pub attributes : List Attribute
  pub children : Nodes

-- What comes next in document order: an element begins, a whole run of characters, the element of this name ends.
pub data Event : Type 0 where
  Open : (name : List ℕ) → List Attribute → Event
  Chars : (text : List ℕ) → Event
  Close : (name : List ℕ) → Event

-- The nodes in document order, and then k.
abbrev pub nodes_events : Nodes → List Event → List Event
nodes_events none k = k
nodes_events (element name attributes children more) k = Open name attributes ∷ nodes_events children (Close name ∷ nodes_events more k)
nodes_events (chars text more) k = Chars text ∷ nodes_events more k

-- The element in document order.
abbrev pub events : Element → List Event
events e = Open e.name e.attributes ∷ nodes_events e.children (Close e.name ∷ [])

-- How many elements stand in one another.
abbrev pub nodes_depth : Nodes → ℕ
nodes_depth none = 0
nodes_depth (element name attributes children more) = max (suc (nodes_depth children)) (nodes_depth more)
nodes_depth (chars text more) = nodes_depth more

-- The same of an element, which counts itself: a childless one has depth 1.
abbrev pub depth : Element → ℕ
depth e = suc (nodes_depth e.children)

-- No more elements stand in one another than may.
abbrev pub IsShallow : Element → Type 0
IsShallow e = depth e ≤ 32

-- The text has at most so many bytes.
abbrev pub IsTextWithin : ℕ → List ℕ → Type 0
IsTextWithin limit bytes = length bytes ≤ limit
