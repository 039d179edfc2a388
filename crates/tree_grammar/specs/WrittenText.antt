-- The text that an element is written as: well-formed XML 1.0 in UTF-8, without white space of its own.
use Rattle.std.specs.Prelude.{ℕ, Bool, true, false, cond, ◌==◌, List, [], ◌∷◌, ◌++◌, flat_map, codes}
use Rattle.tree_grammar.specs.Elements.{Attribute, Nodes, none, element, chars, Element, Event, Open, Chars, Close}

-- A character of text: `&`, `<`, `>` and the carriage return are written as references (XML 1.0, sections 2.4 and 2.11).
abbrev pub escaped_char : ℕ → List ℕ
escaped_char c = cond (c == 38) (codes "&amp;") (cond (c == 60) (codes "&lt;") (cond (c == 62) (codes "&gt;") (cond (c == 13) (codes "&#13;") (c ∷ []))))

-- A text.
abbrev pub escaped : List ℕ → List ℕ
escaped text = flat_map escaped_char text

-- A character of an attribute's value: the quote, the tab and the line feed too (sections 2.3 and 3.3.3).
abbrev pub escaped_value_char : ℕ → List ℕ
escaped_value_char c = cond (c == 34) (codes "&quot;") (cond (c == 9) (codes "&#9;") (cond (c == 10) (codes "&#10;") (escaped_char c)))

-- An attribute's value.
abbrev pub escaped_value : List ℕ → List ℕ
escaped_value value = flat_map escaped_value_char value

-- The declaration (production 23).
abbrev pub written_declaration : List ℕ
written_declaration = codes "<?xml version=\"1.0\" encoding=\"UTF-8\"?>"

-- The attributes, each after a space (production 41), and then k.
abbrev pub written_attributes : List Attribute → List ℕ → List ℕ
written_attributes [] k = k
written_attributes (a ∷ more) k = 32 ∷ (a.name ++ (61 ∷ 34 ∷ (escaped_value a.value ++ (34 ∷ written_attributes more k))))

-- What stands before the children (productions 39 to 44): the end of a start tag, if there are any.
abbrev pub children_begin : Nodes → List ℕ → List ℕ
children_begin none k = k
children_begin (element name attributes children more) k = 62 ∷ k
children_begin (chars text more) k = 62 ∷ k

-- What stands after the children: an end tag, or the end of an empty-element tag.
abbrev pub children_end : Nodes → List ℕ → List ℕ → List ℕ
children_end none name k = 47 ∷ 62 ∷ k
children_end (element n attributes children more) name k = 60 ∷ 47 ∷ (name ++ (62 ∷ k))
children_end (chars text more) name k = 60 ∷ 47 ∷ (name ++ (62 ∷ k))

-- The nodes' text, and then k: a childless element is an empty-element tag.
abbrev pub written_nodes : Nodes → List ℕ → List ℕ
written_nodes none k = k
written_nodes (element name attributes children more) k = 60 ∷ (name ++ written_attributes attributes (children_begin children (written_nodes children (children_end children name (written_nodes more k)))))
written_nodes (chars text more) k = escaped text ++ written_nodes more k

-- The element's text, without and with the declaration.
abbrev pub written_element : Element → List ℕ
written_element e = written_nodes (element e.name e.attributes e.children none) []

-- The whole text.
abbrev pub written : Element → List ℕ
written e = written_declaration ++ written_element e

-- The end of a start tag that is still open.
abbrev pub tag_end : Bool → List ℕ → List ℕ
tag_end false k = k
tag_end true k = 62 ∷ k

-- The end of an element, whose start tag may still be open.
abbrev pub element_end : Bool → List ℕ → List ℕ → List ℕ
element_end false name k = 60 ∷ 47 ∷ (name ++ (62 ∷ k))
element_end true name k = 47 ∷ 62 ∷ k

-- The same text from the events in document order; whether a start tag is still open.
abbrev pub written_events : Bool → List Event → List ℕ
written_events is_open [] = []
written_events is_open (Open name attributes ∷ more) = tag_end is_open (60 ∷ (name ++ written_attributes attributes (written_events true more)))
written_events is_open (Chars text ∷ more) = tag_end is_open (escaped text ++ written_events false more)
written_events is_open (Close name ∷ more) = element_end is_open name (written_events false more)
