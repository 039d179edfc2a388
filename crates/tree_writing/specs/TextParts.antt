-- The parts of a tree's text.
use Rattle.std.specs.Prelude.{ℕ, Bool, true, false, List, [], ◌∷◌, ◌++◌}
use Rattle.tree_grammar.specs.Elements.{Event, Open, Chars, Close}
use Rattle.tree_grammar.specs.WrittenText.{escaped, tag_end, element_end, written_attributes}

-- whether a start tag is open behind an event
abbrev pub is_open_behind : Event → Bool
is_open_behind (Open name attributes) = true
is_open_behind (Chars text) = false
is_open_behind (Close name) = false

-- the text of an event, where a start tag may be open before it
abbrev pub event_text : Bool → Event → List ℕ
event_text is_open (Open name attributes) = tag_end is_open (60 ∷ (name ++ written_attributes attributes []))
event_text is_open (Chars text) = tag_end is_open (escaped text)
event_text is_open (Close name) = element_end is_open name []
