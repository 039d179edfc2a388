-- What a text becomes that is written event by event: which events are still to come for it to be a whole text.
use Rattle.std.specs.Prelude.{◌≡◌, ℕ, ◌<◌, ◌≤◌, Bool, true, false, List, [], ◌∷◌, ◌++◌, length}
use Rattle.os_io.specs.Limits.{most_bytes}
use Rattle.tree_grammar.specs.Elements.{Attribute, Event, Open}
use Rattle.tree_grammar.specs.WrittenText.{written_attributes, written_events}
use Rattle.tree_writing.specs.declared.text_writer.TextWriter.{TextWriter}

-- the text is what was kept and then the rest; or it is longer than a document may be, and nothing is kept
abbrev pub IsFront : (passed : Bool) → (kept rest text : List ℕ) → Type 0
IsFront false kept rest text = (text ≡ kept ++ rest) × (length kept ≤ most_bytes)
IsFront true kept rest text = (most_bytes < length text) × (kept ≡ [])

-- with these events still to come it becomes this text
abbrev pub Awaits : TextWriter → List Event → List ℕ → Type 0
Awaits w events text = IsFront w.passed w.out.text (written_events w.is_open events) text

-- a start tag is open, unless the text is too long already
abbrev pub IsInTag : (passed is_open : Bool) → Type 0
IsInTag false is_open = is_open ≡ true
IsInTag true is_open = Unit {0}

-- with these attributes of the open start tag, and these events behind them, it becomes this text
abbrev pub AwaitsInTag : TextWriter → List Attribute → List Event → List ℕ → Type 0
AwaitsInTag w attributes events text = IsInTag w.passed w.is_open × IsFront w.passed w.out.text (written_attributes attributes (written_events true events)) text

-- this event was written, whatever comes behind it
abbrev pub WritesEvent : (old new : TextWriter) → Event → Type 0
WritesEvent old new event = (events : List Event) (text : List ℕ) → Awaits old (event ∷ events) text → Awaits new events text

-- an element was begun, whatever its attributes are
abbrev pub BeginsTag : (old new : TextWriter) → List ℕ → Type 0
BeginsTag old new name = (attributes : List Attribute) (events : List Event) (text : List ℕ) → Awaits old (Open name attributes ∷ events) text → AwaitsInTag new attributes events text

-- these attributes were written, whatever comes behind them
abbrev pub AddsAttributes : (old new : TextWriter) → List Attribute → Type 0
AddsAttributes old new more = (attributes : List Attribute) (events : List Event) (text : List ℕ) → AwaitsInTag old (more ++ attributes) events text → AwaitsInTag new attributes events text
