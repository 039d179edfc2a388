-- Elements that hold characters alone, and documents within the limits.
use Rattle.std.specs.Prelude.{◌≡◌, ◌⊎◌, ℕ, List, []}
use Rattle.tree_grammar.specs.Elements.{Nodes, none, chars, Element, IsShallow, IsTextWithin}
use Rattle.tree_grammar.specs.Document.{Doc}
use Rattle.os_io.specs.Limits.{most_bytes}

-- characters alone, or nothing
abbrev pub HoldsText : Nodes → List ℕ → Type 0
HoldsText content text = ((content ≡ none) × (text ≡ [])) ⊎ (content ≡ chars text none)

-- the greatest length of a document in bytes
abbrev pub document_limit : ℕ
document_limit = most_bytes

-- the bytes are a document within the limits, and hold this element
pub record IsDocument (bytes : List ℕ) (root : Element) : Type 0 where
  pub document : Doc bytes root
  pub short : IsTextWithin document_limit bytes
  pub shallow : IsShallow root
