-- What is known of all documents that are read: their texts are of characters of XML.
use Rattle.std.specs.Prelude.{ℕ, ◌<◌, List, ◌∷◌, ◌++◌}
use Rattle.tree_grammar.specs.Characters.{IsXmlText}
use Rattle.tree_grammar.specs.Document.{Doc}
use Rattle.tree_grammar.specs.Elements.{Element}
use Rattle.document_tags.specs.Characters.{IsOfCharacters}

-- all that stands in a document, and each part of a text between characters of ASCII
pub record TextsAreOfCharacters : Type 0 where
  pub root : (bytes : List ℕ) (root : Element) → Doc bytes root → IsOfCharacters root
  pub part : (before : List ℕ) (c : ℕ) (behind : List ℕ) → c < 128 → IsXmlText (before ++ (c ∷ behind)) → IsXmlText before × IsXmlText behind
