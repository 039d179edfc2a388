-- Characters of XML that are kept behind others are so too.
use Rattle.std.proofs.Common.{ℕ, Bool, true, false, List}
use Rattle.tree_grammar.specs.Characters.{IsXmlText}
use Rattle.tree_grammar.proofs.XmlTexts.{text_append}
use Rattle.tag_tests.specs.Characters.{kept}

pub kept_xml : (b : Bool) (t cs : List ℕ) → IsXmlText t → IsXmlText cs → IsXmlText (kept b t cs)
kept_xml true t cs before more = text_append t cs before more
kept_xml false t cs before more = before
