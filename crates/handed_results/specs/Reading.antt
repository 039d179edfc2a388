-- What the options' document hands in (Optimization Services option language, the element `other` of `otherOptions`).
use Rattle.std.specs.Prelude.{◌≡◌, ℕ, List}
use Rattle.tree_grammar.specs.Elements.{Element, events}
use Rattle.doc_tree.specs.Marks.{spread}
use Rattle.document_tags.specs.Texts.{IsDocument}
use Rattle.osol_grammar.specs.Meaning.{IsBlank}
use Rattle.handed_results.specs.declared.handed.Handed.{Handed}
use Rattle.handed_results.specs.declared.handed.Handed.TheVariants.{Nothing}
use Rattle.handed_results.specs.Marked.{bare, start, left}

-- what the document with this root hands in: what its marks leave, without white space round it
abbrev pub handed_by : Element → Handed
handed_by root = bare (left start (spread (events root))).handed

-- if the bytes are a document, it hands in this
abbrev pub MayHandIn : List ℕ → Handed → Type 0
MayHandIn bytes h = (root : Element) → IsDocument bytes root → h ≡ handed_by root

-- the text of options hands in this: what its document does, and nothing where it is blank
pub record HandsIn (bytes : List ℕ) (h : Handed) : Type 0 where
  pub document : (IsBlank bytes → ⊥) → MayHandIn bytes h
  pub blank : IsBlank bytes → h ≡ Nothing
