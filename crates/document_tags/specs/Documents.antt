-- What bytes are as documents: of which something holds, or which are refused as no document, or as one.
use Rattle.std.specs.Prelude.{◌≡◌, ◌⊎◌, ℕ, List}
use Rattle.tree_grammar.specs.Elements.{Element}
use Rattle.doc_tree.specs.Refusals.{IsRefusal}
use Rattle.doc_tree.specs.declared.fault.TreeFault.{TreeFault}
use Rattle.document_tags.specs.Texts.{document_limit, IsDocument}

-- the bytes are a document within the limits, of whose root this holds
pub record OfDocument {X : Type 0} (Is : Element → X → Type 0) (bytes : List ℕ) (x : X) : Type 0 where
  pub root : Element
  pub document : IsDocument bytes root
  pub is : Is root x

-- the bytes are no document within the limits, and this is the tree's own refusal
pub record TreeFails (bytes : List ℕ) (fault : TreeFault) : Type 0 where
  pub refusal : IsRefusal document_limit bytes fault
  pub none : (root : Element) → IsDocument bytes root → ⊥

-- the bytes are refused: as no document, or as a document that is refused
abbrev pub FailsAsDocument : {F : Type 0} → (TreeFault → F) → (Element → F → Type 0) → List ℕ → F → Type 0
FailsAsDocument {F} tree IsRefused bytes fault = ((t : TreeFault) × (fault ≡ tree t) × TreeFails bytes t) ⊎ OfDocument IsRefused bytes fault
