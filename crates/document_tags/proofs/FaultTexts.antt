-- What is wrong with a tree has one text.
use Rattle.std.proofs.Common.{◌≡◌, ◌∙◌, ℕ, List, sym}
use Rattle.doc_tree.specs.declared.fault.TreeFault.{TreeFault}
use Rattle.doc_tree.specs.declared.fault.TreeFault.TheVariants.{Malformed, Doctype, Encoding, Deep, Long, Memory}
use Rattle.document_tags.specs.Faults.{IsTreeText}

pub tree_text_once : (document : List ℕ) (f : TreeFault) (s t : List ℕ) → IsTreeText document f s → IsTreeText document f t → s ≡ t
tree_text_once document (Malformed at) s t h k = h ∙ sym k
tree_text_once document (Doctype at) s t h k = h ∙ sym k
tree_text_once document Encoding s t h k = h ∙ sym k
tree_text_once document (Deep at) s t h k = h ∙ sym k
tree_text_once document Long s t h k = h ∙ sym k
tree_text_once document Memory s t h k = absurd h
