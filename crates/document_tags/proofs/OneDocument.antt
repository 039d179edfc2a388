-- Bytes are one document, or refused in one way, if roots are.
use Rattle.std.proofs.Common.{◌≡◌, ◌∙◌, inl, inr, ℕ, List, ap, sym, subst}
use Rattle.tree_grammar.specs.Elements.{Element}
use Rattle.doc_tree.specs.declared.fault.TreeFault.{TreeFault}
use Rattle.doc_tree.proofs.OneRefusal.{one_refusal}
use Rattle.doc_tree.proofs.OneTree.{one_tree}
use Rattle.document_tags.specs.Texts.{document_limit, IsDocument}
use Rattle.document_tags.specs.Documents.{OfDocument, FailsAsDocument}

pub one_root : (bytes : List ℕ) (a b : Element) → IsDocument bytes a → IsDocument bytes b → a ≡ b
one_root bytes a b is at = one_tree bytes a b is.document at.document

-- what holds of roots at most once holds so of bytes
pub document_once : {X : Type 0} (Is : Element → X → Type 0) → ((root : Element) (x y : X) → Is root x → Is root y → x ≡ y) → (bytes : List ℕ) (x y : X) → OfDocument Is bytes x → OfDocument Is bytes y → x ≡ y
document_once Is once bytes x y h k = once k.root x y (subst (λ (e : Element). Is e x) (one_root bytes h.root k.root h.document k.document) h.is) k.is

-- what never holds together of a root doesn't of bytes
pub documents_apart : {X Y : Type 0} (Is : Element → X → Type 0) (Or : Element → Y → Type 0) → ((root : Element) (x : X) (y : Y) → Is root x → Or root y → ⊥) → (bytes : List ℕ) (x : X) (y : Y) → OfDocument Is bytes x → OfDocument Or bytes y → ⊥
documents_apart Is Or apart bytes x y h k = apart k.root x y (subst (λ (e : Element). Is e x) (one_root bytes h.root k.root h.document k.document) h.is) k.is

-- bytes are refused in one way
pub fails_once : {F : Type 0} (tree : TreeFault → F) (IsRefused : Element → F → Type 0) → ((root : Element) (f g : F) → IsRefused root f → IsRefused root g → f ≡ g) → (bytes : List ℕ) (f g : F) → FailsAsDocument tree IsRefused bytes f → FailsAsDocument tree IsRefused bytes g → f ≡ g
fails_once tree IsRefused once bytes f g (inl (t, e, h)) (inl (s, d, k)) = e ∙ ap tree (one_refusal document_limit bytes t s h.refusal k.refusal) ∙ sym d
fails_once tree IsRefused once bytes f g (inl (t, e, h)) (inr k) = absurd (h.none k.root k.document)
fails_once tree IsRefused once bytes f g (inr h) (inl (s, d, k)) = absurd (k.none h.root h.document)
fails_once tree IsRefused once bytes f g (inr h) (inr k) = document_once IsRefused once bytes f g h k

-- and those of which something else holds aren't
pub fails_apart : {X F : Type 0} (tree : TreeFault → F) (Is : Element → X → Type 0) (IsRefused : Element → F → Type 0) → ((root : Element) (x : X) (f : F) → Is root x → IsRefused root f → ⊥) → (bytes : List ℕ) (x : X) (f : F) → OfDocument Is bytes x → FailsAsDocument tree IsRefused bytes f → ⊥
fails_apart tree Is IsRefused apart bytes x f is (inl (t, e, h)) = h.none is.root is.document
fails_apart tree Is IsRefused apart bytes x f is (inr h) = documents_apart Is IsRefused apart bytes x f is h
