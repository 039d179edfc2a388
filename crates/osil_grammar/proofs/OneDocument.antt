-- A document stands for one instance or is refused in one way, and so do its bytes.
use Rattle.osil_grammar.proofs.Words.{◌≡◌, ◌∙◌, ℕ, List, ap, sym, subst, Element, Parts, Refusal, start, ToldRefusal, osil, marks, instance_of, StandsFor, IsAccepted, IsRefused, IsInstanceText, IsRefusedText}
use Rattle.doc_tree.proofs.OneTree.{one_tree}
use Rattle.tag_tests.proofs.Forms.{taken_once, refused_once, not_both}
use Rattle.osil_grammar.proofs.OneState.{leaves_one}

pub root_not_both : (root : Element) (r : Refusal) (n : ℕ) → IsAccepted root → IsRefused root r n → ⊥
root_not_both root r n a b = not_both osil leaves_one start (marks root) a.0 (record { refusal = r; at = n }) a.1 b

pub root_refused_once : (root : Element) (r q : Refusal) (n m : ℕ) → IsRefused root r n → IsRefused root q m → (r ≡ q) × (n ≡ m)
root_refused_once root r q n m a b =
    let same = refused_once osil leaves_one start (marks root) (record { refusal = r; at = n }) (record { refusal = q; at = m }) a b in
    (ap (λ (t : ToldRefusal). t.refusal) same, ap (λ (t : ToldRefusal). t.at) same)

pub root_means_once : (root : Element) (p q : Parts) → StandsFor root p → StandsFor root q → p ≡ q
root_means_once root p q a b = a.2 ∙ ap instance_of (taken_once osil leaves_one start (marks root) a.0 b.0 a.1 b.1) ∙ sym b.2

-- bytes hold one root
pub text_refused_once : (text : List ℕ) (r q : Refusal) (n m : ℕ) → IsRefusedText text r n → IsRefusedText text q m → (r ≡ q) × (n ≡ m)
text_refused_once text r q n m a b =
    let same : a.root ≡ b.root = one_tree text a.root b.root a.document.document b.document.document in
    root_refused_once b.root r q n m (subst (λ (e : Element). IsRefused e r n) same a.refused) b.refused

pub text_not_both : (text : List ℕ) (p : Parts) (r : Refusal) (n : ℕ) → IsInstanceText text p → IsRefusedText text r n → ⊥
text_not_both text p r n a b =
    let same : b.root ≡ a.root = one_tree text b.root a.root b.document.document a.document.document in
    root_not_both a.root r n (a.means.0, a.means.1) (subst (λ (e : Element). IsRefused e r n) same b.refused)

pub text_means_once : (text : List ℕ) (p q : Parts) → IsInstanceText text p → IsInstanceText text q → p ≡ q
text_means_once text p q a b =
    let same : a.root ≡ b.root = one_tree text a.root b.root a.document.document b.document.document in
    root_means_once b.root p q (subst (λ (r : Element). StandsFor r p) same a.means) b.means
