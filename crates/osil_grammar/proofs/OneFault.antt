-- Bytes are refused in one way, and told of in one text, or stand for an instance.
use Rattle.osil_grammar.proofs.Words.{◌≡◌, ◌≢◌, ◌∙◌, ℕ, List, refl, ap, sym, subst, codes, document_limit, Parts, OsilFault, IsInstanceText, DecodeFails, AreAlike, IsTreeText, IsFaultText, told_refusal}
use Rattle.doc_tree.specs.declared.TreeFault.{TreeFault}
use Rattle.doc_tree.proofs.OneRefusal.{one_refusal}
use Rattle.document_tags.proofs.FaultTexts.{tree_text_once}
use Rattle.osil_grammar.specs.declared.fault.OsilFault.TheVariants.{Tree, Refused, Memory}
use Rattle.osil_grammar.specs.Refusals as refusals
use Rattle.osil_grammar.specs.Texts.{refusal_text}
use Rattle.osil_grammar.proofs.OneDocument.{text_refused_once, text_not_both}

pub faults_alike : (bytes : List ℕ) (f g : OsilFault) → f ≢ Memory → g ≢ Memory → DecodeFails bytes f → DecodeFails bytes g → AreAlike f g
faults_alike bytes (Tree f) (Tree g) one other h k = one_refusal document_limit bytes f g h.0 k.0
faults_alike bytes (Tree f) (Refused q m) one other h k = absurd (h.1 k.root k.document)
faults_alike bytes (Refused r n) (Tree g) one other h k = absurd (k.1 h.root h.document)
faults_alike bytes (Refused r n) (Refused q m) one other h k = text_refused_once bytes (told_refusal r) (told_refusal q) n m h k
faults_alike bytes Memory g one other h k = absurd (one refl)
faults_alike bytes f Memory one other h k = absurd (other refl)

alike_told : (f g : OsilFault) (s t : List ℕ) → AreAlike f g → IsFaultText f s → IsFaultText g t → s ≡ t
alike_told (Tree f) (Tree g) s t same a b = tree_text_once (codes "osil") g s t (subst (λ (e : TreeFault). IsTreeText e s) same a) b
alike_told (Refused r n) (Refused q m) s t same a b = a ∙ ap (λ (x : refusals.Refusal). refusal_text x n) same.0 ∙ ap (λ (k : ℕ). refusal_text (told_refusal q) k) same.1 ∙ sym b
alike_told Memory g s t same a b = absurd a
alike_told f g s t same a b = absurd same

has_text : (f : OsilFault) (s : List ℕ) → IsFaultText f s → f ≢ Memory
has_text Memory s a same = a
has_text f s a same = cc

pub told_once : (bytes : List ℕ) (f g : OsilFault) (s t : List ℕ) → DecodeFails bytes f → DecodeFails bytes g → IsFaultText f s → IsFaultText g t → s ≡ t
told_once bytes f g s t h k a b = alike_told f g s t (faults_alike bytes f g (has_text f s a) (has_text g t b) h k) a b

pub never_both : (bytes : List ℕ) (p : Parts) (f : OsilFault) → IsInstanceText bytes p → DecodeFails bytes f → f ≡ Memory
never_both bytes p (Tree f) is h = absurd (h.1 is.root is.document)
never_both bytes p (Refused r n) is h = absurd (text_not_both bytes p (told_refusal r) n is h)
never_both bytes p Memory is h = refl
