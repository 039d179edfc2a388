-- A document says one kind of options, or is refused in one way, and so do bytes.
use Rattle.std.proofs.Common.{◌≡◌, ◌≢◌, ◌∙◌, inl, inr, ℕ, Result, Ok, Err, List, ap, ap₂, sym}
use Rattle.std.specs.Prelude.{IfOk, IfErr}
use Rattle.tree_grammar.specs.Elements.{Element}
use Rattle.document_tags.proofs.OneDocument.{document_once, fails_once, fails_apart}
use Rattle.document_tags.proofs.UnlessMemory.{fault_once, only_memory, answered}
use Rattle.document_tags.specs.Documents.{FailsAsDocument}
use Rattle.tag_tests.specs.Readers.{marks}
use Rattle.tag_tests.proofs.Forms.{taken_once, not_both}
use Rattle.tag_tests.proofs.Forms as forms
use Rattle.osol_grammar.specs.declared.fault.Refusal.{Refusal}
use Rattle.osol_grammar.specs.declared.fault.OsolFault.{OsolFault}
use Rattle.osol_grammar.specs.declared.fault.OsolFault.TheVariants.{Tree, Refused, Memory}
use Rattle.osol_grammar.specs.declared.options.Options.{Options}
use Rattle.osol_grammar.specs.declared.parse_state.ParseState.{ParseState as State}
use Rattle.osol_grammar.specs.declared.parse_state.Refused as told
use Rattle.osol_grammar.specs.Table.{start}
use Rattle.osol_grammar.specs.Marked.{osol}
use Rattle.osol_grammar.specs.Meaning.{IsOptions, IsRefused, IsBlank, IsOptionsText}
use Rattle.osol_grammar.specs.Reading.{IsRefusalOfRoot, DecodeFails}
use Rattle.osol_grammar.proofs.OneState.{leaves_one}

pub options_once : (root : Element) (o p : Options) → IsOptions root o → IsOptions root p → o ≡ p
options_once root o p h k = h.2 ∙ ap (λ (z : State). z.options) (taken_once osol leaves_one start (marks root) h.0 k.0 h.1 k.1) ∙ sym k.2

pub text_once : (bytes : List ℕ) (o p : Options) → IsOptionsText bytes o → IsOptionsText bytes p → o ≡ p
text_once bytes o p (inl h) (inl k) = h.1 ∙ sym k.1
text_once bytes o p (inr h) (inr k) = document_once IsOptions options_once bytes o p h.1 k.1
text_once bytes o p (inl h) (inr k) = absurd (k.0 h.0)
text_once bytes o p (inr h) (inl k) = absurd (h.0 k.0)

pub refused_once : (root : Element) (r q : Refusal) (n m : ℕ) → IsRefused root r n → IsRefused root q m → (r ≡ q) × (n ≡ m)
refused_once root r q n m h k =
    let same = forms.refused_once osol leaves_one start (marks root) (record { refusal = r; at = n }) (record { refusal = q; at = m }) h k in
    (ap (λ (t : told.Refused). t.refusal) same, ap (λ (t : told.Refused). t.at) same)

faults_once : (root : Element) (f g : OsolFault) → IsRefusalOfRoot root f → IsRefusalOfRoot root g → f ≡ g
faults_once root (Refused r n) (Refused q m) h k = let one = refused_once root r q n m h k in ap₂ (λ (x : Refusal) (y : ℕ). Refused x y) one.0 one.1
faults_once root (Tree t) g h k = absurd h
faults_once root Memory g h k = absurd h
faults_once root f (Tree t) h k = absurd k
faults_once root f Memory h k = absurd k

-- bytes that aren't blank, and say no options
abbrev IsNoText : List ℕ → OsolFault → Type 0
IsNoText bytes f = (IsBlank bytes → ⊥) × FailsAsDocument Tree IsRefusalOfRoot bytes f

pub refusal_once : (bytes : List ℕ) (f g : OsolFault) → f ≢ Memory → g ≢ Memory → DecodeFails bytes f → DecodeFails bytes g → f ≡ g
refusal_once bytes = fault_once Memory (IsNoText bytes) (λ f g h k. fails_once Tree IsRefusalOfRoot faults_once bytes f g h.1 k.1)

pub root_apart : (root : Element) (o : Options) (r : Refusal) (n : ℕ) → IsOptions root o → IsRefused root r n → ⊥
root_apart root o r n h k = not_both osol leaves_one start (marks root) h.0 (record { refusal = r; at = n }) h.1 k

fault_apart : (root : Element) (o : Options) (f : OsolFault) → IsOptions root o → IsRefusalOfRoot root f → ⊥
fault_apart root o (Tree t) h k = k
fault_apart root o (Refused r n) h k = root_apart root o r n h k
fault_apart root o Memory h k = k

pub text_apart : (bytes : List ℕ) (o : Options) (f : OsolFault) → IsOptionsText bytes o → DecodeFails bytes f → f ≡ Memory
text_apart bytes o f (inl h) = only_memory Memory (IsNoText bytes) f (λ k. k.0 h.0)
text_apart bytes o f (inr h) = only_memory Memory (IsNoText bytes) f (λ k. fails_apart Tree IsOptions IsRefusalOfRoot fault_apart bytes o f h.1 k.1)

-- what is answered of a text of options is those options
pub answer_is : (text : List ℕ) (o : Options) (r : Result Options OsolFault) → IsOptionsText text o → IfOk r (IsOptionsText text) → IfErr r (DecodeFails text) → r ≢ Err Memory → r ≡ Ok o
answer_is text o r is = answered Memory (IsOptionsText text) (DecodeFails text) (text_once text) (λ f. text_apart text o f is) o r is
