-- Bytes are one call, or refused in one way.
use Rattle.std.proofs.Common.{◌≡◌, ◌≢◌, ◌∙◌, inl, inr, ℕ, Option, None, Some, Result, Ok, Err, List, refl, ap, sym, subst}
use Rattle.std.specs.Prelude.{IfOk, IfErr, IsSome, IsSomeAnd}
use Rattle.tree_grammar.specs.Elements.{Element}
use Rattle.document_tags.proofs.OneDocument.{document_once, documents_apart}
use Rattle.document_tags.proofs.SomeAnd.{some_once, some_apart}
use Rattle.document_tags.proofs.UnlessMemory.{answered}
use Rattle.six_calls.specs.declared.call.CallKind.{CallKind}
use Rattle.six_calls.specs.declared.part.Part as given
use Rattle.six_calls.specs.declared.part.Part.TheVariants.{Osil, Osol, Ospl}
use Rattle.soap_calls.specs.declared.call.Parts.{Parts}
use Rattle.soap_calls.specs.declared.call.SoapCall.{SoapCall}
use Rattle.soap_calls.specs.declared.fault.SoapFault.{SoapFault}
use Rattle.soap_calls.specs.declared.fault.SoapFault.TheVariants.{Envelope, Call, Part, Memory}
use Rattle.six_calls.specs.Names.{kind_text}
use Rattle.six_calls.proofs.Names.{named_once}
use Rattle.soap_calls.specs.Envelope.{held}
use Rattle.soap_calls.specs.Calls.{part_of_call, AreParts, IsCall, IsCallIn, IsCallText}
use Rattle.soap_calls.specs.Refusals.{IsFirstRefused, IsElementRefused, IsRefused, CallFails}

same_some : {X : Type 0} (x y : X) → Some x ≡ Some y → x ≡ y
same_some x y e = let same : x ≡ y = cc in same

abbrev texts : List ℕ → List ℕ → List ℕ → Parts
texts osil osol ospl = record { osil = osil; osol = osol; ospl = ospl }

parts_once : (k : CallKind) (e : Element) (p q : Parts) → AreParts k e p → AreParts k e q → p ≡ q
parts_once k e p q a b =
    let osil : p.osil ≡ q.osil = same_some p.osil q.osil (sym a.osil ∙ b.osil) in
    let osol : p.osol ≡ q.osol = same_some p.osol q.osol (sym a.osol ∙ b.osol) in
    let ospl : p.ospl ≡ q.ospl = same_some p.ospl q.ospl (sym a.ospl ∙ b.ospl) in
    let same : texts p.osil p.osol p.ospl ≡ texts q.osil q.osol q.ospl = cc in
    same

kinds_are : (e : Element) (j k : CallKind) → e.name ≡ kind_text j → e.name ≡ kind_text k → j ≡ k
kinds_are e j k a b = named_once j k (sym a ∙ b)

call_once : (e : Element) (c d : SoapCall) → IsCall e c → IsCall e d → c ≡ d
call_once e c d a b =
    let kind : c.kind ≡ d.kind = kinds_are e c.kind d.kind a.named b.named in
    let parts : c.parts ≡ d.parts = parts_once d.kind e c.parts d.parts (subst (λ (k : CallKind). AreParts k e c.parts) kind a.are) b.are in
    λ i. record { kind = kind i; parts = parts i }

pub call_text_once : (bytes : List ℕ) (c d : SoapCall) → IsCallText bytes c → IsCallText bytes d → c ≡ d
call_text_once bytes c d a b = document_once IsCallIn (λ root. some_once IsCall call_once (held root)) bytes c d a b

-- a part that is refused isn't read
unread : (o : Option (List ℕ)) → IsSome o → o ≡ None → ⊥
unread o some none = let h : IsSome {T = List ℕ} None = subst (λ (x : Option (List ℕ)). IsSome x) none some in cc

first_once : (k : CallKind) (e : Element) (p q : given.Part) → IsFirstRefused k e p → IsFirstRefused k e q → p ≡ q
first_once k e Osil Osil a b = refl
first_once k e Osol Osol a b = refl
first_once k e Ospl Ospl a b = refl
first_once k e Osil Osol a b = absurd (unread (part_of_call k e Osil) b.0 a)
first_once k e Osil Ospl a b = absurd (unread (part_of_call k e Osil) b.0 a)
first_once k e Osol Osil a b = absurd (unread (part_of_call k e Osil) a.0 b)
first_once k e Ospl Osil a b = absurd (unread (part_of_call k e Osil) a.0 b)
first_once k e Osol Ospl a b = absurd (unread (part_of_call k e Osol) b.1 a.1)
first_once k e Ospl Osol a b = absurd (unread (part_of_call k e Osol) a.1 b.1)

parts_refused_once : (e : Element) (p q : given.Part) → IsElementRefused e (Part p) → IsElementRefused e (Part q) → p ≡ q
parts_refused_once e p q (j, named, a) (k, called, b) = first_once k e p q (subst (λ (i : CallKind). IsFirstRefused i e p) (kinds_are e j k named called) a) b

element_refused_once : (e : Element) (f g : SoapFault) → IsElementRefused e f → IsElementRefused e g → f ≡ g
element_refused_once e Envelope g a b = absurd a
element_refused_once e Memory g a b = absurd a
element_refused_once e (Call n) Envelope a b = absurd b
element_refused_once e (Call n) Memory a b = absurd b
element_refused_once e (Call n) (Call m) a b = ap (λ (t : List ℕ). Call t) (a.1 ∙ sym b.1)
element_refused_once e (Call n) (Part q) a b = absurd (a.0 b.0 b.1)
element_refused_once e (Part p) Envelope a b = absurd b
element_refused_once e (Part p) Memory a b = absurd b
element_refused_once e (Part p) (Call m) a b = absurd (b.0 a.0 a.1)
element_refused_once e (Part p) (Part q) a b = ap (λ (x : given.Part). Part x) (parts_refused_once e p q a b)

not_in : (o : Option Element) (P : Element → Type 0) → o ≡ None → IsSomeAnd o P → ⊥
not_in None P none h = h
not_in (Some e) P none h = cc

refused_once : (root : Element) (f g : SoapFault) → IsRefused root f → IsRefused root g → f ≡ g
refused_once root f g (inl a) (inl b) = a.0 ∙ sym b.0
refused_once root f g (inl a) (inr b) = absurd (not_in (held root) (λ e. IsElementRefused e g) a.1 b)
refused_once root f g (inr a) (inl b) = absurd (not_in (held root) (λ e. IsElementRefused e f) b.1 a)
refused_once root f g (inr a) (inr b) = some_once IsElementRefused element_refused_once (held root) f g a b

pub refusal_once : (bytes : List ℕ) (f g : SoapFault) → f ≢ Memory → g ≢ Memory → CallFails bytes f → CallFails bytes g → f ≡ g
refusal_once bytes f g other another (inl h) k = absurd (other h)
refusal_once bytes f g other another (inr h) (inl k) = absurd (another k)
refusal_once bytes f g other another (inr (inl h)) (inr (inl k)) = h.0 ∙ sym k.0
refusal_once bytes f g other another (inr (inl h)) (inr (inr k)) = absurd (h.1 k.root k.document)
refusal_once bytes f g other another (inr (inr h)) (inr (inl k)) = absurd (k.1 h.root h.document)
refusal_once bytes f g other another (inr (inr h)) (inr (inr k)) = document_once IsRefused refused_once bytes f g h k

-- the first part that is refused isn't one of those read
first_apart : (k : CallKind) (e : Element) (p : given.Part) (ps : Parts) → AreParts k e ps → IsFirstRefused k e p → ⊥
first_apart k e Osil ps are a = let clash : None ≡ Some ps.osil = sym a ∙ are.osil in cc
first_apart k e Osol ps are a = let clash : None ≡ Some ps.osol = sym a.1 ∙ are.osol in cc
first_apart k e Ospl ps are a = let clash : None ≡ Some ps.ospl = sym a.2 ∙ are.ospl in cc

element_apart : (e : Element) (c : SoapCall) (f : SoapFault) → IsCall e c → IsElementRefused e f → ⊥
element_apart e c Envelope is h = h
element_apart e c Memory is h = h
element_apart e c (Call n) is h = h.0 c.kind is.named
element_apart e c (Part p) is (k, named, first) = first_apart k e p c.parts (subst (λ (i : CallKind). AreParts i e c.parts) (kinds_are e c.kind k is.named named) is.are) first

root_apart : (root : Element) (c : SoapCall) (f : SoapFault) → IsCallIn root c → IsRefused root f → ⊥
root_apart root c f is (inl h) = not_in (held root) (λ e. IsCall e c) h.1 is
root_apart root c f is (inr h) = some_apart IsCall IsElementRefused element_apart (held root) c f is h

pub refusal_apart : (bytes : List ℕ) (c : SoapCall) (f : SoapFault) → IsCallText bytes c → CallFails bytes f → f ≡ Memory
refusal_apart bytes c f is (inl h) = h
refusal_apart bytes c f is (inr (inl h)) = absurd (h.1 is.root is.document)
refusal_apart bytes c f is (inr (inr h)) = absurd (documents_apart IsCallIn IsRefused root_apart bytes c f is h)

-- bytes that are a call are answered by it
pub call_answers : (bytes : List ℕ) (c : SoapCall) (r : Result SoapCall SoapFault) → IsCallText bytes c → IfOk r (IsCallText bytes) → IfErr r (CallFails bytes) → r ≢ Err Memory → r ≡ Ok c
call_answers bytes c r is = answered Memory (IsCallText bytes) (CallFails bytes) (call_text_once bytes) (λ f. refusal_apart bytes c f is) c r is
