-- Answers in envelopes.
use Rattle.std.proofs.Common.{◌≡◌, ◌∙◌, ℕ, Bool, true, false, bytes_eq, Option, None, Some, Result, List, ◌++◌, length, length-append, refl, sym, subst, ap, arith}
use Rattle.std.specs.Prelude.{IfOk, IsSomeAnd, codes}
use Rattle.std.proofs.lemmas.Slice.Eq.{bytes_eq-Decides}
use Rattle.tree_grammar.specs.Elements.{Element}
use Rattle.document_tags.specs.declared.spot.Spot.{Spot}
use Rattle.document_tags.specs.Spots.{StandsAt, IsSpot}
use Rattle.document_tags.specs.OneChild.{IsOnly, only_element, plain_text}
use Rattle.soap_calls.specs.declared.fault.Answer.{Answer}
use Rattle.soap_calls.specs.declared.fault.Answer.TheVariants.{Return, Fault}
use Rattle.soap_calls.specs.Replies.{IsReturnedText, plain_in, plain_child, IsAnswer}

-- what a test of names says
pub called : (name other : List ℕ) (b : Bool) → b ≡ bytes_eq name other → b ≡ true → name ≡ other
called name other b is on = (bytes_eq-Decides name other).0 (sym is ∙ on)

pub not_called : (name other : List ℕ) (b : Bool) → b ≡ bytes_eq name other → b ≡ false → name ≡ other → ⊥
not_called name other b is off same = let on : b ≡ true = is ∙ (bytes_eq-Decides name other).1 same in cc

-- a response is no fault
pub response_no_fault : (e name : List ℕ) → e ≡ codes "Fault" → e ≡ name ++ codes "Response" → ⊥
response_no_fault e name fault response =
    let five : length e ≡ 5 = ap (λ (l : List ℕ). length l) fault in
    let eight : length e ≡ length (name ++ codes "Response") = ap (λ (l : List ℕ). length l) response in
    omega (arith, five, eight, length-append name (codes "Response"))

-- a response without a value
pub no_value : (name : List ℕ) (e : Element) (o : Option Element) → e.name ≡ name ++ codes "Response" → only_element e ≡ o → ((text : List ℕ) → IsSomeAnd o (λ v. IsReturnedText name v text) → ⊥) → (a : Answer) → IsAnswer name e a → ⊥
no_value name e o named is none (Return text) says = none text (subst (λ (x : Option Element). IsSomeAnd x (λ v. IsReturnedText name v text)) is says.1)
no_value name e o named is none (Fault code text) says = response_no_fault e.name name says.0 named

none_held : (o : Option Element) (text name : List ℕ) → IsSpot None o → IsSomeAnd o (λ v. IsReturnedText name v text) → ⊥
none_held None text name is says = says
none_held (Some v) text name is says = is

pub no_sole : (name : List ℕ) (e : Element) → e.name ≡ name ++ codes "Response" → IsSpot None (only_element e) → (a : Answer) → IsAnswer name e a → ⊥
no_sole name e named none = no_value name e (only_element e) named refl (λ text. none_held (only_element e) text name none)

value_none : (o : Option Element) (s : Spot) (text name : List ℕ) → IsSpot (Some s) o → ((v : Element) → StandsAt s v → IsReturnedText name v text → ⊥) → IsSomeAnd o (λ v. IsReturnedText name v text) → ⊥
value_none None s text name is none says = says
value_none (Some v) s text name is none says = none v is says

pub bad_value : (name : List ℕ) (e : Element) (s : Spot) → e.name ≡ name ++ codes "Response" → IsSpot (Some s) (only_element e) → ((v : Element) → StandsAt s v → (text : List ℕ) → IsReturnedText name v text → ⊥) → (a : Answer) → IsAnswer name e a → ⊥
bad_value name e s named is none = no_value name e (only_element e) named refl (λ text. value_none (only_element e) s text name is (λ v stands. none v stands text))

value_some : (o : Option Element) (s : Spot) (text name : List ℕ) → IsSpot (Some s) o → ((v : Element) → StandsAt s v → IsReturnedText name v text) → IsSomeAnd o (λ v. IsReturnedText name v text)
value_some None s text name is says = absurd is
value_some (Some v) s text name is says = says v is

pub returns_value : (name : List ℕ) (e : Element) (s : Spot) (text : List ℕ) → e.name ≡ name ++ codes "Response" → IsSpot (Some s) (only_element e) → ((v : Element) → StandsAt s v → IsReturnedText name v text) → IsAnswer name e (Return text)
returns_value name e s text named is says = (named, value_some (only_element e) s text name is says)

-- what isn't plain is no value
pub not_plain : (name : List ℕ) (e : Element) → plain_text e ≡ None → (text : List ℕ) → IsReturnedText name e text → ⊥
not_plain name e none text says = let clash : None ≡ Some text = sym none ∙ says.plain in cc

pub same_plain : (name : List ℕ) (e : Element) (t text : List ℕ) → plain_text e ≡ Some t → IsReturnedText name e text → text ≡ t
same_plain name e t text is says = let same : Some text ≡ Some t = sym says.plain ∙ is in let one : text ≡ t = cc in one

-- what a child says plainly
pub plain_none : (o : Option Element) → IsSpot None o → None ≡ plain_in o
plain_none None is = refl
plain_none (Some e) is = absurd is

pub plain_some : {E : Type 0} (o : Option Element) (s : Spot) (r : Result (Option (List ℕ)) E) → IsSpot (Some s) o → ((e : Element) → StandsAt s e → IfOk r (λ t. t ≡ plain_text e)) → IfOk r (λ t. t ≡ plain_in o)
plain_some None s r is says = absurd is
plain_some (Some e) s r is says = says e is

-- a fault without its code or its text
pub no_code : (name : List ℕ) (e : Element) → e.name ≡ codes "Fault" → None ≡ plain_child e (codes "faultcode") → (a : Answer) → IsAnswer name e a → ⊥
no_code name e named none (Return text) says = response_no_fault e.name name named says.0
no_code name e named none (Fault code text) says = let clash : None ≡ Some code = none ∙ says.1 in cc

pub no_text : (name : List ℕ) (e : Element) → e.name ≡ codes "Fault" → None ≡ plain_child e (codes "faultstring") → (a : Answer) → IsAnswer name e a → ⊥
no_text name e named none (Return text) says = response_no_fault e.name name named says.0
no_text name e named none (Fault code text) says = let clash : None ≡ Some text = none ∙ says.2 in cc

-- neither a response nor a fault
pub no_answer : (name : List ℕ) (e : Element) → (e.name ≡ codes "Fault" → ⊥) → (e.name ≡ name ++ codes "Response" → ⊥) → (a : Answer) → IsAnswer name e a → ⊥
no_answer name e fault response (Return text) says = response says.0
no_answer name e fault response (Fault code text) says = fault says.0

-- the answer of what is held
pub held_answers : {E : Type 0} (name : List ℕ) (o : Option Element) (s : Spot) (r : Result (Option Answer) E) → IsSpot (Some s) o → ((e : Element) → StandsAt s e → IfOk r (IsOnly (IsAnswer name e))) → IfOk r (IsOnly (λ a. IsSomeAnd o (λ e. IsAnswer name e a)))
held_answers name None s r is h = absurd is
held_answers name (Some e) s r is h = h e is

pub none_answers : (name : List ℕ) (o : Option Element) (a : Answer) → IsSpot None o → IsSomeAnd o (λ e. IsAnswer name e a) → ⊥
none_answers name None a is says = says
none_answers name (Some e) a is says = is
