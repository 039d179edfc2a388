-- What an envelope answers (SOAP 1.1, sections 4.4 and 7.1: faults, and the response of a call).
use Rattle.std.specs.Prelude.{◌≡◌, ◌⊎◌, ℕ, Bool, true, false, Option, None, Some, IsSomeAnd, List, ◌++◌, codes}
use Rattle.tree_grammar.specs.Elements.{Element, Event, events, IsShallow, IsTextWithin}
use Rattle.tree_grammar.specs.Document.{Doc}
use Rattle.document_tags.specs.OneChild.{only_child, only_element, plain_text}
use Rattle.os_io.specs.Limits.{most_reply}
use Rattle.soap_calls.specs.declared.fault.Answer.{Answer}
use Rattle.soap_calls.specs.declared.fault.Answer.TheVariants.{Return, Fault}
use Rattle.soap_calls.specs.Envelope.{held}

-- a call of `send` returns `true` or `false`, and the others any text
abbrev pub MayReturn : List ℕ → List ℕ → Type 0
MayReturn name text = name ≡ codes "send" → (text ≡ codes "true") ⊎ (text ≡ codes "false")

-- what a call of this name returns is this text
pub record IsReturnedText (name : List ℕ) (e : Element) (text : List ℕ) : Type 0 where
  pub named : e.name ≡ name ++ codes "Return"
  pub plain : plain_text e ≡ Some text
  pub may : MayReturn name text

-- what the one child element of this name says that has no element in it
abbrev pub plain_in : Option Element → Option (List ℕ)
plain_in None = None
plain_in (Some e) = plain_text e

abbrev pub plain_child : Element → List ℕ → Option (List ℕ)
plain_child e name = plain_in (only_child e name)

-- an element answers a call of this name: by its response, or by a fault
abbrev pub IsAnswer : List ℕ → Element → Answer → Type 0
IsAnswer name e (Return text) = (e.name ≡ name ++ codes "Response") × IsSomeAnd (only_element e) (λ v. IsReturnedText name v text)
IsAnswer name e (Fault code text) = (e.name ≡ codes "Fault") × (plain_child e (codes "faultcode") ≡ Some code) × (plain_child e (codes "faultstring") ≡ Some text)

-- this answer stands in the envelope
abbrev pub IsAnswerIn : List ℕ → Element → Answer → Type 0
IsAnswerIn name root a = IsSomeAnd (held root) (λ e. IsAnswer name e a)

-- the text that says yes or no
abbrev pub bool_text : Bool → List ℕ
bool_text true = codes "true"
bool_text false = codes "false"

-- the bytes are a document within the limits of a reply
pub record IsReplyDocument (bytes : List ℕ) (root : Element) : Type 0 where
  pub document : Doc bytes root
  pub short : IsTextWithin most_reply bytes
  pub shallow : IsShallow root

abbrev pub NoReplyDocument : List ℕ → Type 0
NoReplyDocument bytes = (root : Element) → IsReplyDocument bytes root → ⊥

-- these are the events of such a document
abbrev pub AreOfReply : List ℕ → List Event → Type 0
AreOfReply bytes told = (root : Element) × IsReplyDocument bytes root × (told ≡ events root)

-- the bytes answer a call of this name so
pub record IsReplyText (name bytes : List ℕ) (a : Answer) : Type 0 where
  pub root : Element
  pub document : IsReplyDocument bytes root
  pub is : IsAnswerIn name root a
