-- Which bytes are refused as calls, and why, and which answer no call.
use Rattle.std.specs.Prelude.{◌≡◌, ◌⊎◌, ℕ, None, IsSome, IsSomeAnd, List}
use Rattle.tree_grammar.specs.Elements.{Element}
use Rattle.document_tags.specs.Documents.{OfDocument}
use Rattle.document_tags.specs.Faults.{told_name}
use Rattle.document_tags.specs.Texts.{IsDocument}
use Rattle.six_calls.specs.declared.call.CallKind.{CallKind}
use Rattle.six_calls.specs.declared.part.Part as given
use Rattle.six_calls.specs.declared.part.Part.TheVariants.{Osil, Osol, Ospl}
use Rattle.soap_calls.specs.declared.fault.SoapFault.{SoapFault}
use Rattle.soap_calls.specs.declared.fault.SoapFault.TheVariants.{Envelope, Call, Part, Memory}
use Rattle.soap_calls.specs.declared.fault.Answer.{Answer}
use Rattle.soap_calls.specs.declared.fault.NotReply.{NotReply}
use Rattle.soap_calls.specs.declared.fault.NotReply.TheVariants as lost
use Rattle.six_calls.specs.Names.{kind_text}
use Rattle.soap_calls.specs.Envelope.{held}
use Rattle.soap_calls.specs.Calls.{part_of_call}
use Rattle.soap_calls.specs.Replies.{IsReplyText}

-- the first part that doesn't stand as it may, in the order instance, options, process
abbrev pub IsFirstRefused : CallKind → Element → given.Part → Type 0
IsFirstRefused k e Osil = part_of_call k e Osil ≡ None
IsFirstRefused k e Osol = IsSome (part_of_call k e Osil) × (part_of_call k e Osol ≡ None)
IsFirstRefused k e Ospl = IsSome (part_of_call k e Osil) × IsSome (part_of_call k e Osol) × (part_of_call k e Ospl ≡ None)

-- an element is refused as a call: it has another name, of which the beginning is told, or a part
abbrev pub IsElementRefused : Element → SoapFault → Type 0
IsElementRefused e Envelope = ⊥
IsElementRefused e (Call name) = ((k : CallKind) → e.name ≡ kind_text k → ⊥) × (name ≡ told_name e.name)
IsElementRefused e (Part p) = (k : CallKind) × (e.name ≡ kind_text k) × IsFirstRefused k e p
IsElementRefused e Memory = ⊥

-- the document with this root is refused as a call; want of memory is no refusal
abbrev pub IsRefused : Element → SoapFault → Type 0
IsRefused root f = ((f ≡ Envelope) × (held root ≡ None)) ⊎ IsSomeAnd (held root) (λ e. IsElementRefused e f)

-- the bytes are no document within the limits
abbrev pub IsNone : List ℕ → Type 0
IsNone bytes = (root : Element) → IsDocument bytes root → ⊥

-- why bytes are no call: they are no document, or one that is refused; or there was no memory
abbrev pub CallFails : List ℕ → SoapFault → Type 0
CallFails bytes f = (f ≡ Memory) ⊎ (((f ≡ Envelope) × IsNone bytes) ⊎ OfDocument IsRefused bytes f)

-- why bytes answer no call: there is no answer that they say; or there was no memory
abbrev pub ReplyFails : List ℕ → List ℕ → NotReply → Type 0
ReplyFails name bytes f = (f ≡ lost.Memory) ⊎ ((f ≡ lost.Form) × ((a : Answer) → IsReplyText name bytes a → ⊥))
