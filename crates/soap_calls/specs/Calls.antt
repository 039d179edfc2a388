-- What an envelope calls (SOAP 1.1, section 4, and the calls of the Optimization Services).
use Rattle.std.specs.Prelude.{◌≡◌, ℕ, Bool, Option, None, Some, IsSomeAnd, cond, List, [], ◌∷◌}
use Rattle.tree_grammar.specs.Elements.{Element}
use Rattle.document_tags.specs.Elements.{children_named}
use Rattle.document_tags.specs.Documents.{OfDocument}
use Rattle.document_tags.specs.OneChild.{plain_text}
use Rattle.six_calls.specs.declared.call.CallKind.{CallKind}
use Rattle.six_calls.specs.declared.part.Part.{Part}
use Rattle.six_calls.specs.declared.part.Part.TheVariants.{Osil, Osol, Ospl}
use Rattle.soap_calls.specs.declared.call.Parts.{Parts}
use Rattle.soap_calls.specs.declared.call.SoapCall.{SoapCall}
use Rattle.six_calls.specs.Names.{kind_text, part_text, is_needed, has}
use Rattle.soap_calls.specs.Envelope.{held}

-- the text of the one of these elements, which has no element in it; where there is none, the empty text unless one is needed
abbrev pub text_among : Bool → List Element → Option (List ℕ)
text_among is_needed [] = cond is_needed None (Some [])
text_among is_needed (e ∷ []) = plain_text e
text_among is_needed (e ∷ f ∷ more) = None

-- the text of a call's part, if it stands there as it may; a part that the call doesn't have is passed over
abbrev pub part_of_call : CallKind → Element → Part → Option (List ℕ)
part_of_call k call p = cond (has k p) (text_among (is_needed p) (children_named (part_text p) call)) (Some [])

-- all parts stand as they may, and these are their texts
pub record AreParts (k : CallKind) (call : Element) (ps : Parts) : Type 0 where
  pub osil : part_of_call k call Osil ≡ Some ps.osil
  pub osol : part_of_call k call Osol ≡ Some ps.osol
  pub ospl : part_of_call k call Ospl ≡ Some ps.ospl

-- the text of a part
abbrev pub text_of : Parts → Part → List ℕ
text_of ps Osil = ps.osil
text_of ps Osol = ps.osol
text_of ps Ospl = ps.ospl

-- a text that stands for a part, emptied where the call doesn't have it
abbrev pub kept : CallKind → Part → List ℕ → List ℕ
kept k p text = cond (has k p) text []

-- the call with these texts, of which those are dropped that it has no part for
abbrev pub call_of : CallKind → Parts → SoapCall
call_of k ps = record { kind = k; parts = record { osil = kept k Osil ps.osil; osol = kept k Osol ps.osol; ospl = kept k Ospl ps.ospl } }

-- an element is this call: it has its name, and the call has the texts of its parts
pub record IsCall (e : Element) (c : SoapCall) : Type 0 where
  pub named : e.name ≡ kind_text c.kind
  pub are : AreParts c.kind e c.parts

-- this call stands in the envelope
abbrev pub IsCallIn : Element → SoapCall → Type 0
IsCallIn root c = IsSomeAnd (held root) (λ e. IsCall e c)

-- the bytes are the envelope of this call
abbrev pub IsCallText : List ℕ → SoapCall → Type 0
IsCallText bytes c = OfDocument IsCallIn bytes c
