-- The envelopes that calls and answers are written as (SOAP 1.1, sections 4 and 7), and their texts.
use Rattle.std.specs.Prelude.{ℕ, cond, List, [], ◌∷◌, ◌++◌, codes}
use Rattle.tree_grammar.specs.Elements.{Attribute, Nodes, none, element, Element, Event, Open, Close}
use Rattle.tree_grammar.specs.WrittenText.{written}
use Rattle.document_tags.specs.Writing.{only, leaf, group}
use Rattle.six_calls.specs.declared.part.Part.{Part}
use Rattle.six_calls.specs.declared.part.Part.TheVariants.{Osil, Osol, Ospl}
use Rattle.soap_calls.specs.declared.call.SoapCall.{SoapCall}
use Rattle.six_calls.specs.Names.{kind_text, part_text, has}
use Rattle.soap_calls.specs.Calls.{text_of}

abbrev pub soap : List Attribute
soap = only (codes "xmlns:soap") (codes "http://schemas.xmlsoap.org/soap/envelope/")

-- the namespace of the Optimization Services
abbrev pub ours : List Attribute
ours = only (codes "xmlns") (codes "os.optimizationservices.org")

-- the envelope round what stands in its body
abbrev pub frame : Nodes → Element
frame inside = record { name = codes "soap:Envelope"; attributes = soap; children = group (codes "soap:Body") inside none }

-- its start tags and its end tags
abbrev pub frame_opening : List Event → List Event
frame_opening behind = Open (codes "soap:Envelope") soap ∷ Open (codes "soap:Body") [] ∷ behind

abbrev pub frame_closing : List Event → List Event
frame_closing behind = Close (codes "soap:Body") ∷ Close (codes "soap:Envelope") ∷ behind

-- an element of this name in that namespace
abbrev pub ours_around : List ℕ → Nodes → Nodes
ours_around name inside = element name ours inside none

-- a part, where the call has it, an empty one too, and then more
abbrev pub part_node : SoapCall → Part → Nodes → Nodes
part_node c p more = cond (has c.kind p) (leaf (part_text p) (text_of c.parts p) more) more

-- all parts of a call, in the order in which it takes them
abbrev pub part_nodes : SoapCall → Nodes
part_nodes c = part_node c Osil (part_node c Ospl (part_node c Osol none))

-- the text of a call
abbrev pub call_text : SoapCall → List ℕ
call_text c = written (frame (ours_around (kind_text c.kind) (part_nodes c)))

-- a response of this name, whose one element has that name and this text
abbrev pub response_nodes : List ℕ → List ℕ → List ℕ → Nodes
response_nodes response value text = ours_around response (leaf value text none)

-- the text of the reply to the call of this name that returns this text
abbrev pub reply_text : List ℕ → List ℕ → List ℕ
reply_text name text = written (frame (response_nodes (name ++ codes "Response") (name ++ codes "Return") text))

-- a fault with this code and this text
abbrev pub fault_nodes : List ℕ → List ℕ → Nodes
fault_nodes code text = group (codes "soap:Fault") (leaf (codes "faultcode") code (leaf (codes "faultstring") text none)) none

abbrev pub fault_text : List ℕ → List ℕ → List ℕ
fault_text code text = written (frame (fault_nodes (codes "soap:" ++ code) text))
