-- The envelopes that answers are written as say them.
use Rattle.std.proofs.Common.{ℕ, ◌≤◌, List, [], ◌++◌, length, refl, subst, lit≤, arith}
use Rattle.std.specs.Prelude.{codes}
use Rattle.tree_grammar.specs.Characters.{IsXmlText}
use Rattle.tree_grammar.specs.Elements.{Nodes, none, Element}
use Rattle.tree_grammar.specs.Document.{Doc}
use Rattle.tree_grammar.specs.WrittenText.{written}
use Rattle.tree_writing.specs.WritableElements.{IsWritable}
use Rattle.tree_writing.proofs.Documents.{written_doc}
use Rattle.document_tags.specs.Writing.{leaf, group}
use Rattle.document_tags.proofs.XmlNodes.{AreFlat, none_flat, element_flat, still_flat, tag_by}
use Rattle.six_calls.specs.declared.call.CallKind.{CallKind}
use Rattle.soap_calls.specs.declared.fault.Answer.TheVariants.{Return, Fault}
use Rattle.six_calls.specs.Names.{kind_text}
use Rattle.os_io.specs.Limits.{most_reply}
use Rattle.soap_calls.specs.Replies.{MayReturn, IsReplyDocument, IsReplyText}
use Rattle.soap_calls.specs.Writing.{soap, frame, response_nodes, reply_text, fault_nodes, fault_text}
use Rattle.soap_calls.proofs.BackCalls.{read_frame, bare, plain_leaf, leaf_flat, plain_kind, named_flat, body_flat, soap_text}

-- an envelope that is short enough is a reply's document
frame_document : (inside kept : Nodes) → AreFlat 30 inside kept → length (written (frame inside)) ≤ most_reply → IsReplyDocument (written (frame inside)) (read_frame kept)
frame_document inside kept flat short =
    let body = body_flat 30 inside kept flat in
    let writable : IsWritable (frame inside) = (tag_by (codes "soap:Envelope") soap refl (soap_text, tt), body.writable) in
    let root : Nodes → Element = λ c. record { name = codes "Envelope"; attributes = []; children = c } in
    let doc : Doc (written (frame inside)) (read_frame kept) = subst (λ (c : Nodes). Doc (written (frame inside)) (root c)) body.here (written_doc (frame inside) writable) in
    record { document = doc; short = short; shallow = let low = body.low in omega (arith, low) }

pub return_is : (k : CallKind) (text : List ℕ) → IsXmlText text → MayReturn (kind_text k) text → length (reply_text (kind_text k) text) ≤ most_reply → IsReplyText (kind_text k) (reply_text (kind_text k) text) (Return text)
return_is k text xml may short =
    let value = plain_kind (λ name. name ++ codes "Return") refl k in
    let response = plain_kind (λ name. name ++ codes "Response") refl k in
    let flat = leaf_flat 0 (kind_text k ++ codes "Return") text none value.bare value.local xml (none_flat 1) in
    record {
      root = read_frame (bare (kind_text k ++ codes "Response") (leaf (kind_text k ++ codes "Return") text none));
      document = frame_document (response_nodes (kind_text k ++ codes "Response") (kind_text k ++ codes "Return") text) _
          (still_flat 2 30 _ _ (lit≤ tt) (named_flat 1 (kind_text k ++ codes "Response") _ response flat)) short;
      is = (refl, record { named = refl; plain = plain_leaf text; may = may });
    }

fault_flat : (code text : List ℕ) → IsXmlText code → IsXmlText text → AreFlat 2 (fault_nodes code text) (group (codes "Fault") (leaf (codes "faultcode") code (leaf (codes "faultstring") text none)) none)
fault_flat code text xml xml_text =
    element_flat 1 (codes "soap:Fault") [] (leaf (codes "faultcode") code (leaf (codes "faultstring") text none)) none (leaf (codes "faultcode") code (leaf (codes "faultstring") text none)) none refl tt
    (leaf_flat 0 (codes "faultcode") code (leaf (codes "faultstring") text none) refl refl xml (leaf_flat 0 (codes "faultstring") text none refl refl xml_text (none_flat 1))) (none_flat 2)

pub fault_is : (name code text : List ℕ) → IsXmlText (codes "soap:" ++ code) → IsXmlText text → length (fault_text code text) ≤ most_reply → IsReplyText name (fault_text code text) (Fault (codes "soap:" ++ code) text)
fault_is name code text xml xml_text short = record {
  root = read_frame (group (codes "Fault") (leaf (codes "faultcode") (codes "soap:" ++ code) (leaf (codes "faultstring") text none)) none);
  document = frame_document (fault_nodes (codes "soap:" ++ code) text) _ (still_flat 2 30 _ _ (lit≤ tt) (fault_flat (codes "soap:" ++ code) text xml xml_text)) short;
  is = (refl, plain_leaf (codes "soap:" ++ code), plain_leaf text);
}
