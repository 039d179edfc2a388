-- Bytes say one answer.
use Rattle.std.proofs.Common.{◌≡◌, ◌≢◌, ◌∙◌, inl, inr, Some, Result, Ok, Err, List, ℕ, ap, sym, subst}
use Rattle.std.specs.Prelude.{IfOk, IfErr}
use Rattle.tree_grammar.specs.Elements.{Element}
use Rattle.doc_tree.proofs.OneTree.{one_tree}
use Rattle.document_tags.specs.OneChild.{only_element}
use Rattle.document_tags.proofs.SomeAnd.{some_once}
use Rattle.document_tags.proofs.UnlessMemory.{answered}
use Rattle.soap_calls.specs.declared.fault.Answer.{Answer}
use Rattle.soap_calls.specs.declared.fault.Answer.TheVariants.{Return, Fault}
use Rattle.soap_calls.specs.declared.fault.NotReply.{NotReply}
use Rattle.soap_calls.specs.declared.fault.NotReply.TheVariants.{Memory}
use Rattle.soap_calls.specs.Envelope.{held}
use Rattle.soap_calls.specs.Replies.{IsReturnedText, IsAnswer, IsAnswerIn, IsReplyDocument, IsReplyText}
use Rattle.soap_calls.specs.Refusals.{ReplyFails}
use Rattle.soap_calls.proofs.AnswerEnvelopes.{response_no_fault}

same_some : {X : Type 0} (x y : X) → Some x ≡ Some y → x ≡ y
same_some x y e = let same : x ≡ y = cc in same

answer_once : (name : List ℕ) (e : Element) (a b : Answer) → IsAnswer name e a → IsAnswer name e b → a ≡ b
answer_once name e (Return s) (Return t) a b = ap (λ (x : List ℕ). Return x) (some_once (IsReturnedText name) (λ v x y h k. same_some x y (sym h.plain ∙ k.plain)) (only_element e) s t a.1 b.1)
answer_once name e (Return s) (Fault c t) a b = absurd (response_no_fault e.name name b.0 a.0)
answer_once name e (Fault c s) (Return t) a b = absurd (response_no_fault e.name name a.0 b.0)
answer_once name e (Fault c s) (Fault d t) a b =
    let code : c ≡ d = same_some c d (sym a.1 ∙ b.1) in
    let text : s ≡ t = same_some s t (sym a.2 ∙ b.2) in
    let same : Fault c s ≡ Fault d t = cc in
    same

pub one_reply_root : (bytes : List ℕ) (a b : Element) → IsReplyDocument bytes a → IsReplyDocument bytes b → a ≡ b
one_reply_root bytes a b h k = one_tree bytes a b h.document k.document

pub answer_text_once : (name bytes : List ℕ) (a b : Answer) → IsReplyText name bytes a → IsReplyText name bytes b → a ≡ b
answer_text_once name bytes a b h k = some_once (IsAnswer name) (answer_once name) (held k.root) a b (subst (λ (root : Element). IsAnswerIn name root a) (one_reply_root bytes h.root k.root h.document k.document) h.is) k.is

-- bytes that say an answer are answered by it
fault_is : (name bytes : List ℕ) (a : Answer) (f : NotReply) → IsReplyText name bytes a → ReplyFails name bytes f → f ≡ Memory
fault_is name bytes a f is (inl h) = h
fault_is name bytes a f is (inr h) = absurd (h.1 a is)

pub reply_answers : (name bytes : List ℕ) (a : Answer) (r : Result Answer NotReply) → IsReplyText name bytes a → IfOk r (IsReplyText name bytes) → IfErr r (ReplyFails name bytes) → r ≢ Err Memory → r ≡ Ok a
reply_answers name bytes a r is = answered Memory (IsReplyText name bytes) (ReplyFails name bytes) (answer_text_once name bytes) (λ f. fault_is name bytes a f is) a r is
