-- What bytes say to a call, and what they don't.
use Rattle.std.proofs.Common.{◌≡◌, ◌≢◌, ℕ, ◌⊎◌, inl, inr, List, Option, Some, None, Ok, Err, sym, ap, ◌∙◌, subst}
use Rattle.std.specs.Prelude.{Result}
use Rattle.http_link.specs.declared.replies.Response.{Response}
use Rattle.http_link.specs.Replies.{IsReply, Replies}
use Rattle.soap_calls.specs.declared.fault.Answer.{Answer}
use Rattle.soap_calls.specs.declared.fault.NotReply.{NotReply}
use Rattle.soap_calls.specs.declared.fault.NotReply.TheVariants as unread
use Rattle.soap_calls.specs.Refusals.{ReplyFails}
use Rattle.soap_calls.specs.Replies.{IsReplyText}
use Rattle.soap_calls.specs.declared.fault.Answer.TheVariants.{Return, Fault}
use Rattle.os_client.specs.declared.fault.CallFault.{CallFault}
use Rattle.os_client.specs.declared.fault.CallFault.TheVariants.{ReadFault, WriteFault, Memory, Refused, Http, NoReply}
use Rattle.os_client.specs.Answers.{status_of, SaysAnswer, HasStatus, IsNoReply, SaysToCall}

-- bytes are one reply at most
abbrev pub OneReply : Type 0
OneReply = (bytes body other : List ℕ) (status code : ℕ) → IsReply bytes status body → IsReply bytes code other → (status ≡ code) × (body ≡ other)

pub unanswered : OneReply → (name bytes body : List ℕ) (status : ℕ) → IsReply bytes status body → (status ≡ 200) ⊎ (status ≡ 500)
    → ((a : Answer) → IsReplyText name body a → status ≡ status_of a → ⊥) → IsNoReply name bytes
unanswered once name bytes body status reply due none = record {
  unanswered = λ a said.
      let same = once bytes body said.0 status (status_of a) reply said.1 in
      none a (subst (λ (b : List ℕ). IsReplyText name b a) (sym same.1) said.2) same.0;
  no_status = λ n has.
      let same = once bytes body has.0 status n reply has.1 in
      elim due [
        | inl e ↦ has.2 (sym same.0 ∙ e)
        | inr e ↦ has.3 (sym same.0 ∙ e)
      ];
}

-- bytes that are no response are no reply
pub no_response : (name bytes : List ℕ) → Replies bytes None → IsNoReply name bytes
no_response name bytes none = record {
  unanswered = λ a said. none (status_of a) said.0 said.1;
  no_status = λ status has. none status has.0 has.1;
}

-- an answer whose status isn't the response's is the only one
pub of_other_status : (name body : List ℕ) (status : ℕ) (b : Answer) → ((a : Answer) → IsReplyText name body a → IsReplyText name body b → a ≡ b)
    → IsReplyText name body b → status ≢ status_of b → (a : Answer) → IsReplyText name body a → status ≡ status_of a → ⊥
of_other_status name body status b one got other a said e = other (e ∙ ap status_of (one a said got))

-- the response that the bytes are
pub response_of : (bytes : List ℕ) (v : Option Response) (r : Response) → v ≡ Some r → Replies bytes v → IsReply bytes r.status r.body
response_of bytes v r e replies = subst (λ (o : Option Response). Replies bytes o) e replies

-- what a slice of the body answers is what the body answers
pub said_of : (name slice body : List ℕ) (v w : Answer) → slice ≡ body → v ≡ w → IsReplyText name slice v → IsReplyText name body w
said_of name slice body v w e f said = subst (λ (a : Answer). IsReplyText name body a) f (subst (λ (b : List ℕ). IsReplyText name b v) e said)

-- a slice that answers nothing
pub none_said : (name slice body : List ℕ) (status : ℕ) → slice ≡ body → ((a : Answer) → IsReplyText name slice a → ⊥)
    → (a : Answer) → IsReplyText name body a → status ≡ status_of a → ⊥
none_said name slice body status e none a said f = none a (subst (λ (b : List ℕ). IsReplyText name b a) (sym e) said)

-- why bytes aren't read, but for want of memory
pub not_said : (name slice : List ℕ) (f : NotReply) → f ≡ unread.Form → ReplyFails name slice f → (a : Answer) → IsReplyText name slice a → ⊥
not_said name slice f e (inl memory) = absurd (cc)
not_said name slice f e (inr (form, none)) = none

-- ---- once

-- bytes have one answer of a name
abbrev pub OneAnswer : Type 0
OneAnswer = (name bytes : List ℕ) (a b : Answer) → IsReplyText name bytes a → IsReplyText name bytes b → a ≡ b

answer_same : OneReply → OneAnswer → (name bytes : List ℕ) (a b : Answer) → SaysAnswer name bytes a → SaysAnswer name bytes b → a ≡ b
answer_same once one name bytes a b p q =
    let same = once bytes p.0 q.0 (status_of a) (status_of b) p.1 q.1 in
    one name p.0 a b p.2 (subst (λ (t : List ℕ). IsReplyText name t b) (sym same.1) q.2)

-- no answer has another status than 200 and 500
status_apart : OneReply → (name bytes : List ℕ) (a : Answer) (status : ℕ) → SaysAnswer name bytes a → HasStatus bytes status → ⊥
status_apart once name bytes (Return text) status p q = q.2 (sym (once bytes p.0 q.0 200 status p.1 q.1).0)
status_apart once name bytes (Fault code text) status p q = q.3 (sym (once bytes p.0 q.0 500 status p.1 q.1).0)

abbrev Outcome : Type 0
Outcome = Result (List ℕ) CallFault

pub said_once : OneReply → OneAnswer → (name bytes : List ℕ) (r s : Outcome) → SaysToCall name bytes r → SaysToCall name bytes s → r ≡ s
said_once once one name bytes (Ok t) (Ok u) p q = let same = answer_same once one name bytes (Return t) (Return u) p q in cc
said_once once one name bytes (Ok t) (Err (Refused c u)) p q = let same = answer_same once one name bytes (Return t) (Fault c u) p q in cc
said_once once one name bytes (Ok t) (Err (Http n)) p q = absurd (status_apart once name bytes (Return t) n p q)
said_once once one name bytes (Ok t) (Err (NoReply k)) p q = absurd (q.1.unanswered (Return t) p)
said_once once one name bytes (Err (Refused c t)) (Ok u) p q = let same = answer_same once one name bytes (Fault c t) (Return u) p q in cc
said_once once one name bytes (Err (Refused c t)) (Err (Refused d u)) p q = let same = answer_same once one name bytes (Fault c t) (Fault d u) p q in cc
said_once once one name bytes (Err (Refused c t)) (Err (Http n)) p q = absurd (status_apart once name bytes (Fault c t) n p q)
said_once once one name bytes (Err (Refused c t)) (Err (NoReply k)) p q = absurd (q.1.unanswered (Fault c t) p)
said_once once one name bytes (Err (Http n)) (Ok u) p q = absurd (status_apart once name bytes (Return u) n q p)
said_once once one name bytes (Err (Http n)) (Err (Refused d u)) p q = absurd (status_apart once name bytes (Fault d u) n q p)
said_once once one name bytes (Err (Http n)) (Err (Http m)) p q = let same = (once bytes p.0 q.0 n m p.1 q.1).0 in ap (λ k. Err (Http k)) same
said_once once one name bytes (Err (Http n)) (Err (NoReply k)) p q = absurd (q.1.no_status n p)
said_once once one name bytes (Err (NoReply k)) (Ok u) p q = absurd (p.1.unanswered (Return u) q)
said_once once one name bytes (Err (NoReply k)) (Err (Refused d u)) p q = absurd (p.1.unanswered (Fault d u) q)
said_once once one name bytes (Err (NoReply k)) (Err (Http m)) p q = absurd (p.1.no_status m q)
said_once once one name bytes (Err (NoReply k)) (Err (NoReply l)) p q = ap (λ b. Err (NoReply b)) (p.0 ∙ sym q.0)
said_once once one name bytes (Err ReadFault) s p q = absurd p
said_once once one name bytes (Err WriteFault) s p q = absurd p
said_once once one name bytes (Err Memory) s p q = absurd p
said_once once one name bytes r (Err ReadFault) p q = absurd q
said_once once one name bytes r (Err WriteFault) p q = absurd q
said_once once one name bytes r (Err Memory) p q = absurd q
