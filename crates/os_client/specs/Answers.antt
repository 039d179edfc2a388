-- What the bytes that came answer to a call (SOAP 1.1, sections 4.4, 6.2 and 7.1; RFC 9110, section 15).
use Rattle.std.specs.Prelude.{◌≡◌, ◌≢◌, ℕ, List, Result, Ok, Err}
use Rattle.http_link.specs.Replies.{IsReply}
use Rattle.soap_calls.specs.declared.fault.Answer.{Answer}
use Rattle.soap_calls.specs.declared.fault.Answer.TheVariants.{Return, Fault}
use Rattle.soap_calls.specs.Replies.{IsReplyText}
use Rattle.os_client.specs.declared.fault.CallFault.{CallFault}
use Rattle.os_client.specs.declared.fault.CallFault.TheVariants.{ReadFault, WriteFault, Memory, Refused, Http, NoReply}

-- a text comes back with 200, a fault with 500
abbrev pub status_of : Answer → ℕ
status_of (Return text) = 200
status_of (Fault code text) = 500

-- the bytes are a response that has this answer to a call of this name in its body, with the answer's status
abbrev pub SaysAnswer : List ℕ → List ℕ → Answer → Type 0
SaysAnswer name bytes a = (body : List ℕ) × IsReply bytes (status_of a) body × IsReplyText name body a

-- the bytes are a response of another status
abbrev pub HasStatus : List ℕ → ℕ → Type 0
HasStatus bytes status = (body : List ℕ) × IsReply bytes status body × (status ≢ 200) × (status ≢ 500)

-- the bytes are no reply to a call of this name
pub record IsNoReply (name bytes : List ℕ) : Type 0 where
  pub unanswered : (a : Answer) → SaysAnswer name bytes a → ⊥
  pub no_status : (status : ℕ) → HasStatus bytes status → ⊥

-- what the bytes that came say to a call of this name: the text that it returns, or why there is none. Bytes that are no reply are kept
abbrev pub SaysToCall : List ℕ → List ℕ → Result (List ℕ) CallFault → Type 0
SaysToCall name bytes (Ok text) = SaysAnswer name bytes (Return text)
SaysToCall name bytes (Err (Refused code text)) = SaysAnswer name bytes (Fault code text)
SaysToCall name bytes (Err (Http status)) = HasStatus bytes status
SaysToCall name bytes (Err (NoReply kept)) = (kept ≡ bytes) × IsNoReply name bytes
SaysToCall name bytes (Err ReadFault) = ⊥
SaysToCall name bytes (Err WriteFault) = ⊥
SaysToCall name bytes (Err Memory) = ⊥
