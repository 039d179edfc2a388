-- A conversation on one connection: the bytes read, the moves made with their replies, the bytes written, and its end (RFC 9112, sections 2, 6 and 9; SOAP 1.1, section 6).
use Rattle.std.specs.Prelude.{◌≡◌, ℕ, ◌<◌, ◌⊎◌, Bool, true, false, not, List, [], ◌∷◌, ◌++◌, All, length, Option, Some, Err}
use Rattle.os_io.specs.Streams.{Tells, BothTold, HasRisen, IsPart, Appends, Grows}
use Rattle.http_link.specs.declared.refusal.Refusal.{Refusal}
use Rattle.http_link.specs.declared.refusal.Refusal.TheVariants.{BadRequest, ServiceUnavailable}
use Rattle.http_link.specs.Checks.{Head}
use Rattle.http_link.specs.Requests.{IsRequest, IsBegun, IsHeadPart, IsCut, EndedBetween}
use Rattle.http_link.specs.Responses.{answer_text, fault_answer_text, refusal_bytes}
use Rattle.soap_calls.specs.declared.fault.SoapFault.TheVariants as soap
use Rattle.soap_calls.specs.Refusals.{CallFails}
use Rattle.job_table.specs.declared.job.Job.{Job}
use Rattle.job_table.specs.declared.entries.Reply as tables
use Rattle.job_table.specs.declared.entries.Reply.TheVariants as table
use Rattle.job_table.specs.History.{MoveEntry}
use Rattle.job_runs.specs.Runs.{Works}
use Rattle.os_server.specs.declared.order.Order.{Order}
use Rattle.os_server.specs.declared.fault.FaultCode.{FaultCode}
use Rattle.os_server.specs.declared.saying.ReplyEnvelope.{ReplyEnvelope}
use Rattle.os_server.specs.declared.reply.HttpReply.{HttpReply}
use Rattle.os_server.specs.declared.reply.HttpReply.TheVariants.{Answer, Refused, NoMemory}
use Rattle.os_server.specs.declared.serve.Served.{Served}
use Rattle.os_server.specs.declared.serve.Served.TheVariants.{Ended, CutShort, ReadFault, WriteFault, Memory}
use Rattle.os_server.specs.Orders.{Asks, Faults}
use Rattle.os_server.specs.Answers.{said_by, fault_said, number_for, Does, BeginsToDo}

-- most requests of one connection
abbrev pub most_requests : ℕ
most_requests = 1000000

-- a part of a conversation: bytes read, moves with their replies, bytes written
pub record Part : Type 0 where
  pub taken : List ℕ
  pub entries : List MoveEntry
  pub out : List ℕ

abbrev pub part : List ℕ → List MoveEntry → List ℕ → Part
part taken entries out = record { taken = taken; entries = entries; out = out }

-- one part after another
abbrev pub then : Part → Part → Part
then p q = part (p.taken ++ q.taken) (p.entries ++ q.entries) (p.out ++ q.out)

abbrev pub all_of : List Part → Part
all_of [] = part [] [] []
all_of (p ∷ ps) = then p (all_of ps)

-- a response with this envelope: 500 where it says a fault, and else 200
abbrev pub response_with : Bool → List ℕ → List ℕ
response_with true text = fault_answer_text text
response_with false text = answer_text text

abbrev pub response_text : ReplyEnvelope → List ℕ
response_text said = response_with said.fault said.text

-- what a reply is written as
abbrev pub text_of_reply : HttpReply → List ℕ
text_of_reply (Answer said close as_worker) = response_text said
text_of_reply (Refused refusal) = refusal_bytes refusal
text_of_reply NoMemory = refusal_bytes ServiceUnavailable

-- the bytes are a head that is refused so, or a request whose body is no envelope of a call
abbrev pub IsRefusedAs : List ℕ → Refusal → Type 0
IsRefusedAs taken refusal =
    Head taken (Err refusal)
    ⊎ ((close : Bool) × (body : List ℕ) × IsRequest taken close body × CallFails body soap.Envelope × (refusal ≡ BadRequest))

-- texts were sent and taken, by the last reply of the table to what was asked
abbrev pub was_taken : tables.Reply → Bool
was_taken (table.Sent taken) = taken
was_taken _ = false

-- how a waiting job is claimed behind an answer, by whether texts were taken for it. Where they were, the bell is rung, and the claim is a worker's
-- exactly where nobody was woken; else it isn't. What a ring may answer is given
abbrev pub IsRung : (Bool → Type 0) → Bool → Bool → Type 0
IsRung wakes true as_worker = wakes (not as_worker)
IsRung wakes false as_worker = as_worker ≡ false

-- which looks a run of a job's texts makes, with the document that comes of it, and what a ring may answer are given
module _ (made : List ℕ → List ℕ → List Bool → Option (List ℕ) → Type 0) (wakes : Bool → Type 0) where
  -- a body asks something of the table, these moves do it, and the reply of the last one is said. A waiting job is then claimed
  -- as a worker claims one behind a send alone that was taken, where nobody was woken
  pub record IsDone (body : List ℕ) (own : List MoveEntry) (said : ReplyEnvelope) (as_worker : Bool) : Type 0 where
    pub order : Order
    pub last : tables.Reply
    pub asks : Asks body order
    pub does : Does made order last own
    pub says : said_by order.kind (number_for order.job) last ≡ Some said
    pub woken : IsRung wakes (was_taken last) as_worker

  -- a body is an envelope whose call is refused, no move of the table is made, and the fault is said
  pub record IsFaulted (body : List ℕ) (own : List MoveEntry) (said : ReplyEnvelope) (as_worker : Bool) : Type 0 where
    pub code : FaultCode
    pub text : List ℕ
    pub faults : Faults body code text
    pub none : own ≡ []
    pub says : said ≡ fault_said code text
    pub alone : as_worker ≡ false

  -- what a body is answered by these moves, and whether a waiting job is then claimed as a worker claims one
  abbrev pub IsBodyAnswered : List ℕ → List MoveEntry → ReplyEnvelope → Bool → Type 0
  IsBodyAnswered body own said as_worker = IsDone body own said as_worker ⊎ IsFaulted body own said as_worker

  -- a body asks something of the table, and these moves were made until there was no memory: for one of them, or for the answer
  abbrev pub LacksMemory : List ℕ → List MoveEntry → Type 0
  LacksMemory body own =
      (order : Order) × Asks body order × (BeginsToDo made order own ⊎ ((last : tables.Reply) × Does made order last own))

  -- the bytes are a request whose body is answered so
  abbrev pub IsAnswered : List ℕ → List MoveEntry → ReplyEnvelope → Bool → Bool → Type 0
  IsAnswered taken own said close as_worker =
      (body : List ℕ) × IsRequest taken close body × IsBodyAnswered body own said as_worker

  -- there was no memory: for a head, of which the bytes are a first part or all; or for a request, for its body, for what it asks or for its answer
  abbrev pub IsUnanswered : List ℕ → List MoveEntry → Type 0
  IsUnanswered taken own =
      (IsHeadPart taken × (own ≡ []))
      ⊎ ((close : Bool) × (body : List ℕ) × IsRequest taken close body × ((own ≡ []) ⊎ LacksMemory body own))

  -- the bytes, the moves made for them, and the reply that they are due
  abbrev pub IsReplyDue : List ℕ → List MoveEntry → HttpReply → Type 0
  IsReplyDue taken own (Answer said close as_worker) = IsAnswered taken own said close as_worker
  IsReplyDue taken own (Refused refusal) = IsRefusedAs taken refusal × (own ≡ [])
  IsReplyDue taken own NoMemory = IsUnanswered taken own

  -- one request that was answered, with the moves for it, and then one claim with the run of the job that it gave
  pub record IsExchange (close : Bool) (p : Part) : Type 0 where
    pub said : ReplyEnvelope
    pub as_worker : Bool
    pub given : Option Job
    pub own : List MoveEntry
    pub after : List MoveEntry
    pub answered : IsAnswered p.taken own said close as_worker
    pub works : Works made as_worker given after
    pub entries : p.entries ≡ own ++ after
    pub out : p.out ≡ response_text said

  -- nothing is asked and nothing answered
  abbrev pub IsSilentPart : Part → Type 0
  IsSilentPart p = (p.entries ≡ []) × (p.out ≡ [])

  -- a request that was refused
  abbrev pub IsRefusedRequest : Part → Type 0
  IsRefusedRequest p = (refusal : Refusal) × IsReplyDue p.taken p.entries (Refused refusal) × (p.out ≡ refusal_bytes refusal)

  -- the last part of a conversation that ended so. Whether the input was then at its end is given
  abbrev pub EndsTalk : Served → Type 0 → Part → Type 0
  EndsTalk Ended AtEnd p = (EndedBetween p.taken × IsSilentPart p × AtEnd) ⊎ (IsExchange true p ⊎ IsRefusedRequest p)
  EndsTalk CutShort AtEnd p = IsCut p.taken × IsSilentPart p × AtEnd
  EndsTalk ReadFault AtEnd p = IsBegun p.taken × IsSilentPart p
  EndsTalk WriteFault AtEnd p =
      (reply : HttpReply) × IsReplyDue p.taken p.entries reply × IsPart (text_of_reply reply) p.out
  EndsTalk Memory AtEnd p = IsReplyDue p.taken p.entries NoMemory × (p.out ≡ text_of_reply NoMemory)

  -- as many requests were answered as may be, and nothing follows
  abbrev pub IsFull : Served → ℕ → Part → Type 0
  IsFull end count p = (end ≡ Ended) × (count ≡ most_requests) × (p ≡ part [] [] [])

  -- the last part, after so many requests that were answered
  abbrev pub IsLastPart : Served → ℕ → Type 0 → Part → Type 0
  IsLastPart end count AtEnd p = ((count < most_requests) × EndsTalk end AtEnd p) ⊎ IsFull end count p

  -- a whole conversation: requests that were answered, one after another, and the last part
  pub record Talk (end : Served) (AtEnd : Type 0) (p : Part) : Type 0 where
    pub done : List Part
    pub last : Part
    pub exchanges : All (IsExchange false) done
    pub ends : IsLastPart end (length done) AtEnd last
    pub whole : p ≡ then (all_of done) last

-- the input was at its end then: nothing is left
abbrev pub AtEnd : Option (List ℕ) → Option (List ℕ) → Type 0
AtEnd left left' = BothTold left left' (λ before after. after ≡ [])

-- these bytes were read
abbrev pub ReadsBytes : List ℕ → Option (List ℕ) → Option (List ℕ) → Type 0
ReadsBytes taken left left' = BothTold left left' (λ before after. before ≡ taken ++ after)

-- what two ends tell together: the way in of one, and the way out of the other
abbrev pub both_ends : Tells → Tells → Tells
both_ends i o = record {
  left = i.left;
  written = o.written;
  handed_on = o.handed_on;
  read_faults = i.read_faults;
  write_faults = o.write_faults;
}

-- all that was written is handed on, or nothing was written and nothing handed on
abbrev pub HandsOnAll : Tells → Tells → Type 0
HandsOnAll old new =
    (new.handed_on ≡ new.written) ⊎ ((new.written ≡ old.written) × (new.handed_on ≡ old.handed_on))

-- how often reads and writes failed, and what was handed on: a count rose where that fault is the end, and nowhere else
abbrev pub Accounts : Served → Tells → Tells → Type 0
Accounts Ended old new =
    (new.read_faults ≡ old.read_faults) × (new.write_faults ≡ old.write_faults) × HandsOnAll old new
Accounts CutShort old new =
    (new.read_faults ≡ old.read_faults) × (new.write_faults ≡ old.write_faults) × HandsOnAll old new
Accounts ReadFault old new =
    HasRisen old.read_faults new.read_faults × (new.write_faults ≡ old.write_faults) × HandsOnAll old new
Accounts WriteFault old new =
    (new.read_faults ≡ old.read_faults) × HasRisen old.write_faults new.write_faults × Grows old.handed_on new.handed_on
Accounts Memory old new =
    (new.read_faults ≡ old.read_faults) × (new.write_faults ≡ old.write_faults) × HandsOnAll old new

-- a conversation of a link and of one who makes moves, from before to after. The bytes that were read are its own, and no others
pub record Serves (made : List ℕ → List ℕ → List Bool → Option (List ℕ) → Type 0) (wakes : Bool → Type 0) (did : List MoveEntry → Type 0) (end : Served) (old new : Tells) : Type 0 where
  pub part : Part
  pub talk : Talk made wakes end (AtEnd old.left new.left) part
  pub moves : did part.entries
  pub read : ReadsBytes part.taken old.left new.left
  pub wrote : BothTold old.written new.written (Appends part.out)
  pub accounts : Accounts end old new
