-- What the parts of the server promise on the way.
use Rattle.std.specs.Prelude.{◌≡◌, ℕ, ◌⊎◌, Bool, true, false, List, [], Option, None, Some, Result, Ok, Err}
use Rattle.os_io.specs.Streams.{Tells, BothTold, Appends, Grows, HasRisen, SameOutput, Sends}
use Rattle.os_io.specs.declared.streams.Failed.{Failed}
use Rattle.http_link.specs.declared.refusal.Refusal.TheVariants.{BadRequest}
use Rattle.http_link.specs.declared.requests.Incoming.{Incoming}
use Rattle.http_link.specs.declared.requests.Incoming.TheVariants as incoming
use Rattle.http_link.specs.declared.requests.LinkFault.{LinkFault}
use Rattle.http_link.specs.declared.requests.LinkFault.TheVariants as lost
use Rattle.http_link.specs.Requests.{IsBegun, IsCut, EndedBetween}
use Rattle.soap_calls.specs.declared.calling.CallReader.{CallReader}
use Rattle.soap_calls.specs.Reading.{HasTaken}
use Rattle.soap_calls.specs.declared.fault.SoapFault.TheVariants as soap
use Rattle.soap_calls.specs.Refusals.{CallFails}
use Rattle.job_table.specs.declared.job.Job.{Job}
use Rattle.job_table.specs.declared.entries.Reply as tables
use Rattle.job_table.specs.History.{MoveEntry}
use Rattle.job_runs.specs.Runs.{Works}
use Rattle.os_server.specs.declared.order.Order.{Order}
use Rattle.os_server.specs.declared.reply.HttpReply.{HttpReply}
use Rattle.os_server.specs.declared.reply.HttpReply.TheVariants.{Answer, Refused, NoMemory}
use Rattle.os_server.specs.declared.serve.Served.{Served}
use Rattle.os_server.specs.declared.serve.Served.TheVariants.{Ended, CutShort, ReadFault, WriteFault, Memory}
use Rattle.os_server.specs.Answers.{said_by, number_for, Does, BeginsToDo}
use Rattle.os_server.specs.Talk.{Part, was_taken, text_of_reply, IsRung, AtEnd, ReadsBytes, IsBodyAnswered, LacksMemory, IsReplyDue, IsExchange, EndsTalk, HandsOnAll, Accounts}

module _ (made : List ℕ → List ℕ → List Bool → Option (List ℕ) → Type 0) (wakes : Bool → Type 0) where
  -- the moves that do what is asked, and the reply that says the last one's
  abbrev pub DoesOrder : Order → Bool → List MoveEntry → HttpReply → Type 0
  DoesOrder order close own (Answer said closes as_worker) =
      (closes ≡ close) × (last : tables.Reply) × Does made order last own × (said_by order.kind (number_for order.job) last ≡ Some said)
      × IsRung wakes (was_taken last) as_worker
  DoesOrder order close own (Refused refusal) = ⊥
  DoesOrder order close own NoMemory = BeginsToDo made order own ⊎ ((last : tables.Reply) × Does made order last own)

  -- the moves for a body, and the reply that it is due after them
  abbrev pub IsReplied : List ℕ → Bool → List MoveEntry → HttpReply → Type 0
  IsReplied body close own (Answer said closes as_worker) = (closes ≡ close) × IsBodyAnswered made wakes body own said as_worker
  IsReplied body close own (Refused refusal) = CallFails body soap.Envelope × (refusal ≡ BadRequest) × (own ≡ [])
  IsReplied body close own NoMemory = (own ≡ []) ⊎ LacksMemory made wakes body own

  -- what came on the link and what is due to it, by what was taken, the moves and the answer
  abbrev pub CameWithDue : Result HttpReply Served → Type 0 → List ℕ → List MoveEntry → Type 0
  CameWithDue (Ok reply) AtEnd taken own = IsReplyDue made wakes taken own reply
  CameWithDue (Err Ended) AtEnd taken own = EndedBetween taken × (own ≡ []) × AtEnd
  CameWithDue (Err CutShort) AtEnd taken own = IsCut taken × (own ≡ []) × AtEnd
  CameWithDue (Err ReadFault) AtEnd taken own = IsBegun taken × (own ≡ [])
  CameWithDue (Err WriteFault) AtEnd taken own = ⊥
  CameWithDue (Err Memory) AtEnd taken own = ⊥

  -- one request, after which the next comes or the conversation ends
  abbrev pub AnswersOne : Option Served → Type 0 → Part → Type 0
  AnswersOne None AtEnd p = IsExchange made wakes false p
  AnswersOne (Some end) AtEnd p = EndsTalk made wakes end AtEnd p

  -- what follows a reply that was written: a claim with the run of the job that it gave, and the next request or the end
  abbrev pub FollowsReply : HttpReply → List MoveEntry → Option Served → Type 0
  FollowsReply (Answer said true as_worker) after end =
      ((given : Option Job) × Works made as_worker given after) × (end ≡ Some Ended)
  FollowsReply (Answer said false as_worker) after end =
      ((given : Option Job) × Works made as_worker given after) × (end ≡ None)
  FollowsReply (Refused refusal) after end = (after ≡ []) × (end ≡ Some Ended)
  FollowsReply NoMemory after end = (after ≡ []) × (end ≡ Some Memory)

  -- the moves for what was read, with this body, and the reply that is due to it, or how the conversation ends. What it is to make moves is given
  abbrev pub AnswersCame : (List MoveEntry → Type 0) → CallReader → Result Incoming LinkFault → Result HttpReply Served → Type 0
  AnswersCame did body (Ok (incoming.Whole head)) (Ok reply) =
      (bytes : List ℕ) → HasTaken body bytes → (own : List MoveEntry) × did own × IsReplied bytes head.close own reply
  AnswersCame did body (Ok (incoming.Whole head)) (Err end) = ⊥
  AnswersCame did body (Ok (incoming.Refused refusal)) answer = did [] × (answer ≡ Ok (Refused refusal))
  AnswersCame did body (Ok incoming.Cut) answer = did [] × (answer ≡ Err CutShort)
  AnswersCame did body (Ok incoming.Ended) answer = did [] × (answer ≡ Err Ended)
  AnswersCame did body (Err lost.ReadFault) answer = did [] × (answer ≡ Err ReadFault)
  AnswersCame did body (Err lost.Memory) answer = did [] × (answer ≡ Ok NoMemory)

  -- a reply was written, and what follows was done; or a first part of it was written; or there is none, and the conversation had ended
  abbrev pub IsFinished : Result HttpReply Served → List MoveEntry → Option Served → Tells → Tells → Type 0
  IsFinished (Ok reply) after end old new =
      ((x : Unit {0}) × Sends {X = Unit {0}} {E = Failed} (Ok x) (text_of_reply reply) old new × FollowsReply reply after end)
      ⊎ ((e : Failed) × Sends {X = Unit {0}} {E = Failed} (Err e) (text_of_reply reply) old new × (after ≡ []) × (end ≡ Some WriteFault))
  IsFinished (Err ended) after end old new = (new ≡ old) × (after ≡ []) × (end ≡ Some ended)

-- how often reads failed where a request came or didn't
abbrev pub CountsCame : Result HttpReply Served → ℕ → ℕ → Type 0
CountsCame (Ok reply) before after = after ≡ before
CountsCame (Err Ended) before after = after ≡ before
CountsCame (Err CutShort) before after = after ≡ before
CountsCame (Err ReadFault) before after = HasRisen before after
CountsCame (Err WriteFault) before after = ⊥
CountsCame (Err Memory) before after = ⊥

-- what was read of the link, and the moves for it
pub record ComesOnLink (made : List ℕ → List ℕ → List Bool → Option (List ℕ) → Type 0) (wakes : Bool → Type 0) (did : List MoveEntry → Type 0) (came : Result HttpReply Served) (old new : Tells) : Type 0 where
  pub taken : List ℕ
  pub own : List MoveEntry
  pub shows : CameWithDue made wakes came (AtEnd old.left new.left) taken own
  pub moves : did own
  pub read : ReadsBytes taken old.left new.left
  pub counted : CountsCame came old.read_faults new.read_faults
  pub output : SameOutput old new

-- the counts and what was handed on, where the next request may come or the conversation ends
abbrev pub AccountsOne : Option Served → Tells → Tells → Type 0
AccountsOne None old new =
    (new.read_faults ≡ old.read_faults) × (new.write_faults ≡ old.write_faults) × HandsOnAll old new
AccountsOne (Some end) old new = Accounts end old new

-- one request of a link and of one who makes moves, and what follows
pub record ServesOne (made : List ℕ → List ℕ → List Bool → Option (List ℕ) → Type 0) (wakes : Bool → Type 0) (did : List MoveEntry → Type 0) (end : Option Served) (old new : Tells) : Type 0 where
  pub part : Part
  pub answers : AnswersOne made wakes end (AtEnd old.left new.left) part
  pub moves : did part.entries
  pub read : ReadsBytes part.taken old.left new.left
  pub wrote : BothTold old.written new.written (Appends part.out)
  pub accounts : AccountsOne end old new
  pub grew : Grows old.handed_on new.handed_on
