-- What a request is replied, by the moves that it asks.
use Rattle.std.proofs.Common.{◌≡◌, ℕ, Bool, false, List, [], inl, inr, Option, Some, Result, Ok, Err, refl, sym, ◌∙◌, ap, subst}
use Rattle.std.specs.Prelude.{IfOk}
use Rattle.std.specs.declared.alloc.AllocError.{AllocError}
use Rattle.http_link.specs.Requests.{IsRequest}
use Rattle.six_calls.specs.declared.call.CallKind.{CallKind}
use Rattle.job_table.specs.declared.entries.Reply as tables
use Rattle.job_table.specs.History.{MoveEntry}
use Rattle.os_server.specs.declared.order.Order.{Order}
use Rattle.os_server.specs.declared.fault.FaultCode.{FaultCode}
use Rattle.os_server.specs.declared.fault.OrderFault.{OrderFault}
use Rattle.os_server.specs.declared.fault.OrderFault.TheVariants as none
use Rattle.os_server.specs.declared.saying.ReplyEnvelope.{ReplyEnvelope}
use Rattle.os_server.specs.declared.reply.HttpReply.{HttpReply}
use Rattle.os_server.specs.declared.reply.HttpReply.TheVariants.{Answer, Refused, NoMemory}
use Rattle.os_server.specs.Orders.{Asks, Faults, AsksNothing}
use Rattle.os_server.specs.Answers.{said_by, fault_said, returns}
use Rattle.os_server.specs.Talk.{IsReplyDue}
use Rattle.os_server.specs.Serving.{DoesOrder, IsReplied}
use Rattle.job_runs.proofs.Judgements.{Made}
use Rattle.os_server.proofs.Pieces.{Wakes}

abbrev Bytes : Type 0
Bytes = Option (List ℕ)

-- what is said by a reply, put otherwise
pub said_as : (kind : CallKind) (n : ℕ) (last : tables.Reply) (said : ReplyEnvelope) (r : Result ReplyEnvelope AllocError) → said_by kind n last ≡ Some said
    → IfOk r (λ s. s ≡ said) → IfOk r (λ s. said_by kind n last ≡ Some s)
said_as kind n last said (Ok s) is e = is ∙ ap (λ x. Some x) (sym e)
said_as kind n last said (Err lost) is e = tt

pub returned_as : (kind : CallKind) (n : ℕ) (last : tables.Reply) (text : List ℕ) (r : Result ReplyEnvelope AllocError) → said_by kind n last ≡ returns kind text
    → IfOk r (λ s. returns kind text ≡ Some s) → IfOk r (λ s. said_by kind n last ≡ Some s)
returned_as kind n last text (Ok s) is e = is ∙ e
returned_as kind n last text (Err lost) is e = tt

-- what is ordered is what a body is replied that asks it
pub replied : (made : Made) (wakes : Wakes) (body : List ℕ) (order : Order) (close : Bool) (own : List MoveEntry) (r : HttpReply) → Asks body order
    → DoesOrder made wakes order close own r → IsReplied made wakes body close own r
replied made wakes body order close own (Answer said closes as_worker) asks (same, last, does, says, woken) =
    (same, inl (record { order = order; last = last; asks = asks; does = does; says = says; woken = woken }))
replied made wakes body order close own (Refused refusal) asks p = absurd p
replied made wakes body order close own NoMemory asks p = inr (order, asks, p)

faulted : (made : Made) (wakes : Wakes) (body : List ℕ) (close : Bool) (code : FaultCode) (text : List ℕ) (said : ReplyEnvelope) → Faults body code text
    → said ≡ fault_said code text → IsReplied made wakes body close [] (Answer said close false)
faulted made wakes body close code text said faults is =
    (refl, inr (record { code = code; text = text; faults = faults; none = refl; says = is; alone = refl }))

-- a fault of a call that is refused
pub refused : (made : Made) (wakes : Wakes) (body : List ℕ) (close : Bool) (n : OrderFault) (code : FaultCode) (text lent : List ℕ) (said : ReplyEnvelope)
    → n ≡ none.Fault code text → lent ≡ text → AsksNothing body n → said ≡ fault_said code lent
    → IsReplied made wakes body close [] (Answer said close false)
refused made wakes body close n code text lent said is lent_is nothing says =
    faulted made wakes body close code text said (subst (λ (m : OrderFault). AsksNothing body m) is nothing) (says ∙ ap (fault_said code) lent_is)

-- a reply to a body is due to its request
pub due : (made : Made) (wakes : Wakes) (taken body : List ℕ) (close : Bool) (own : List MoveEntry) (r : HttpReply) → IsRequest taken close body
    → IsReplied made wakes body close own r → IsReplyDue made wakes taken own r
due made wakes taken body close own (Answer said closes as_worker) request (same, answers) =
    (body, subst (λ (c : Bool). IsRequest taken c body) (sym same) request, answers)
due made wakes taken body close own (Refused refusal) request (fails, is, alone) = (inr (close, body, request, fails, is), alone)
due made wakes taken body close own NoMemory request lacks = inr (close, body, request, lacks)
