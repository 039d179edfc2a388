use Rattle.std.proofs.Common.{inr, refl, subst, Option}
use Rattle.http_link.specs.Replies.{Replies}
use Rattle.http_link.specs.declared.replies.Response.{Response}
use Rattle.soap_calls.specs.declared.fault.Answer.TheVariants.{Return, Fault}
use Rattle.os_client.proofs.Readings.{no_response, response_of, of_other_status, said_of, none_said, not_said}
use Rattle.os_client.proofs.reading.reading.Goals as goal

pub returns-in_default : goal.returns-in_default
returns-in_default c =
    inr (refl, no_response _ _ (subst (λ (r : Option Response). Replies c.args.came.bytes r) c.in_default.is c.requires))

pub returns-else-status-eq200 : goal.returns-else-status-eq200
returns-else-status-eq200 c =
    let said = said_of _ c.as_slice.result.now c.in-Some.response.body c.in-Ok-Return.field-0 (Return c.in-Ok-Return.text) c.as_slice.ensures c.in-Ok-Return.field-0-is c.in-Ok-Return.ensures.ok in
    inr (
      refl,
      c.unanswered_is_no_reply.ensures _ _ c.in-Some.response.body c.in-Some.response.status
          (response_of _ _ c.in-Some.response c.in-Some.is c.requires) (c.has_answer.ensures.0 (cc))
          (of_other_status _ _ _ (Return c.in-Ok-Return.text) (λ a. c.bytes_say_one_answer.ensures _ _ a (Return c.in-Ok-Return.text)) said c.if-status-eq200.false),
    )

pub returns-else-status-eq500 : goal.returns-else-status-eq500
returns-else-status-eq500 c =
    let said = said_of _ c.as_slice.result.now c.in-Some.response.body c.in-Ok-Fault.field-0 (Fault c.in-Ok-Fault.code c.in-Ok-Fault.text) c.as_slice.ensures c.in-Ok-Fault.field-0-is c.in-Ok-Fault.ensures.ok in
    inr (
      refl,
      c.unanswered_is_no_reply.ensures _ _ c.in-Some.response.body c.in-Some.response.status
          (response_of _ _ c.in-Some.response c.in-Some.is c.requires) (c.has_answer.ensures.0 (cc))
          (of_other_status _ _ _ (Fault c.in-Ok-Fault.code c.in-Ok-Fault.text) (λ a. c.bytes_say_one_answer.ensures _ _ a (Fault c.in-Ok-Fault.code c.in-Ok-Fault.text)) said c.if-status-eq500.false),
    )

pub returns-in-Err-Form : goal.returns-in-Err-Form
returns-in-Err-Form c =
    inr (
      refl,
      c.unanswered_is_no_reply.ensures _ _ c.in-Some.response.body c.in-Some.response.status
          (response_of _ _ c.in-Some.response c.in-Some.is c.requires) (c.has_answer.ensures.0 (cc))
          (none_said _ c.as_slice.result.now c.in-Some.response.body c.in-Some.response.status c.as_slice.ensures
          (not_said _ _ c.in-Err-Form.field-0 c.in-Err-Form.field-0-is c.in-Err-Form.ensures.err)),
    )
