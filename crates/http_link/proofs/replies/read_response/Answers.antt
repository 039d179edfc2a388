use Rattle.std.proofs.Common.{[], None, Some, Ok, Err, refl, sym, ap, length, arith}
use Rattle.os_io.specs.Bodies.{TakesBehind, HasKept, behind_none, behind_both}
use Rattle.http_link.specs.declared.requests.HeadRead.TheVariants as heads
use Rattle.http_link.specs.Pieces.{TakesPieces}
use Rattle.http_link.specs.Replies.{most_of}
use Rattle.http_link.proofs.Pieces.{pieces_taken}
use Rattle.http_link.proofs.RequestSteps.{head_at}
use Rattle.http_link.proofs.ReplySteps.{head_says, large_says, cut_begun, blank_begun, comes_refused, comes_large, comes_cut, comes_blank, comes_behind, comes_lost, brings_body_fault, brings_joined, reads_of, body_of}
use Rattle.http_link.proofs.OneReply.{refused_no_reply, begun_no_reply}
use Rattle.http_link.proofs.replies.read_response.Goals as goal

pub returns-in_default-clause-came : goal.returns-in_default-clause-came
returns-in_default-clause-came g c =
    comes_refused c.in-Ok-Whole.head c.in-Ok-Whole.field-0-1 _ _
    (head_at c.in-Ok-Whole.field-0 (heads.Whole c.in-Ok-Whole.head c.in-Ok-Whole.field-0-1) _ _ c.in-Ok-Whole.field-0-is c.in-Ok-Whole.ensures.answer)
    (reads_of c.as_slice.result.now c.in-Ok-Whole.head None None c.as_slice.ensures refl c.in_default.ensures)

pub returns-in_default-clause-reply : goal.returns-in_default-clause-reply
returns-in_default-clause-reply g c =
    refused_no_reply c.in-Ok-Whole.head
    (head_says c.in-Ok-Whole.head c.in-Ok-Whole.field-0-1 _ _ None
    (head_at c.in-Ok-Whole.field-0 (heads.Whole c.in-Ok-Whole.head c.in-Ok-Whole.field-0-1) _ _ c.in-Ok-Whole.field-0-is c.in-Ok-Whole.ensures.answer)
    (reads_of c.as_slice.result.now c.in-Ok-Whole.head None None c.as_slice.ensures refl c.in_default.ensures))

pub returns-in-Ok-TooLarge-clause-came : goal.returns-in-Ok-TooLarge-clause-came
returns-in-Ok-TooLarge-clause-came g c =
    comes_large c.in-Ok-TooLarge.bytes _ _
    (head_at c.in-Ok-TooLarge.field-0 (heads.TooLarge c.in-Ok-TooLarge.bytes) _ _ c.in-Ok-TooLarge.field-0-is c.in-Ok-TooLarge.ensures.answer)

pub returns-in-Ok-TooLarge-clause-reply : goal.returns-in-Ok-TooLarge-clause-reply
returns-in-Ok-TooLarge-clause-reply g c =
    refused_no_reply c.in-Ok-TooLarge.bytes (large_says c.in-Ok-TooLarge.bytes _ _
    (head_at c.in-Ok-TooLarge.field-0 (heads.TooLarge c.in-Ok-TooLarge.bytes) _ _ c.in-Ok-TooLarge.field-0-is c.in-Ok-TooLarge.ensures.answer))

pub returns-in-Ok-Cut-clause-came : goal.returns-in-Ok-Cut-clause-came
returns-in-Ok-Cut-clause-came g c =
    comes_cut c.in-Ok-Cut.bytes _ _
    (head_at c.in-Ok-Cut.field-0 (heads.Cut c.in-Ok-Cut.bytes) _ _ c.in-Ok-Cut.field-0-is c.in-Ok-Cut.ensures.answer)

pub returns-in-Ok-Cut-clause-reply : goal.returns-in-Ok-Cut-clause-reply
returns-in-Ok-Cut-clause-reply g c =
    begun_no_reply c.in-Ok-Cut.bytes (cut_begun c.in-Ok-Cut.bytes _ _
    (head_at c.in-Ok-Cut.field-0 (heads.Cut c.in-Ok-Cut.bytes) _ _ c.in-Ok-Cut.field-0-is c.in-Ok-Cut.ensures.answer))

pub returns-in-Ok-Ended-clause-came : goal.returns-in-Ok-Ended-clause-came
returns-in-Ok-Ended-clause-came g c =
    comes_blank c.in-Ok-Ended.bytes _ _
    (head_at c.in-Ok-Ended.field-0 (heads.Ended c.in-Ok-Ended.bytes) _ _ c.in-Ok-Ended.field-0-is c.in-Ok-Ended.ensures.answer)

pub returns-in-Ok-Ended-clause-reply : goal.returns-in-Ok-Ended-clause-reply
returns-in-Ok-Ended-clause-reply g c =
    begun_no_reply c.in-Ok-Ended.bytes (blank_begun c.in-Ok-Ended.bytes _ _
    (head_at c.in-Ok-Ended.field-0 (heads.Ended c.in-Ok-Ended.bytes) _ _ c.in-Ok-Ended.field-0-is c.in-Ok-Ended.ensures.answer))

pub returns-in-Ok-finish-clause-came : goal.returns-in-Ok-finish-clause-came
returns-in-Ok-finish-clause-came g c =
    let head = head_at c.in-Ok-Whole.field-0 (heads.Whole c.in-Ok-Whole.head c.in-Ok-Whole.field-0-1) _ _ c.in-Ok-Whole.field-0-is c.in-Ok-Whole.ensures.answer in
    let says = head_says c.in-Ok-Whole.head c.in-Ok-Whole.field-0-1 _ _ (Some c.in-Some.says) head
    (reads_of c.as_slice.result.now c.in-Ok-Whole.head _ _ c.as_slice.ensures refl c.in-Some.ensures) in
    let body = body_of (TakesPieces (TakesBehind HasKept) c.new-body.result c.read_body.new.body) c.most.result (most_of c.in-Some.says) (Ok c.in-Ok.field-0) _ _ c.most.ensures c.in-Ok.ensures.answer in
    let took = pieces_taken (TakesBehind HasKept) (behind_none HasKept) (behind_both HasKept) c.new-body.result body.1.0 in
    let kept = c.in-Ok-finish.ensures.ok body.0 (took [] (λ _. c.new-body.ensures.text)) in
    brings_joined c.in-Ok-Whole.head c.in-Ok-finish.body c.in-Some.says c.join.result _ _ says (omega (arith, body.1.1, body.1.2, ap length kept))
    (comes_behind (TakesPieces (TakesBehind HasKept) c.new-body.result c.read_body.new.body) c.in-Ok-Whole.head c.in-Ok-Whole.field-0-1 c.in-Ok.field-0 c.in-Ok-finish.body c.in-Some.says _ _ _ head says body (sym kept))
    c.join.ensures.bytes c.join.ensures.memory

pub returns-in-Err-finish-clause-came : goal.returns-in-Err-finish-clause-came
returns-in-Err-finish-clause-came g c =
    let head = head_at c.in-Ok-Whole.field-0 (heads.Whole c.in-Ok-Whole.head c.in-Ok-Whole.field-0-1) _ _ c.in-Ok-Whole.field-0-is c.in-Ok-Whole.ensures.answer in
    let says = head_says c.in-Ok-Whole.head c.in-Ok-Whole.field-0-1 _ _ (Some c.in-Some.says) head
    (reads_of c.as_slice.result.now c.in-Ok-Whole.head _ _ c.as_slice.ensures refl c.in-Some.ensures) in
    let body = body_of (TakesPieces (TakesBehind HasKept) c.new-body.result c.read_body.new.body) c.most.result (most_of c.in-Some.says) (Ok c.in-Ok.field-0) _ _ c.most.ensures c.in-Ok.ensures.answer in
    comes_lost c.in-Ok-Whole.head body.0 c.in-Some.says _ _ says (omega (arith, body.1.1, body.1.2))
    (comes_behind (TakesPieces (TakesBehind HasKept) c.new-body.result c.read_body.new.body) c.in-Ok-Whole.head c.in-Ok-Whole.field-0-1 c.in-Ok.field-0 body.0 c.in-Some.says _ _ _ head says body refl)

pub returns-in-Err-read_body-clause-came : goal.returns-in-Err-read_body-clause-came
returns-in-Err-read_body-clause-came g c =
    let head = head_at c.in-Ok-Whole.field-0 (heads.Whole c.in-Ok-Whole.head c.in-Ok-Whole.field-0-1) _ _ c.in-Ok-Whole.field-0-is c.in-Ok-Whole.ensures.answer in
    let says = head_says c.in-Ok-Whole.head c.in-Ok-Whole.field-0-1 _ _ (Some c.in-Some.says) head
    (reads_of c.as_slice.result.now c.in-Ok-Whole.head _ _ c.as_slice.ensures refl c.in-Some.ensures) in
    let body = body_of (TakesPieces (TakesBehind HasKept) c.new-body.result c.read_body.new.body) c.most.result (most_of c.in-Some.says) (Err c.in-Err-read_body.field-0) _ _ c.most.ensures c.in-Err-read_body.ensures.answer in
    brings_body_fault (TakesPieces (TakesBehind HasKept) c.new-body.result c.read_body.new.body) c.in-Ok-Whole.head c.in-Ok-Whole.field-0-1 c.in-Some.says c.in-Err-read_body.field-0 _ _ _ head says body
