use Rattle.std.proofs.Common.{Ok, Err, List, ℕ, subst}
use Rattle.http_link.specs.Checks.{Head}
use Rattle.http_link.specs.declared.requests.HeadRead.TheVariants.{Whole, TooLarge, Cut, Ended}
use Rattle.http_link.specs.Pieces.{TakesPieces, none}
use Rattle.http_link.proofs.RequestSteps.{answer_whole, answer_cut, answer_fault, answer_refused, answer_large, answer_cut_head, answer_ended, answer_head_fault, head_at}
use Rattle.http_link.proofs.requests.read_request_into.Goals as goal

pub returns-then-count-said-clause-answer : goal.returns-then-count-said-clause-answer
returns-then-count-said-clause-answer g c =
    answer_cut (TakesPieces g.B.Body.took c.args.body.now c.read_body.new.body) c.in-Ok-Whole.head c.in-Ok-Whole.lines c.in-Ok.said.len c.in-Ok-read_body.count c.in-Ok.said.close _ _ _
    (head_at c.in-Ok-Whole.field-0 (Whole c.in-Ok-Whole.head c.in-Ok-Whole.lines) _ _ c.in-Ok-Whole.field-0-is c.in-Ok-Whole.ensures.answer)
    (subst (λ (h : List ℕ). Head h (Ok c.in-Ok.said)) c.as_slice.ensures c.in-Ok.ensures)
    c.in-Ok-read_body.ensures.answer c.if-count-said.true

pub returns-in-Ok-read_body-clause-answer : goal.returns-in-Ok-read_body-clause-answer
returns-in-Ok-read_body-clause-answer g c =
    answer_whole (TakesPieces g.B.Body.took c.args.body.now c.read_body.new.body) c.in-Ok-Whole.head c.in-Ok-Whole.lines c.in-Ok.said.len c.in-Ok-read_body.count c.in-Ok.said.close _ _ _
    (head_at c.in-Ok-Whole.field-0 (Whole c.in-Ok-Whole.head c.in-Ok-Whole.lines) _ _ c.in-Ok-Whole.field-0-is c.in-Ok-Whole.ensures.answer)
    (subst (λ (h : List ℕ). Head h (Ok c.in-Ok.said)) c.as_slice.ensures c.in-Ok.ensures)
    c.in-Ok-read_body.ensures.answer c.if-count-said.false

pub returns-in-Ok-clause-answer : goal.returns-in-Ok-clause-answer
returns-in-Ok-clause-answer g c =
    answer_fault (TakesPieces g.B.Body.took c.args.body.now c.read_body.new.body) c.in-Ok-Whole.head c.in-Ok-Whole.lines c.in-Ok.said.len c.in-Ok.said.close c.in-Err-read_body.field-0 _ _ _
    (head_at c.in-Ok-Whole.field-0 (Whole c.in-Ok-Whole.head c.in-Ok-Whole.lines) _ _ c.in-Ok-Whole.field-0-is c.in-Ok-Whole.ensures.answer)
    (subst (λ (h : List ℕ). Head h (Ok c.in-Ok.said)) c.as_slice.ensures c.in-Ok.ensures)
    c.in-Err-read_body.ensures.answer

pub returns-in-Ok-Whole-clause-answer : goal.returns-in-Ok-Whole-clause-answer
returns-in-Ok-Whole-clause-answer g c =
    answer_refused (TakesPieces g.B.Body.took c.args.body.now c.args.body.now) c.in-Ok-Whole.head c.in-Ok-Whole.lines c.in-Err-judge.refusal _ _ none
    (head_at c.in-Ok-Whole.field-0 (Whole c.in-Ok-Whole.head c.in-Ok-Whole.lines) _ _ c.in-Ok-Whole.field-0-is c.in-Ok-Whole.ensures.answer)
    (subst (λ (h : List ℕ). Head h (Err c.in-Err-judge.refusal)) c.as_slice.ensures c.in-Err-judge.ensures)

pub returns-in-Ok-TooLarge-clause-answer : goal.returns-in-Ok-TooLarge-clause-answer
returns-in-Ok-TooLarge-clause-answer g c =
    answer_large (TakesPieces g.B.Body.took c.args.body.now c.args.body.now) c.in-Ok-TooLarge.field-0-0 _ _ none
    (head_at c.in-Ok-TooLarge.field-0 (TooLarge c.in-Ok-TooLarge.field-0-0) _ _ c.in-Ok-TooLarge.field-0-is c.in-Ok-TooLarge.ensures.answer)

pub returns-in-Ok-Cut-clause-answer : goal.returns-in-Ok-Cut-clause-answer
returns-in-Ok-Cut-clause-answer g c =
    answer_cut_head (TakesPieces g.B.Body.took c.args.body.now c.args.body.now) c.in-Ok-Cut.field-0-0 _ _ none
    (head_at c.in-Ok-Cut.field-0 (Cut c.in-Ok-Cut.field-0-0) _ _ c.in-Ok-Cut.field-0-is c.in-Ok-Cut.ensures.answer)

pub returns-in-Ok-Ended-clause-answer : goal.returns-in-Ok-Ended-clause-answer
returns-in-Ok-Ended-clause-answer g c =
    answer_ended (TakesPieces g.B.Body.took c.args.body.now c.args.body.now) c.in-Ok-Ended.field-0-0 _ _ none
    (head_at c.in-Ok-Ended.field-0 (Ended c.in-Ok-Ended.field-0-0) _ _ c.in-Ok-Ended.field-0-is c.in-Ok-Ended.ensures.answer)

pub returns-clause-answer : goal.returns-clause-answer
returns-clause-answer g c = answer_head_fault (TakesPieces g.B.Body.took c.args.body.now c.args.body.now) c.in-Err.fault _ _ none c.in-Err.ensures.answer
