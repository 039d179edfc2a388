use Rattle.std.proofs.Common.{◌≡◌, ◌∷◌, [], Some, length, ap, arith, rules, true, false, length-append}
use Rattle.http_link.proofs.LinkReads.{took_more}
use Rattle.http_link.proofs.RequestSteps.{head_fault, head_cut, head_large, head_found, head_lost, end_at, byte_at, pushed_at, took_as}
use Rattle.http_link.proofs.requests.read_head.Goals as goal

pub returns-in_default-clause-answer : goal.returns-in_default-clause-answer
returns-in_default-clause-answer g c =
    let test = c.loop-source-test.true in
    let size = c.len.ensures in
    head_fault _ _ _ _ _ _ c.loop-source.invariant.begun (omega (arith, test, size)) c.loop-source.invariant.taken
    (first_of (search rules, grind (arith, c.in_default.ensures.err)))

pub returns-in_default-got-clause-answer : goal.returns-in_default-got-clause-answer
returns-in_default-got-clause-answer g c =
    let test = c.loop-source-test.true in
    let size = c.len.ensures in
    head_cut _ _ _ _ _ _ c.loop-source.invariant.begun
    (λ blank. let never : false ≡ true = c.if-is_blank.ensures.1 blank in cc) (omega (arith, test, size)) c.loop-source.invariant.taken
    (end_at c.in-Ok.got _ _ (λ b some. first_of (search (rules, c.in_default-got.not-Some), grind (arith, c.in_default-got.not-Some))) c.in-Ok.ensures.byte)

pub returns-in-Ok-Some-clause-answer : goal.returns-in-Ok-Some-clause-answer
returns-in-Ok-Some-clause-answer g c =
    let test = c.loop-source-test.true in
    let size = c.len.ensures in
    let now = c.in-Ok-Some.ensures.text in
    head_found c.push.new.self.text c.in-Ok-Some.lines _ _
    (pushed_at c.in-Ok-Some.field-0 (Some c.in-Ok-Some.lines) c.push.new.self.text c.push.new.self.start c.push.new.self.lines c.in-Ok-Some.field-0-is c.in-Ok-Some.ensures.ok)
    (omega (arith, test, size, ap length now, length-append c.loop-source.head.text (c.in-Some.byte ∷ [])))
    (took_as _ _ _ _ now (took_more _ _ _ _ _ c.loop-source.invariant.taken (byte_at c.in-Ok.got (Some c.in-Some.byte) _ _ c.in-Some.is c.in-Ok.ensures.byte)))

pub returns-in-Err-clause-answer : goal.returns-in-Err-clause-answer
returns-in-Err-clause-answer g c =
    let test = c.loop-source-test.true in
    let size = c.len.ensures in
    head_lost c.loop-source.head.text c.in-Some.byte _ _ _ _ c.loop-source.invariant.begun (omega (arith, test, size)) (took_more _ _ _ _ _ c.loop-source.invariant.taken (byte_at c.in-Ok.got (Some c.in-Some.byte) _ _ c.in-Some.is c.in-Ok.ensures.byte))

pub returns-clause-answer : goal.returns-clause-answer
returns-clause-answer g c =
    let test = c.loop-source-test.false in
    let size = c.len.ensures in
    head_large _ _ _ _ _ c.loop-source.invariant.begun c.loop-source.invariant.fits (omega (arith, test, size)) c.loop-source.invariant.taken
