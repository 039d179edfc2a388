use Rattle.std.proofs.Common.{arith}
use Rattle.os_server.proofs.Rounds.{none_yet, comes, one_request, one_more, last_one, all_done}
use Rattle.os_server.proofs.serve.serve_one.Goals as goal

pub loop-init : goal.loop-init
loop-init g c = none_yet g.S.Runner.ran g.S.Server.wakes _ _ (g.met.C.Mover.stays c.args.mover.now)

pub loop-preserved : goal.loop-preserved
loop-preserved g c =
    let read = c.read_request_into-came.ensures in
    let done = c.in-None.ensures in
    one_more g.S.Runner.ran g.S.Server.wakes _ _ _ _ _ _ _ (λ a b. g.met.C.Mover.joins _ _ _ a b) c.loop.invariant
    (one_request g.S.Runner.ran g.S.Server.wakes _ _ _ _ _ done.0 _ _ _ (λ a b. g.met.C.Mover.joins _ _ _ a b)
    (comes g.S.Runner.ran g.S.Server.wakes _ c.new-body.result _ _ _ _ _ c.new-body.ensures.taken read.answer read.counted read.output c.answer_request-answer.ensures) done.1 done.2)

pub returns-in-Some : goal.returns-in-Some
returns-in-Some g c =
    let read = c.read_request_into-came.ensures in
    let done = c.in-Some.ensures in
    last_one g.S.Runner.ran g.S.Server.wakes _ _ _ _ _ _ _ _ (λ a b. g.met.C.Mover.joins _ _ _ a b) (omega (arith, c.loop-test.true)) c.loop.invariant
    (one_request g.S.Runner.ran g.S.Server.wakes _ _ _ _ _ done.0 _ _ _ (λ a b. g.met.C.Mover.joins _ _ _ a b)
    (comes g.S.Runner.ran g.S.Server.wakes _ c.new-body.result _ _ _ _ _ c.new-body.ensures.taken read.answer read.counted read.output c.answer_request-answer.ensures) done.1 done.2)

pub returns : goal.returns
returns g c = all_done g.S.Runner.ran g.S.Server.wakes _ _ _ _ (omega (arith, c.loop-test.false)) c.loop.invariant
