use Rattle.std.proofs.Common.{refl, arith}
use Rattle.os_server.proofs.Rounds.{none_yet, comes, comes_between, finished_between, finished_out, one_request, one_more, last_one, all_done, output_then}
use Rattle.os_io.proofs.Pieces.{input_on}
use Rattle.os_server.proofs.serve.serve_ends.Goals as goal

pub loop-init : goal.loop-init
loop-init g c = record {
  so_far = none_yet g.S.Runner.ran g.S.Server.wakes _ _ (g.met.C.Mover.stays c.args.mover.now);
  output_of_input = record { written = refl; handed_on = refl; write_faults = refl };
  input_of_output = record { left = refl; read_faults = refl };
}

pub loop-preserved : goal.loop-preserved
loop-preserved g c =
    let read = c.read_request_into-came.ensures in
    let done = c.in-None.ensures in record {
      so_far = one_more g.S.Runner.ran g.S.Server.wakes _ _ _ _ _ _ _ (λ a b. g.met.C.Mover.joins _ _ _ a b) c.loop.invariant.so_far
          (one_request g.S.Runner.ran g.S.Server.wakes _ _ _ _ _ done.0 _ _ _ (λ a b. g.met.C.Mover.joins _ _ _ a b)
          (comes_between g.S.Runner.ran g.S.Server.wakes _ _ (g.I.Stream.tells c.loop.input) (g.I.Stream.tells c.read_request_into-came.new.source) (g.O.Stream.tells c.loop.output)
          (comes g.S.Runner.ran g.S.Server.wakes _ c.new-body.result _ _ _ _ _ c.new-body.ensures.taken read.answer read.counted read.output c.answer_request-answer.ensures)) done.1
          (finished_between g.S.Runner.ran g.S.Server.wakes _ _ _ (g.I.Stream.tells c.read_request_into-came.new.source) (g.O.Stream.tells c.loop.output) (g.O.Stream.tells c.finish_request.new.output) done.2));
      output_of_input = output_then _ _ _ c.loop.invariant.output_of_input read.output;
      input_of_output = input_on _ _ _ c.loop.invariant.input_of_output (finished_out g.S.Runner.ran g.S.Server.wakes _ _ _ _ _ done.2);
    }

pub returns-in-Some-clause-serves : goal.returns-in-Some-clause-serves
returns-in-Some-clause-serves g c =
    let read = c.read_request_into-came.ensures in
    let done = c.in-Some.ensures in
    last_one g.S.Runner.ran g.S.Server.wakes _ _ _ _ _ _ _ _ (λ a b. g.met.C.Mover.joins _ _ _ a b) (omega (arith, c.loop-test.true)) c.loop.invariant.so_far
    (one_request g.S.Runner.ran g.S.Server.wakes _ _ _ _ _ done.0 _ _ _ (λ a b. g.met.C.Mover.joins _ _ _ a b)
    (comes_between g.S.Runner.ran g.S.Server.wakes _ _ (g.I.Stream.tells c.loop.input) (g.I.Stream.tells c.read_request_into-came.new.source) (g.O.Stream.tells c.loop.output)
    (comes g.S.Runner.ran g.S.Server.wakes _ c.new-body.result _ _ _ _ _ c.new-body.ensures.taken read.answer read.counted read.output c.answer_request-answer.ensures)) done.1
    (finished_between g.S.Runner.ran g.S.Server.wakes _ _ _ (g.I.Stream.tells c.read_request_into-came.new.source) (g.O.Stream.tells c.loop.output) (g.O.Stream.tells c.finish_request.new.output) done.2))

pub returns-in-Some-clause-output_of_input : goal.returns-in-Some-clause-output_of_input
returns-in-Some-clause-output_of_input g c = output_then _ _ _ c.loop.invariant.output_of_input c.read_request_into-came.ensures.output

pub returns-in-Some-clause-input_of_output : goal.returns-in-Some-clause-input_of_output
returns-in-Some-clause-input_of_output g c =
    input_on _ _ _ c.loop.invariant.input_of_output (finished_out g.S.Runner.ran g.S.Server.wakes _ _ _ _ _ c.in-Some.ensures.2)

pub returns-clause-serves : goal.returns-clause-serves
returns-clause-serves g c = all_done g.S.Runner.ran g.S.Server.wakes _ _ _ _ (omega (arith, c.loop-test.false)) c.loop.invariant.so_far
