use Rattle.os_io.specs.Streams.{SameInput, SameOutput}
use Rattle.os_server.specs.Talk.{both_ends}
use Rattle.os_server.proofs.Rounds.{SoFar}
use Rattle.os_server.proofs.serve.serve_ends.Given as goal

abbrev pub invariant-loop : goal.invariant-loop
invariant-loop g l = record {
  so_far : SoFar g.S.Runner.ran g.S.Server.wakes (g.C.Mover.did l.fn.mover l.mover) l.counter
      (both_ends (g.I.Stream.tells l.fn.input) (g.O.Stream.tells l.fn.output)) (both_ends (g.I.Stream.tells l.input) (g.O.Stream.tells l.output));
  output_of_input : SameOutput (g.I.Stream.tells l.fn.input) (g.I.Stream.tells l.input);
  input_of_output : SameInput (g.O.Stream.tells l.fn.output) (g.O.Stream.tells l.output);
}
