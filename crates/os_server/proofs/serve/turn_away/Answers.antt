use Rattle.os_server.proofs.NoMemory.{turned, cut_off}
use Rattle.os_server.proofs.serve.turn_away.Goals as goal

pub returns-in-Ok-clause-serves : goal.returns-in-Ok-clause-serves
returns-in-Ok-clause-serves g c =
    turned g.S.Runner.ran g.S.Server.wakes (g.I.Stream.tells c.args._input.now) (g.O.Stream.tells c.args.output.now) (g.O.Stream.tells c.send_reply.new.sink) c.in-Ok.field-0 c.in-Ok.ensures

pub returns-in-Err-clause-serves : goal.returns-in-Err-clause-serves
returns-in-Err-clause-serves g c =
    cut_off g.S.Runner.ran g.S.Server.wakes (g.I.Stream.tells c.args._input.now) (g.O.Stream.tells c.args.output.now) (g.O.Stream.tells c.send_reply.new.sink) c.in-Err.field-0 c.in-Err.ensures
