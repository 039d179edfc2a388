use Rattle.os_server.proofs.OneOutput.{written_once}
use Rattle.os_server.proofs.laws.bytes_and_replies_decide_the_answers.Goals as goal

pub returns : goal.returns
returns g c = written_once g.S.Runner.ran g.S.Server.wakes c.requests_are_read_one_way.ensures c.bodies_are_read_one_way.ensures
