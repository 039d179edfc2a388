use Rattle.os_server.proofs.RequestCuts.{cut_one_way}
use Rattle.os_server.proofs.laws.bytes_are_cut_one_way.Goals as goal

pub returns : goal.returns
returns g c = cut_one_way g.S.Runner.ran g.S.Server.wakes c.requests_are_read_one_way.ensures c.bodies_are_read_one_way.ensures
