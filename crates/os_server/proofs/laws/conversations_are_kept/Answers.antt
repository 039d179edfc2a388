use Rattle.os_server.specs.Talk.{AtEnd}
use Rattle.os_server.proofs.Finishes.{talk_kept}
use Rattle.os_server.proofs.laws.conversations_are_kept.Goals as goal

pub returns : goal.returns
returns g c end left left' p start before now rises t runs =
    talk_kept g.S.Runner.ran g.V.Verdicts.right c.finishes_are_kept.ensures g.S.Server.wakes end (AtEnd left left') p t start before now rises runs
