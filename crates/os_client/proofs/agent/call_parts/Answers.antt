use Rattle.os_client.specs.LinkCalls.{calling}
use Rattle.os_client.proofs.CallSteps.{calls_as}
use Rattle.os_client.proofs.agent.call_parts.Goals as goal

pub returns : goal.returns
returns g c = calls_as _ _ _ _ _ (λ i. calling c.args.kind (c.in_ok-osil.ensures i) (c.in_ok-osol.ensures i) (c.in_ok-ospl.ensures i)) c.call.ensures
