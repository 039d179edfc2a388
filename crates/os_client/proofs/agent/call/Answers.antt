use Rattle.std.proofs.Common.{◌∙◌, refl, Err}
use Rattle.os_client.specs.declared.fault.CallFault.TheVariants.{WriteFault}
use Rattle.os_client.proofs.CallSteps.{asked_listened, fails_to_ask, calls_of}
use Rattle.os_client.proofs.agent.call.Goals as goal

pub returns-in-Ok-ask : goal.returns-in-Ok-ask
returns-in-Ok-ask g c =
    calls_of _ c.as_slice.result.now _ _ c.listen.result _ _ c.name.ensures (c.as_slice.ensures ∙ c.in-Ok.ensures)
    (asked_listened c.in-Ok-ask.field-0 c.name.result.now c.as_slice.result.now c.listen.result _ _ _ c.in-Ok-ask.ensures c.listen.ensures.came c.listen.ensures.output)

pub returns : goal.returns
returns g c =
    calls_of c.as_slice.result.now c.as_slice.result.now c.as_slice.result.now _ (Err WriteFault) _ _ refl (c.as_slice.ensures ∙ c.in-Ok.ensures)
    (fails_to_ask c.in-Err.field-0 c.as_slice.result.now _ _ c.in-Err.ensures)
