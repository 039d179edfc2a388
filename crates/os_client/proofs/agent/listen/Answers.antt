use Rattle.os_client.proofs.CallSteps.{listened}
use Rattle.os_client.proofs.agent.listen.Goals as goal

pub returns-in-Ok-clause-came : goal.returns-in-Ok-clause-came
returns-in-Ok-clause-came g c =
    listened c.what_came_is_a_part.ensures.done c.what_came_is_a_part.ensures.begun _ c.in-Ok.came.bytes _ _ _ c.reading.ensures
    c.in-Ok.ensures.came c.in-Ok.ensures.counted
