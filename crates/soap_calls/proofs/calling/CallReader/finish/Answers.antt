use Rattle.soap_calls.proofs.FoundCalls.{found_says, found_fails}
use Rattle.soap_calls.proofs.calling.CallReader.finish.Goals as goal

pub returns-in-Ok-clause-ok : goal.returns-in-Ok-clause-ok
returns-in-Ok-clause-ok c = λ bytes h. found_says bytes c.in-Ok.found c.call.result c.call.ensures (c.in-Ok.ensures.finds bytes h.heard)

pub returns-in-Ok-clause-err : goal.returns-in-Ok-clause-err
returns-in-Ok-clause-err c = λ bytes h. found_fails bytes c.in-Ok.found c.call.result c.call.ensures (c.in-Ok.ensures.finds bytes h.heard)
