use Rattle.soap_calls.specs.Writing.{call_text}
use Rattle.os_client.proofs.laws.requests_are_calls.Goals as goal

pub returns-clause-request : goal.returns-clause-request
returns-clause-request c call short = c.requests_are_read_back.ensures (call_text call) short

pub returns-clause-call : goal.returns-clause-call
returns-clause-call c call texts short = c.calls_are_read_back.ensures.call call texts short
