use Rattle.soap_calls.proofs.OneCall.{refusal_apart}
use Rattle.soap_calls.proofs.laws.calls_are_not_refused.Goals as goal

pub returns : goal.returns
returns c = refusal_apart
