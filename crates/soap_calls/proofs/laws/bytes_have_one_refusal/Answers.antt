use Rattle.soap_calls.proofs.OneCall.{refusal_once}
use Rattle.soap_calls.proofs.laws.bytes_have_one_refusal.Goals as goal

pub returns : goal.returns
returns c = refusal_once
