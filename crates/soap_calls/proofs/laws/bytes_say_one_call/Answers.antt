use Rattle.soap_calls.proofs.OneCall.{call_text_once}
use Rattle.soap_calls.proofs.laws.bytes_say_one_call.Goals as goal

pub returns : goal.returns
returns c = call_text_once
