use Rattle.soap_calls.specs.Writing.{call_text}
use Rattle.soap_calls.proofs.OneCall.{call_answers}
use Rattle.soap_calls.proofs.BackCalls.{call_is}
use Rattle.soap_calls.proofs.laws.calls_are_read_back.Goals as goal

pub returns-clause-read : goal.returns-clause-read
returns-clause-read c = λ call r xml short ok err other. call_answers (call_text call) call r (call_is call xml short) ok err other

pub returns-clause-call : goal.returns-clause-call
returns-clause-call c = call_is
