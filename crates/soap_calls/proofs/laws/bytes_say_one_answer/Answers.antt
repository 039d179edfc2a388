use Rattle.soap_calls.proofs.OneAnswer.{answer_text_once}
use Rattle.soap_calls.proofs.laws.bytes_say_one_answer.Goals as goal

pub returns : goal.returns
returns c = answer_text_once
