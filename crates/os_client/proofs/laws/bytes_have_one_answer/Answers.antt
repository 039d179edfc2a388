use Rattle.os_client.proofs.Readings.{said_once}
use Rattle.os_client.proofs.laws.bytes_have_one_answer.Goals as goal

pub returns : goal.returns
returns c = said_once c.bytes_are_one_reply.ensures c.bytes_say_one_answer.ensures
