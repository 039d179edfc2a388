use Rattle.os_client.proofs.Readings.{unanswered}
use Rattle.os_client.proofs.reading.unanswered_is_no_reply.Goals as goal

pub returns : goal.returns
returns c = unanswered c.bytes_are_one_reply.ensures
