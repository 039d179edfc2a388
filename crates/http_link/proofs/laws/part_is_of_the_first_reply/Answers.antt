use Rattle.http_link.proofs.OneReply.{part_once}
use Rattle.http_link.proofs.laws.part_is_of_the_first_reply.Goals as goal

pub returns : goal.returns
returns c = part_once
