use Rattle.http_link.proofs.OneReply.{reply_once}
use Rattle.http_link.proofs.laws.bytes_are_one_reply.Goals as goal

pub returns : goal.returns
returns c = reply_once
