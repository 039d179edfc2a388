use Rattle.http_link.proofs.OneReply.{came_once}
use Rattle.http_link.proofs.laws.one_reply_comes_first.Goals as goal

pub returns : goal.returns
returns c = came_once
