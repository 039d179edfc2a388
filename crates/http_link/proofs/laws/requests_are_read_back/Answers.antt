use Rattle.http_link.proofs.OutgoingBytes.{asked_back}
use Rattle.http_link.proofs.laws.requests_are_read_back.Goals as goal

pub returns : goal.returns
returns c = asked_back
