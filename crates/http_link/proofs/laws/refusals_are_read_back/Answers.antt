use Rattle.http_link.proofs.ReadBacks.{refusal_back}
use Rattle.http_link.proofs.laws.refusals_are_read_back.Goals as goal

pub returns : goal.returns
returns c = refusal_back
