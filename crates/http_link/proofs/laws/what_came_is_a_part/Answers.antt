use Rattle.http_link.proofs.OneReply.{done_part, begun_part}
use Rattle.http_link.proofs.laws.what_came_is_a_part.Goals as goal

pub returns-clause-done : goal.returns-clause-done
returns-clause-done c = done_part

pub returns-clause-begun : goal.returns-clause-begun
returns-clause-begun c = begun_part
