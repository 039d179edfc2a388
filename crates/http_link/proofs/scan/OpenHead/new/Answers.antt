use Rattle.http_link.proofs.Lines.{open_none}
use Rattle.http_link.proofs.scan.OpenHead.new.Goals as goal

pub returns-clause-begun : goal.returns-clause-begun
returns-clause-begun c = rw c.new.ensures open_none
