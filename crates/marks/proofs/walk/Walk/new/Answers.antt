use Rattle.marks.proofs.Walks.{kept_none}
use Rattle.marks.proofs.walk.Walk.new.Goals as goal

pub returns : goal.returns
returns c test = kept_none test
