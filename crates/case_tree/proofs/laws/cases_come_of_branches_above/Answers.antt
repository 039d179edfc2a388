use Rattle.case_tree.proofs.Paths.{pending_same}
use Rattle.case_tree.proofs.laws.cases_come_of_branches_above.Goals as goal

pub returns : goal.returns
returns c = pending_same
