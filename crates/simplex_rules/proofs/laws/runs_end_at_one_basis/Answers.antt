use Rattle.simplex_rules.proofs.OneEnd.{basis_once}
use Rattle.simplex_rules.proofs.laws.runs_end_at_one_basis.Goals as goal

pub returns : goal.returns
returns c = λ I zeroed t k e f d b ss ts good p q. basis_once I zeroed t k e f d b ss ts good p q
