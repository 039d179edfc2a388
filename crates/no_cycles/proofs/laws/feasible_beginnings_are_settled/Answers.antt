use Rattle.no_cycles.proofs.FirstBasis.{settled_first}
use Rattle.no_cycles.proofs.laws.feasible_beginnings_are_settled.Goals as goal

pub returns : goal.returns
returns c = settled_first
