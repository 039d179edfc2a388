use Rattle.search_rules.proofs.MetNodes.{told_in_order}
use Rattle.search_rules.proofs.laws.met_nodes_are_told_in_order.Goals as goal

pub returns : goal.returns
returns c = λ T ms p. told_in_order T ms p
