use Rattle.simplex_rules.proofs.LeastIndices as Least
use Rattle.simplex_rules.proofs.laws.runs_are_by_least_indices.Goals as goal

pub returns-clause-legal : goal.returns-clause-legal
returns-clause-legal c = Least.legal

pub returns-clause-single : goal.returns-clause-single
returns-clause-single c = Least.single

pub returns-clause-on : goal.returns-clause-on
returns-clause-on c = λ I zeroed t g best c e d run. Least.run_on I zeroed t g best c e d run

pub returns-clause-back : goal.returns-clause-back
returns-clause-back c = λ I zeroed t g h best c f d run. Least.run_back I zeroed t g h best c f d run
