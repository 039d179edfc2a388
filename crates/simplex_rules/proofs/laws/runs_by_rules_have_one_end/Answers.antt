use Rattle.simplex_rules.specs.NamedRules.{rules_of}
use Rattle.simplex_rules.proofs.NamedRules.{legal, single}
use Rattle.simplex_rules.proofs.RuleEnds.{run_once}
use Rattle.simplex_rules.proofs.laws.runs_by_rules_have_one_end.Goals as goal

pub returns : goal.returns
returns c = λ k I zeroed t g h j best c e f d b good p q. run_once (rules_of k) I zeroed t g best c e f d b h j (legal k) (single k) good p q
