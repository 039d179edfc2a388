-- The rules that have a name are legal, and none of their choices has two answers.
use Rattle.simplex_rules.specs.Rules.{AreLegalRules, AreSingleRules}
use Rattle.simplex_rules.specs.declared.names.RuleName.{RuleName}
use Rattle.simplex_rules.specs.declared.names.RuleName.TheVariants.{Bland, Fast}
use Rattle.simplex_rules.specs.NamedRules.{rules_of}
use Rattle.simplex_rules.proofs.LeastIndices as Least
use Rattle.simplex_rules.proofs.FastRules as Quick

pub legal : (k : RuleName) → AreLegalRules (rules_of k)
legal Bland = Least.legal
legal Fast = Quick.legal

pub single : (k : RuleName) → AreSingleRules (rules_of k)
single Bland = Least.single
single Fast = Quick.single
