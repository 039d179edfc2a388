use Rattle.simplex_rules.specs.NamedRules.{rules_of}
use Rattle.simplex_rules.proofs.NamedRules.{legal}
use Rattle.simplex_rules.proofs.RuleMoments.{run_true}
use Rattle.simplex_rules.proofs.laws.runs_by_rules_are_sound.Goals as goal

pub returns : goal.returns
returns c = λ k I zeroed t g h best c f d good run. run_true (rules_of k) I zeroed t g best c f d h (legal k) good run
