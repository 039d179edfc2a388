-- The rules that have a name.
use Rattle.simplex_rules.specs.Rules.{Rules, bland}
use Rattle.simplex_rules.specs.Fast.{fast}
use Rattle.simplex_rules.specs.declared.names.RuleName.{RuleName}
use Rattle.simplex_rules.specs.declared.names.RuleName.TheVariants.{Bland, Fast}

abbrev pub rules_of : RuleName → Rules
rules_of Bland = bland
rules_of Fast = fast
