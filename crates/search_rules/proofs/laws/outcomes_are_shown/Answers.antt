use Rattle.search_rules.proofs.Outcomes.{outcome_shown}
use Rattle.search_rules.proofs.laws.outcomes_are_shown.Goals as goal

pub returns : goal.returns
returns c = λ P t o d n s. outcome_shown P t o d n s
