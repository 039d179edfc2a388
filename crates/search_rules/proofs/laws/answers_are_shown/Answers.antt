use Rattle.search_rules.proofs.Outcomes.{answer_shown}
use Rattle.search_rules.proofs.laws.answers_are_shown.Goals as goal

pub returns : goal.returns
returns c = λ P t o d n a. answer_shown P t o d n a
