use Rattle.std.proofs.Common.{rules}
use Rattle.desk.proofs.Steps.{passes, passed_tells}
use Rattle.desk.proofs.desk.DeskOf+J+T.pass_on.Goals as goal

pub fetch_add-requires : goal.fetch_add-requires
fetch_add-requires g c = (search rules, search rules, passes _ _ _ _ _ _ c.requires.turn)

pub returns-clause-made : goal.returns-clause-made
returns-clause-made g c = passed_tells _ 0 0 _ _ _ _ c.requires.turn c.fetch_add.ensures.2
