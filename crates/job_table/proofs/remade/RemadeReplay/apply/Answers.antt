use Rattle.effects.specs.Records.{deed_of}
use Rattle.job_table.proofs.RemadeEffects.{tried_on}
use Rattle.job_table.proofs.remade.RemadeReplay.apply.Goals as goal

pub invariant_of-self : goal.invariant_of-self
invariant_of-self g c = tried_on (deed_of c.args.effect.now) _ _ c.make_again.result c.make_again.ensures c.self.invariant
