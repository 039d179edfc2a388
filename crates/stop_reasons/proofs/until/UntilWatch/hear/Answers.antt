use Rattle.std.proofs.Common.{refl}
use Rattle.stop_reasons.specs.Laws.{until_without}
use Rattle.stop_reasons.proofs.until.UntilWatch.hear.Goals as goal

pub returns-clause-came : goal.returns-clause-came
returns-clause-came g c = (refl, refl, until_without (g.W.Watch.came c.args.self.now.watch.now c.hear.new.self) _ _ c.hear.ensures.came)
