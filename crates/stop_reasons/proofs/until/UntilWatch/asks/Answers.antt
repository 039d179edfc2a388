use Rattle.std.proofs.Common.{refl}
use Rattle.stop_reasons.specs.Laws.{until_without}
use Rattle.stop_reasons.proofs.until.UntilWatch.asks.Goals as goal

pub returns-clause-came : goal.returns-clause-came
returns-clause-came g c = (refl, refl, until_without (g.W.Watch.came c.args.self.now.watch.now c.asks.new.self) _ _ c.asks.ensures.came)
