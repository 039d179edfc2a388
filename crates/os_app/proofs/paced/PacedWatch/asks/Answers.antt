use Rattle.os_app.specs.Paces.{paced_without}
use Rattle.os_app.proofs.paced.PacedWatch.asks.Goals as goal

pub returns-then-not-self-clause-came : goal.returns-then-not-self-clause-came
returns-then-not-self-clause-came g c = paced_without _ (g.met.W.Watch.stays c.args.self.now.told.watch)

pub returns-clause-came : goal.returns-clause-came
returns-clause-came g c = paced_without _ c.asks.ensures.came
