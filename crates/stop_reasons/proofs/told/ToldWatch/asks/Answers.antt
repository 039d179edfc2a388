use Rattle.stop_reasons.proofs.told.ToldWatch.asks.Goals as goal

pub returns-then-not-is_over-clause-came : goal.returns-then-not-is_over-clause-came
returns-then-not-is_over-clause-came g c = g.met.W.Watch.stays c.args.self.now.watch

pub returns-clause-came : goal.returns-clause-came
returns-clause-came g c = g.met.W.Watch.stays c.args.self.now.watch
