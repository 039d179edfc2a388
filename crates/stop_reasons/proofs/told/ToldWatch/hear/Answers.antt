use Rattle.stop_reasons.proofs.told.ToldWatch.hear.Goals as goal

pub returns-clause-came : goal.returns-clause-came
returns-clause-came g c = g.met.W.Watch.stays c.args.self.now.watch
