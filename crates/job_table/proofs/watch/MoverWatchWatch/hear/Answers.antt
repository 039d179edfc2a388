use Rattle.std.proofs.Common.{refl, sym, add-zero}
use Rattle.job_table.proofs.watch.MoverWatchWatch.hear.Goals as goal

pub returns-clause-came : goal.returns-clause-came
returns-clause-came g c = (refl, refl, g.met.C.Mover.stays c.args.self.now.mover.now, sym (add-zero c.args.self.now.stops))
