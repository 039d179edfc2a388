use Rattle.std.proofs.Common.{[], ◌∷◌, refl}
use Rattle.os_app.proofs.paced.PacedWatch.look.Goals as goal

pub returns-then-not-is_over-clause-came : goal.returns-then-not-is_over-clause-came
returns-then-not-is_over-clause-came g c = record { inside = []; came = g.met.W.Watch.stays c.args.self.now.told.watch; same = refl }

pub returns-clause-came : goal.returns-clause-came
returns-clause-came g c = record { inside = c.look.result ∷ []; came = c.look.ensures.came; same = refl }
