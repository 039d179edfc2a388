use Rattle.std.proofs.Common.{[], ◌∷◌}
use Rattle.branch_bound.proofs.standing.look.Goals as goal

pub returns-clause-came : goal.returns-clause-came
returns-clause-came g c = g.met.W.Watch.joined c.args.watch.now c.tell.new.watch c.look.new.self [] (c.look.result ∷ []) c.tell.ensures.came c.look.ensures.came
