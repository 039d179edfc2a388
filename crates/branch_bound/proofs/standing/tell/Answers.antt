use Rattle.std.proofs.Common.{[]}
use Rattle.branch_bound.proofs.standing.tell.Goals as goal

pub returns-clause-came : goal.returns-clause-came
returns-clause-came g c = g.met.W.Watch.joined c.args.watch.now c.asks.new.self c.hear.new.self [] [] c.asks.ensures.came c.hear.ensures.came
