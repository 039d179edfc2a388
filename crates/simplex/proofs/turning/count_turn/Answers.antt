use Rattle.std.proofs.Common.{◌+◌}
use Rattle.simplex.proofs.TurnSteps.{looked_at}
use Rattle.simplex.proofs.turning.count_turn.Goals as goal

pub returns-then-turns-eq0-clause-passes : goal.returns-then-turns-eq0-clause-passes
returns-then-turns-eq0-clause-passes g c = looked_at c.look.result (g.W.Watch.came c.args.watch.now c.look.new.self) c.look.ensures.came (c.args.turns.now.done + 1) c.if-turns-eq0.true
