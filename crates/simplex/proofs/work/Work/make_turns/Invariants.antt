use Rattle.std.proofs.Common.{◌≡◌, ◌-◌, None}
use Rattle.simplex.specs.States.{IsUnderWay, Changes}
use Rattle.simplex.proofs.work.Work.make_turns.Given as goal

abbrev pub invariant-loop-finish : goal.invariant-loop-finish
invariant-loop-finish g l = record {
  state : IsUnderWay l.self;
  stops : g.W.Watch.stops l.watch ≡ g.W.Watch.stops l.fn.watch;
  changes : Changes l.start (g.W.Watch.came l.fn.watch l.watch) l.fn.self l.self l.fn.turns l.turns None;
}

abbrev pub decreases-loop-finish : goal.decreases-loop-finish
decreases-loop-finish g l = l.turns.most - l.turns.done
