use Rattle.std.proofs.Common.{◌≡◌, ◌+◌, ◌-◌, Ok, length}
use Rattle.branch_bound.specs.States.{IsUnderWay, Changes}
use Rattle.branch_bound.proofs.state.SearchState.search_level.Given as goal

abbrev pub invariant-loop-self : goal.invariant-loop-self
invariant-loop-self g l = record {
  state : IsUnderWay l.instance l.limits l.self;
  goal : l.self.level.goal ≡ l.fn.self.level.goal;
  moments : Changes l.instance l.limits (g.W.Watch.came l.fn.watch l.watch) l.fn.self l.self (Ok tt);
}

abbrev pub decreases-loop-self : goal.decreases-loop-self
decreases-loop-self g l = (l.limits.nodes - (l.self.level.before + length l.self.walk.nodes)) + (l.limits.rounds - length l.self.level.rounds)
