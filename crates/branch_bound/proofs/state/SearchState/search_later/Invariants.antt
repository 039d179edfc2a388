use Rattle.std.proofs.Common.{◌≡◌, ◌-◌, None, Ok, length}
use Rattle.branch_bound.specs.States.{IsUnderWay, Changes}
use Rattle.branch_bound.proofs.state.SearchState.search_later.Given as goal

abbrev pub invariant-loop-value : goal.invariant-loop-value
invariant-loop-value g l = record {
  state : IsUnderWay l.instance l.limits l.self;
  closed : l.self.walk.next ≡ None;
  moments : Changes l.instance l.limits (g.W.Watch.came l.fn.watch l.watch) l.fn.self l.self (Ok tt);
}

abbrev pub decreases-loop-value : goal.decreases-loop-value
decreases-loop-value g l = length l.instance.goals - l.self.level.goal
