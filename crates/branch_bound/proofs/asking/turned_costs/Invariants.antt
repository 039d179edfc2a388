use Rattle.std.proofs.Common.{◌≡◌, map, take}
use Rattle.fraction.specs.Frac.{ratio}
use Rattle.branch_bound.specs.Asking.{turned_by}
use Rattle.branch_bound.proofs.asking.turned_costs.Given as goal

abbrev pub invariant-loop-cost : goal.invariant-loop-cost
invariant-loop-cost l = map ratio l.numbers.items ≡ map (turned_by l.goal.sense) (take l.cost-index l.costs)
