use Rattle.std.proofs.Common.{length, ap, arith}
use Rattle.branch_bound.proofs.bounds.bound_of.Goals as goal

pub reached_bound-requires-clause-values : goal.reached_bound-requires-clause-values
reached_bound-requires-clause-values c = λ f is.
    let h = c.requires.values f is in
    let v = ap length c.goals-some.ensures.value in
    let some = c.goals-some.ensures.valid.some_goal in
    omega arith
