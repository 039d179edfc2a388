use Rattle.std.proofs.Common.{arith}
use Rattle.no_cycles.proofs.SafeLimits.{limit_is}
use Rattle.no_cycles.proofs.OneCaseSearches.{from_within_turns}
use Rattle.no_cycles.proofs.laws.safe_limits_are_enough_from_points.Goals as goal

pub returns : goal.returns
returns c = λ I t start o d l good plain ranges feasible safe room answer.
    let limit = limit_is _ _ l safe in
    from_within_turns I t plain ranges start good feasible (omega (arith, limit.1, room)) o d answer
