use Rattle.std.proofs.Common.{◌≡◌, ◌+◌, ◌-◌, ◌*◌, ◌^◌, ◌<◌, ◌≤◌}
use Rattle.scores.proofs.score.of_long.Given as goal

abbrev pub invariant-loop-quotient : goal.invariant-loop-quotient
invariant-loop-quotient l = record {
  parts : l.quotient * l.denom + l.rest ≡ l.top * 2 ^ l.more;
  below : l.rest < l.denom;
  long : 2 ^ l.more ≤ l.quotient;
  few : l.more ≤ 30;
}

abbrev pub decreases-loop-quotient : goal.decreases-loop-quotient
decreases-loop-quotient l = 2 ^ 30 - l.quotient
