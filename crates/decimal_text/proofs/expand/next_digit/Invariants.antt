use Rattle.std.proofs.Common.{◌≡◌, ◌+◌, ◌*◌, ◌<◌, ◌≤◌}
use Rattle.decimal_text.proofs.expand.next_digit.Given as goal

abbrev pub invariant-loop : goal.invariant-loop
invariant-loop l = record {
  value : l.counter * l.rest ≡ l.digit * l.denom + l.left;
  below : l.left < l.denom;
  most : l.counter ≤ 10;
}
