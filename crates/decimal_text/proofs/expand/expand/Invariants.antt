use Rattle.std.proofs.Common.{◌≡◌, ◌≤◌, length, take}
use Rattle.decimal_text.proofs.Expansions.{Expanded}
use Rattle.decimal_text.proofs.expand.expand.Given as goal

abbrev pub invariant-loop-i : goal.invariant-loop-i
invariant-loop-i l = record {
  so_far : Expanded l.rest l.denom l.left l.used (take l.i l.digits);
  inside : l.i ≤ l.i-end;
  long : length l.digits ≡ l.i-end;
}
