use Rattle.std.proofs.Common.{◌≡◌, ℕ, ◌+◌, take}
use Rattle.fraction.specs.Frac.{ratios}
use Rattle.evidence.specs.Point.{value_at}
use Rattle.dictionary.specs.Row.{entries_of, number_in, HasColumn}
use Rattle.dictionary.proofs.row.spread_fractions.Given as goal

abbrev pub invariant-loop-i : goal.invariant-loop-i
invariant-loop-i g l = record {
  done : (c : ℕ) → HasColumn (take l.i (entries_of l.row)) c → value_at (ratios l.values) c ≡ number_in (entries_of l.row) c;
  cost : l.steps ≡ l.fn.steps + l.i;
}
