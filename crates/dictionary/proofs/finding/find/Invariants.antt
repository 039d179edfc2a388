use Rattle.std.proofs.Common.{◌≡◌, ℕ, ◌≤◌, ◌<◌, ◌+◌, ◌-◌, ◌^◌, length, take, drop}
use Rattle.dictionary.specs.Row.{entries_of, HasColumn}
use Rattle.dictionary.proofs.finding.find.Given as goal

abbrev pub invariant-loop-low : goal.invariant-loop-low
invariant-loop-low g l = record {
  low : l.low ≤ l.high;
  high : l.high ≤ length (entries_of l.row);
  before : HasColumn (take l.low (entries_of l.row)) l.col → ⊥;
  after : HasColumn (drop l.high (entries_of l.row)) l.col → ⊥;
  cost : (b : ℕ) → length (entries_of l.row) < 2 ^ b → (k : ℕ) × (l.steps + k ≡ l.fn.steps + b) × (l.high - l.low < 2 ^ k);
  counted : l.fn.steps ≤ l.steps;
}

abbrev pub decreases-loop-low : goal.decreases-loop-low
decreases-loop-low g l = l.high - l.low
