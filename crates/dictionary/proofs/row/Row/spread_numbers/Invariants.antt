use Rattle.std.proofs.Common.{◌≡◌, ℕ, ◌+◌, ◌<◌, ◌≤◌, ◌-◌, ◌^◌, length}
use Rattle.fraction.specs.Frac.{ratios}
use Rattle.evidence.specs.Point.{value_at}
use Rattle.marks.specs.Walks.{KeepsWord}
use Rattle.marks.specs.Marks.{is_marked}
use Rattle.dictionary.specs.Numbers.{HasNumber}
use Rattle.dictionary.specs.Rows.{numbers_of}
use Rattle.dictionary.specs.Steps.{nonzeros}
use Rattle.dictionary.proofs.row.Row.spread_numbers.Given as goal

abbrev pub invariant-loop-c : goal.invariant-loop-c
invariant-loop-c g l = record {
  kept : KeepsWord (is_marked l.self.marks) l.from l.walk;
  done : (c : ℕ) → c < l.from → HasNumber (numbers_of l.self) c → value_at (ratios l.values) c ≡ numbers_of l.self c;
  within : l.from ≤ length l.initial.values;
  cost : l.steps ≤ l.fn.steps + nonzeros l.from (numbers_of l.self);
  counted : l.fn.steps ≤ l.steps;
}

abbrev pub decreases-loop-c : goal.decreases-loop-c
decreases-loop-c g l = 2 ^ 32 - l.from
