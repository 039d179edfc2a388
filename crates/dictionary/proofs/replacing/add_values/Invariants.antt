use Rattle.std.proofs.Common.{◌≡◌, ℕ, ◌-◌, ◌^◌, ◌≤◌, length}
use Rattle.fraction.specs.Frac.{ratio, ratios}
use Rattle.evidence.specs.Point.{value_at}
use Rattle.marks.specs.Walks.{KeepsWord}
use Rattle.dictionary.specs.Rows.{numbers_of, either_at}
use Rattle.dictionary.proofs.FilledColumns.{IsFilled, IsSumAt}
use Rattle.dictionary.proofs.replacing.add_values.Given as goal

abbrev pub invariant-loop-c : goal.invariant-loop-c
invariant-loop-c g l = record {
  kept : KeepsWord (either_at l.row l.by) l.from l.walk;
  filled : IsFilled l.scratch (either_at l.row l.by) (IsSumAt (numbers_of l.row) (numbers_of l.by) (ratio l.factor) l.skip) l.from;
  count : length l.scratch.values.items ≡ length l.fn.scratch.values.items;
  others : l.scratch.others.items ≡ l.fn.scratch.others.items;
  values : (c : ℕ) → l.from ≤ c → value_at (ratios l.scratch.values.items) c ≡ value_at (ratios l.fn.scratch.values.items) c;
}

abbrev pub decreases-loop-c : goal.decreases-loop-c
decreases-loop-c g l = 2 ^ 32 - l.from
