use Rattle.std.proofs.Common.{◌≡◌, ℕ, ◌-◌, ◌^◌, ◌≤◌, length}
use Rattle.fraction.specs.Frac.{ratio, ratios}
use Rattle.evidence.specs.Point.{value_at}
use Rattle.marks.specs.Marks.{is_marked}
use Rattle.marks.specs.Walks.{KeepsWord}
use Rattle.dictionary.specs.Rows.{numbers_of}
use Rattle.dictionary.proofs.FilledColumns.{IsFilled, IsProductAt}
use Rattle.dictionary.proofs.solving.multiply_values.Given as goal

abbrev pub invariant-loop-c : goal.invariant-loop-c
invariant-loop-c g l = record {
  kept : KeepsWord (is_marked l.row.marks) l.from l.walk;
  filled : IsFilled l.scratch (is_marked l.row.marks) (IsProductAt (numbers_of l.row) (ratio l.factor) l.skip) l.from;
  count : length l.scratch.values.items ≡ length l.fn.scratch.values.items;
  values : (c : ℕ) → l.from ≤ c → value_at (ratios l.scratch.values.items) c ≡ value_at (ratios l.fn.scratch.values.items) c;
}

abbrev pub decreases-loop-c : goal.decreases-loop-c
decreases-loop-c g l = 2 ^ 32 - l.from
