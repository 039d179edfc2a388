use Rattle.std.proofs.Common.{◌≡◌, ℕ, ◌-◌, ◌^◌, ◌<◌, ◌≤◌, false}
use Rattle.marks.specs.Marks.{is_marked, size_of}
use Rattle.marks.specs.Walks.{KeepsWord}
use Rattle.simplex.specs.Values.{AreKnown}
use Rattle.simplex.proofs.valued.all_values.Given as goal

abbrev pub invariant-loop-col : goal.invariant-loop-col
invariant-loop-col g l = record {
  kept : KeepsWord (is_marked l.unknown) l.from l.walk;
  known : AreKnown l.dict l.rest l.statuses l.values l.unknown;
  before : (k : ℕ) → k < l.from → is_marked l.unknown k ≡ false;
  size : size_of l.unknown ≡ size_of l.fn.unknown;
}

abbrev pub decreases-loop-col : goal.decreases-loop-col
decreases-loop-col g l = 2 ^ 32 - l.from
