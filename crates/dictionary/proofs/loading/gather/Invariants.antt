use Rattle.std.proofs.Common.{◌≡◌, ℕ, ◌+◌, ◌-◌, ◌<◌, ◌≤◌, length, take}
use Rattle.std.specs.Prelude.{slice_index_or}
use Rattle.fraction.specs.declared.ends.Entry.{Entry}
use Rattle.evidence.specs.Instance.{entry_at}
use Rattle.instance.specs.Program.{entries}
use Rattle.dictionary.specs.Scratch.{found_at, AreFound}
use Rattle.dictionary.specs.Steps.{nonzeros}
use Rattle.dictionary.proofs.loading.gather.Given as goal

abbrev pub invariant-loop-e : goal.invariant-loop-e
invariant-loop-e l = record {
  low : l.start ≤ l.k;
  high : l.k ≤ length l.matrix;
  count : length l.scratch.values.items ≡ length l.fn.scratch.values.items;
  found : AreFound l.scratch;
  said : (c : ℕ) → found_at l.scratch c ≡ entry_at (entries (take l.k l.matrix)) l.row c;
  before : (j : ℕ) (d : Entry) → j < l.k → (slice_index_or l.matrix j d).row ≤ l.row;
  few : l.start + nonzeros (length l.fn.scratch.values.items) (found_at l.scratch) ≤ l.k;
}

abbrev pub decreases-loop-e : goal.decreases-loop-e
decreases-loop-e l = length l.matrix - l.k
