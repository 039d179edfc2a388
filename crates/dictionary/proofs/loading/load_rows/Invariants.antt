use Rattle.std.proofs.Common.{◌≡◌, ℕ, ◌+◌, ◌<◌, ◌≤◌, length}
use Rattle.evidence.specs.Instance.{entry_at}
use Rattle.instance.specs.Program.{entries}
use Rattle.dictionary.specs.ProgramRows.{RowBeginsAt}
use Rattle.dictionary.specs.Rows.{numbers_in, AreRows}
use Rattle.dictionary.proofs.loading.load_rows.Given as goal

abbrev pub invariant-loop-r : goal.invariant-loop-r
invariant-loop-r g l = record {
  begun : RowBeginsAt l.matrix l.r l.start;
  count : length l.scratch.values.items ≡ length l.initial.scratch.values.items;
  rows : AreRows (length l.costs + length l.initial.rows) (length l.costs) l.rows;
  done : (r c : ℕ) → r < l.r → numbers_in l.rows r c ≡ entry_at (entries l.matrix) r c;
  cost : l.steps ≤ l.initial.steps + l.start;
  counted : l.initial.steps ≤ l.steps;
}
