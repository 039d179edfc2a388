use Rattle.std.proofs.Common.{◌≡◌, length}
use Rattle.dictionary.specs.Rows.{AreRows}
use Rattle.dictionary.proofs.dict.make_rows.Given as goal

abbrev pub invariant-loop-r : goal.invariant-loop-r
invariant-loop-r g l = record {
  count : length l.rows.items ≡ l._r;
  rows : AreRows l.columns l.width l.rows.items;
}
