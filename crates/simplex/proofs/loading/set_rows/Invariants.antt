use Rattle.std.proofs.Common.{◌-◌, ◌≤◌}
use Rattle.bases.specs.Dictionary.{Entries}
use Rattle.dictionary.specs.Dict.{IsJustLoaded, HaveOneSize}
use Rattle.simplex.specs.Cuts.{AreRowsBeside}
use Rattle.simplex.proofs.loading.set_rows.Given as goal

abbrev pub invariant-loop-row : goal.invariant-loop-row
invariant-loop-row g l = record {
  from : l.first ≤ l.row;
  to : l.row ≤ l.height;
  size : HaveOneSize l.fn.dict l.dict;
  rows : (A : Entries) → IsJustLoaded A l.fn.dict → (B : Entries) × IsJustLoaded B l.dict × AreRowsBeside A l.first l.added (l.row - l.first) B;
}
