use Rattle.std.proofs.Common.{ℕ, ◌≤◌, ◌+◌}
use Rattle.common_rows.specs.Accumulators.{sum_of}
use Rattle.bases.specs.Dictionary.{Values}
use Rattle.dictionary.specs.Row.{entries_of, number_in}
use Rattle.dictionary.specs.Rows.{AreValuesOf}
use Rattle.dictionary.specs.Dict.{place_values}
use Rattle.dictionary.proofs.RowValues.{Summed, IsLeft}
use Rattle.dictionary.proofs.Sums.{row-number}
use Rattle.dictionary.proofs.value.sum_fractions.Given as goal

abbrev pub invariant-loop-i : goal.invariant-loop-i
invariant-loop-i g l = record {
  summed : (from : ℕ) × IsLeft (entries_of l.row) l.i from × ((k : ℕ) (w : Values) (at : AreValuesOf (number_in (entries_of l.row)) (place_values l.places) k w) → Summed (number_in (entries_of l.row)) (place_values l.places) (row-number (entries_of l.row)) k w at from (sum_of l.sum));
  cost : l.steps ≤ l.fn.steps + l.i;
  counted : l.fn.steps ≤ l.steps;
}
