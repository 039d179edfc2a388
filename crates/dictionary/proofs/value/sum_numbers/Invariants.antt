use Rattle.std.proofs.Common.{ℕ, ◌<◌, ◌≤◌, ◌+◌, ◌-◌, ◌^◌, ◌&&◌}
use Rattle.common_rows.specs.Accumulators.{sum_of}
use Rattle.bases.specs.Dictionary.{Values}
use Rattle.marks.specs.Walks.{KeepsWord}
use Rattle.marks.specs.Marks.{is_marked}
use Rattle.dictionary.specs.Numbers.{HasNumber}
use Rattle.dictionary.specs.Rows.{numbers_of, AreValuesOf}
use Rattle.dictionary.specs.Dict.{place_values}
use Rattle.dictionary.specs.Steps.{nonzeros}
use Rattle.dictionary.proofs.RowForms.{numbers-number}
use Rattle.dictionary.proofs.RowValues.{Summed}
use Rattle.dictionary.proofs.value.sum_numbers.Given as goal

abbrev pub invariant-loop-c : goal.invariant-loop-c
invariant-loop-c g l = record {
  kept : KeepsWord (λ k. is_marked l.row.marks k && is_marked l.set k) l.from l.walk;
  summed : (k : ℕ) (w : Values) (at : AreValuesOf (numbers_of l.row) (place_values l.places) k w) → Summed (numbers_of l.row) (place_values l.places) (numbers-number l.row) k w at l.from (sum_of l.sum);
  cost : (k : ℕ) → ((c : ℕ) → HasNumber (numbers_of l.row) c → c < k) → (l.from ≤ k) × (l.steps ≤ l.fn.steps + nonzeros l.from (numbers_of l.row));
  counted : l.fn.steps ≤ l.steps;
}

abbrev pub decreases-loop-c : goal.decreases-loop-c
decreases-loop-c g l = 2 ^ 32 - l.from
