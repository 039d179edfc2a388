use Rattle.std.proofs.Common.{◌≡◌, ℕ, ◌+◌, ◌<◌, ◌≤◌, ◌-◌, ◌^◌, true, length}
use Rattle.std.specs.Prelude.{unsigned_abs}
use Rattle.fraction.specs.Frac.{ratios}
use Rattle.evidence.specs.Sums.{none}
use Rattle.evidence.specs.Point.{value_at}
use Rattle.marks.specs.Marks.{is_marked}
use Rattle.marks.specs.Walks.{KeepsWord}
use Rattle.dictionary.specs.Numbers.{IsOver}
use Rattle.dictionary.specs.Rows.{numbers_of, IsRow}
use Rattle.dictionary.specs.Scratch.{found_at}
use Rattle.dictionary.specs.Steps.{nonzeros}
use Rattle.dictionary.proofs.settling.settle.Given as goal

abbrev pub invariant-loop-c : goal.invariant-loop-c
invariant-loop-c g l = record {
  kept : KeepsWord (is_marked l.scratch.found) l.from l.walk;
  row : (k n : ℕ) → IsRow k n l.fn.row → IsRow k n l.row;
  over : l.row.is_common ≡ true → (c : ℕ) → is_marked l.scratch.found c ≡ true → IsOver (unsigned_abs l.row.denom) (value_at (ratios l.scratch.values.items) c);
  done : (c : ℕ) → c < l.from → numbers_of l.row c ≡ found_at l.scratch c;
  rest : (c : ℕ) → l.from ≤ c → numbers_of l.row c ≡ none;
  within : l.from ≤ length l.scratch.values.items;
  cost : l.steps ≤ l.fn.steps + nonzeros l.from (found_at l.scratch);
  counted : l.fn.steps ≤ l.steps;
}

abbrev pub decreases-loop-c : goal.decreases-loop-c
decreases-loop-c g l = 2 ^ 32 - l.from
