use Rattle.std.proofs.Common.{◌≡◌, ℕ, ◌+◌, ◌-◌, ◌*◌, ◌^◌, ◌<◌, ◌≤◌, true, neg_ℤ}
use Rattle.marks.specs.Walks.{KeepsWord}
use Rattle.marks.specs.Marks.{is_marked}
use Rattle.dictionary.specs.Rows.{numbers_of, numer_at, IsRow}
use Rattle.dictionary.specs.Steps.{nonzeros}
use Rattle.dictionary.proofs.solving.negate.Given as goal

abbrev pub invariant-loop-c : goal.invariant-loop-c
invariant-loop-c g l = record {
  kept : KeepsWord (is_marked l.row.marks) l.from l.walk;
  form : l.row.is_common ≡ true;
  denom : l.row.denom ≡ l.initial.row.denom;
  rows : (k n : ℕ) → IsRow k n l.initial.row → IsRow k n l.row;
  done : (c : ℕ) → c < l.from → numer_at l.row c ≡ neg_ℤ (numer_at l.initial.row c);
  rest : (c : ℕ) → l.from ≤ c → numer_at l.row c ≡ numer_at l.initial.row c;
  inside : (k n : ℕ) → IsRow k n l.initial.row → l.from ≤ k;
  cost : (k n : ℕ) → IsRow k n l.initial.row → l.steps ≤ l.initial.steps + 2 * nonzeros l.from (numbers_of l.initial.row);
  counted : l.initial.steps ≤ l.steps;
}

abbrev pub decreases-loop-c : goal.decreases-loop-c
decreases-loop-c g l = 2 ^ 32 - l.from
