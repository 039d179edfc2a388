use Rattle.std.proofs.Common.{ℕ, ◌+◌, ◌*◌, ◌≤◌}
use Rattle.dictionary.specs.Rows.{numbers_of, IsRow}
use Rattle.dictionary.specs.Steps.{nonzeros}
use Rattle.dictionary.proofs.Changes.{IsChanging}
use Rattle.dictionary.proofs.changing.change_numbers.Given as goal

abbrev pub invariant-loop-w : goal.invariant-loop-w
invariant-loop-w g l = record {
  changing : IsChanging l.initial.row l.by l.row l.parts.scale l.parts.factor (64 * l.w);
  cost : (k n : ℕ) → IsRow k n l.initial.row → IsRow k n l.by → l.steps ≤ l.initial.steps + 2 * (nonzeros (64 * l.w) (numbers_of l.initial.row) + nonzeros (64 * l.w) (numbers_of l.by));
  counted : l.initial.steps ≤ l.steps;
}
