use Rattle.std.proofs.Common.{◌≡◌, ℕ, ◌+◌, ◌*◌, ◌<◌, ◌≤◌, ◌+ℤ◌, ◌*ℤ◌, true}
use Rattle.dictionary.specs.Rows.{numbers_of, numer_at, either_at}
use Rattle.dictionary.specs.Steps.{nonzeros}
use Rattle.dictionary.specs.Words.{number_at}
use Rattle.dictionary.proofs.changing.write_sums.Given as goal

abbrev pub invariant-loop-w : goal.invariant-loop-w
invariant-loop-w g l = record {
  told : (c : ℕ) → c < 64 * l.w → either_at l.row l.by c ≡ true → number_at l.sums c ≡ numer_at l.row c *ℤ l.parts.scale +ℤ numer_at l.by c *ℤ l.parts.factor;
  cost : l.steps ≤ l.fn.steps + (nonzeros (64 * l.w) (numbers_of l.row) + nonzeros (64 * l.w) (numbers_of l.by));
  counted : l.fn.steps ≤ l.steps;
}
