use Rattle.std.proofs.Common.{◌≡◌, ℕ, ◌+◌, ◌<◌, ◌+ℤ◌, ◌*ℤ◌, true}
use Rattle.marks.specs.Words.{is_set}
use Rattle.dictionary.specs.Words.{number_at, steps_at, count_word}
use Rattle.dictionary.proofs.Words.{passed}
use Rattle.dictionary.proofs.changing.sum_word.Given as goal

abbrev pub invariant-loop-left : goal.invariant-loop-left
invariant-loop-left g l = record {
  left : (i : ℕ) → i < 64 → is_set l.left i ≡ true → is_set l.word.columns i ≡ true;
  told : (i : ℕ) → i < 64 → passed l.word.columns l.left i ≡ true → number_at l.sums (l.word.first + i) ≡ number_at l.numers (l.word.first + i) *ℤ l.parts.scale +ℤ number_at l.by (l.word.first + i) *ℤ l.parts.factor;
  before : (c : ℕ) → c < l.word.first → number_at l.sums c ≡ number_at l.initial.sums c;
  cost : l.steps ≡ l.initial.steps + count_word (steps_at 0 l.word.own l.word.other (passed l.word.columns l.left));
}

abbrev pub decreases-loop-left : goal.decreases-loop-left
decreases-loop-left g l = l.left
