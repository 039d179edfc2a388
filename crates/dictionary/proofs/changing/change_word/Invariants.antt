use Rattle.std.proofs.Common.{◌≡◌, ℕ, ◌+◌, ◌<◌, true}
use Rattle.marks.specs.Words.{is_set}
use Rattle.dictionary.specs.Words.{AreChanged, steps_at, count_word}
use Rattle.dictionary.proofs.Words.{passed}
use Rattle.dictionary.proofs.changing.change_word.Given as goal

abbrev pub invariant-loop-left : goal.invariant-loop-left
invariant-loop-left g l = record {
  left : (i : ℕ) → i < 64 → is_set l.left i ≡ true → is_set l.word.columns i ≡ true;
  changed : AreChanged l.word.first l.word.own l.word.columns (passed l.word.columns l.left) l.parts.scale l.parts.factor l.initial.numers l.by l.numers l.fn.size l.entries l.size;
  cost : l.steps ≡ l.initial.steps + count_word (steps_at 1 l.word.own l.word.other (passed l.word.columns l.left));
}

abbrev pub decreases-loop-left : goal.decreases-loop-left
decreases-loop-left g l = l.left
