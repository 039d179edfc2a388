use Rattle.std.proofs.Common.{◌≡◌, ℕ, ◌-◌, ◌^◌, ◌<◌, ◌≤◌, pos, true, false}
use Rattle.marks.specs.Marks.{is_marked, size_of}
use Rattle.marks.specs.Walks.{KeepsWord}
use Rattle.simplex_rules.specs.Statuses.{basic_in}
use Rattle.dictionary.specs.Dict.{entry_of}
use Rattle.simplex.proofs.keeping.forget.Given as goal

abbrev pub invariant-loop-c : goal.invariant-loop-c
invariant-loop-c g l = record {
  kept : KeepsWord (is_marked l.basic) l.from l.walk;
  less : (k : ℕ) → is_marked l.unknown k ≡ false → is_marked l.fn.unknown k ≡ false;
  apart : (k : ℕ) → k < l.from → k < l.goal → basic_in l.statuses k ≡ true → is_marked l.unknown k ≡ false → (entry_of l.dict k l.moving).num ≡ pos 0;
  inside : (k : ℕ) → l.goal ≤ k → is_marked l.fn.unknown k ≡ false → is_marked l.unknown k ≡ false;
  size : size_of l.unknown ≡ size_of l.fn.unknown;
}

abbrev pub decreases-loop-c : goal.decreases-loop-c
decreases-loop-c g l = 2 ^ 32 - l.from
