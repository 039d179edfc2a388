use Rattle.std.proofs.Common.{◌≡◌, ℕ, ◌+◌, ◌<◌, ◌≤◌, true, false}
use Rattle.marks.specs.Marks.{is_marked, size_of}
use Rattle.dictionary.proofs.dict.mark_rows.Given as goal

abbrev pub invariant-loop-r : goal.invariant-loop-r
invariant-loop-r l = record {
  size : size_of l.basic ≡ size_of l.fn.basic;
  variables : (c : ℕ) → c < l.width → is_marked l.basic c ≡ false;
  rows : (c : ℕ) → l.width ≤ c → c < l.width + l.r → is_marked l.basic c ≡ true;
  past : (c : ℕ) → l.width + l.r ≤ c → is_marked l.basic c ≡ false;
}
