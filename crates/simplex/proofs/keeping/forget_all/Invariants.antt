use Rattle.std.proofs.Common.{◌≡◌, ℕ, ◌<◌, ◌≤◌, true, false}
use Rattle.marks.specs.Marks.{is_marked, size_of}
use Rattle.simplex.proofs.keeping.forget_all.Given as goal

abbrev pub invariant-loop-c : goal.invariant-loop-c
invariant-loop-c l = record {
  size : size_of l.unknown ≡ size_of l.fn.unknown;
  all : (k : ℕ) → k < l.c → is_marked l.unknown k ≡ true;
  past : (k : ℕ) → l.c ≤ k → is_marked l.unknown k ≡ false;
}
