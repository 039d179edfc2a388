-- Walks over numbers, which keep a word of 64 of them.
use Rattle.std.specs.Prelude.{◌≡◌, ℕ, ◌+◌, ◌%◌, ◌<◌, ◌≤◌, Bool, nat_eq}
use Rattle.std.specs.Int.{bit_at}
use Rattle.marks.specs.declared.walk.Walk.{Walk}

-- a word, whose last number is the one before a stop, has a bit for each number from a place on that passes a test, and none for those before
pub record IsWordKept (test : ℕ → Bool) (from word stop : ℕ) : Type 0 where
  pub near : from ≤ stop
  pub last : stop ≤ from + 64
  pub own : (k : ℕ) → from ≤ k → k < stop → nat_eq (bit_at word (k % 64)) 1 ≡ test k
  pub passed : (k : ℕ) → k < from → k < stop → stop ≤ k + 64 → bit_at word (k % 64) ≡ 0

-- a walk that has passed the numbers before a place has those from there on at hand
abbrev pub KeepsWord : (ℕ → Bool) → ℕ → Walk → Type 0
KeepsWord test from walk = IsWordKept test from walk.word walk.stop
