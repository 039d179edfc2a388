-- Bits of words, 64 a word.
use Rattle.std.specs.Prelude.{◌≡◌, ℕ, ◌/◌, ◌%◌, ◌<◌, ◌≤◌, Bool, true, false, cond, nat_eq, nat_lt}
use Rattle.std.specs.Int.{bit_at}

-- whether bit i of a word is set
abbrev pub is_set : ℕ → ℕ → Bool
is_set word i = nat_eq (bit_at word i) 1

-- whether bit k of words is set
abbrev pub has_bit : (ℕ → ℕ) → ℕ → Bool
has_bit words k = nat_eq (bit_at (words (k / 64)) (k % 64)) 1

-- the first number from a place on that passes a test
pub record IsFirst (test : ℕ → Bool) (from c : ℕ) : Type 0 where
  pub later : from ≤ c
  pub is : test c ≡ true
  pub first : (k : ℕ) → from ≤ k → k < c → test k ≡ false

-- none from a place on up to a stop does
abbrev pub HasNoneBelow : ℕ → (ℕ → Bool) → ℕ → Type 0
HasNoneBelow stop test from = (k : ℕ) → from ≤ k → k < stop → test k ≡ false

-- none from there on
abbrev pub HasNone : (ℕ → Bool) → ℕ → Type 0
HasNone test from = (k : ℕ) → from ≤ k → test k ≡ false

-- the lesser of two numbers
abbrev pub lesser : ℕ → ℕ → ℕ
lesser a b = cond (nat_lt a b) a b
