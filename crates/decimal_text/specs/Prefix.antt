-- Where a text leaves a grammar.
use Rattle.std.specs.Prelude.{ℕ, ◌<◌, ◌≤◌, List, ◌++◌, length, take}

-- some text of the grammar begins with p
abbrev pub BeginsText : (List ℕ → Type 0) → List ℕ → Type 0
BeginsText grammar p = (rest : List ℕ) × grammar (p ++ rest)

-- s is no text of the grammar, and its longest prefix that begins one has this length
pub record LeavesAt (grammar : List ℕ → Type 0) (s : List ℕ) (at : ℕ) : Type 0 where
  pub outside : grammar s → ⊥
  pub within : at ≤ length s
  pub begins : BeginsText grammar (take at s)
  pub longest : (k : ℕ) → at < k → k ≤ length s → BeginsText grammar (take k s) → ⊥
