-- Values at columns that are marked.
use Rattle.std.specs.Prelude.{◌≡◌, ℕ, ◌+◌, ◌<◌, true, cond, length}
use Rattle.std.specs.Int.{◌∣◌}
use Rattle.rational.specs.Ratio.{Ratio}
use Rattle.fraction.specs.Frac.{ratios}
use Rattle.evidence.specs.Sums.{none}
use Rattle.evidence.specs.Point.{value_at}
use Rattle.marks.specs.Marks.{is_marked}
use Rattle.dictionary.specs.declared.scratch.Scratch.{Scratch}
use Rattle.dictionary.specs.Numbers.{HasNumber}

-- the value at a marked column, and 0 at others
unfoldable pub found_at : Scratch → ℕ → Ratio
found_at s c = cond (is_marked s.found c) (value_at (ratios s.values.items) c) none

-- the marked columns are below the last, and their values aren't 0
pub record AreFound (s : Scratch) : Type 0 where
  pub inside : (c : ℕ) → is_marked s.found c ≡ true → c + 1 < length s.values.items
  pub nonzero : (c : ℕ) → is_marked s.found c ≡ true → HasNumber (value_at (ratios s.values.items)) c

-- the denominator of each value at a marked column divides a number
abbrev pub AreDivided : Scratch → ℕ → Type 0
AreDivided s m = (c : ℕ) → is_marked s.found c ≡ true → (value_at (ratios s.values.items) c).den ∣ m
