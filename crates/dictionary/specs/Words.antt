-- Words of a row's columns, as another row comes into them.
use Rattle.std.specs.Prelude.{◌≡◌, ◌≢◌, ℕ, ◌+◌, ◌^◌, ◌<◌, ◌≤◌, ◌||◌, ℤ, pos, ◌+ℤ◌, ◌*ℤ◌, Bool, true, false, cond, not, nat_eq, List, length, slice_index_or, unsigned_abs}
use Rattle.marks.specs.Words.{is_set}
use Rattle.dictionary.specs.Steps.{count_all}

-- the number at a column
abbrev pub number_at : List ℤ → ℕ → ℤ
number_at xs c = slice_index_or xs c (pos 0)

-- the numbers at a word's columns from the first on, those that are done changed by another row's; which columns have an entry, and
-- what no number passes that was changed
pub record AreChanged (first own columns : ℕ) (done : ℕ → Bool) (s k : ℤ) (old by new : List ℤ) (size entries most : ℕ) : Type 0 where
  pub count : length new ≡ length old
  pub is : (i : ℕ) → i < 64 → done i ≡ true → number_at new (first + i) ≡ number_at old (first + i) *ℤ s +ℤ number_at by (first + i) *ℤ k
  pub others : (c : ℕ) → ((i : ℕ) → i < 64 → done i ≡ true → c ≢ first + i) → number_at new c ≡ number_at old c
  pub marked : (i : ℕ) → i < 64 → done i ≡ true → is_set entries i ≡ not (nat_eq (unsigned_abs (number_at new (first + i))) 0)
  pub unmarked : (i : ℕ) → i < 64 → done i ≡ false → is_set entries i ≡ (is_set own i || is_set columns i)
  pub within : (i : ℕ) → i < 64 → done i ≡ true → unsigned_abs (number_at new (first + i)) ≤ most
  pub more : size ≤ most
  pub small : most < 2 ^ 63

-- the steps of a column: both rows' numbers where they have an entry, and those that each takes beside
abbrev pub steps_at : ℕ → ℕ → ℕ → (ℕ → Bool) → ℕ → ℕ
steps_at each own other done i = cond (done i) (cond (is_set own i) 1 0 + cond (is_set other i) 1 0 + each) 0

-- the sum over a word's columns
unfoldable pub count_word : (ℕ → ℕ) → ℕ
count_word f = count_all 64 f
