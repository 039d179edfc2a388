-- A table of rows with the places of its columns: n columns that aren't basic, and then a basic one for each row.
use Rattle.std.specs.Prelude.{◌≡◌, ℕ, ◌-◌, ◌<◌, ◌≤◌, Bool, true, false, cond, nat_lt, List}
use Rattle.evidence.specs.Sums.{none}
use Rattle.bases.specs.Dictionary.{Entries}
use Rattle.marks.specs.declared.marks.Marks.{Marks}
use Rattle.marks.specs.Marks.{is_marked}
use Rattle.dictionary.specs.declared.row.Row.{Row}
use Rattle.dictionary.specs.Rows.{numbers_in}

-- the columns below k have places below k, and each place its column
pub record ArePlaces (k : ℕ) (at place : ℕ → ℕ) : Type 0 where
  pub inside : (j : ℕ) → j < k → at j < k
  pub stands : (c : ℕ) → c < k → place c < k
  pub at_place : (c : ℕ) → c < k → at (place c) ≡ c
  pub place_at : (j : ℕ) → j < k → place (at j) ≡ j

-- the first n places aren't basic
abbrev pub basic_by : ℕ → (ℕ → ℕ) → ℕ → Bool
basic_by n place c = cond (nat_lt (place c) n) false true

-- a set has the basic ones of the columns below k, and no others
pub record AreMarked (k n : ℕ) (place : ℕ → ℕ) (m : Marks) : Type 0 where
  pub own : (c : ℕ) → c < k → is_marked m c ≡ basic_by n place c
  pub past : (c : ℕ) → k ≤ c → is_marked m c ≡ false

-- the entry of column c in the equation of basic column b, which is the row at its place
abbrev pub entries_by : {L : _} {G : _} → ℕ → (ℕ → ℕ) → List (Row L G) → Entries
entries_by n place rows b c = cond (nat_lt (place b) n) none (numbers_in rows (place b - n) c)

-- the columns at places x and y have changed them
pub record ChangePlaces (x y : ℕ) (at to : ℕ → ℕ) : Type 0 where
  pub first : to x ≡ at y
  pub second : to y ≡ at x
  pub other : (j : ℕ) → (j ≡ x → ⊥) → (j ≡ y → ⊥) → to j ≡ at j
