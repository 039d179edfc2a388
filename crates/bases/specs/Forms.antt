-- The columns as forms: linear forms in the variables, and linear forms in the columns that aren't basic (Chvátal, chapter 7).
use Rattle.std.specs.Prelude.{◌≡◌, ℕ, ◌+◌, ◌-◌, ◌<◌, Bool, false, cond, nat_lt}
use Rattle.rational.specs.Ratio.{Ratio, IsSame}
use Rattle.evidence.specs.Sums.{unit_at}
use Rattle.bases.specs.Dictionary.{Entries, value_by}

-- the coefficient of variable v in column c: the variables' unit lists, and then the rows
abbrev pub form_of : ℕ → Entries → ℕ → ℕ → Ratio
form_of n A c v = cond (nat_lt c n) (unit_at c v) (A (c - n) v)

-- the list of a column over the columns: its own one where it is basic, else its unit list
abbrev pub list_of : (ℕ → Bool) → Entries → ℕ → ℕ → Ratio
list_of basic u c d = cond (basic c) (u c d) (unit_at c d)

-- each column's form is the sum, by its list, of the other columns' forms
pub record FormsAreSums (n m : ℕ) (A : Entries) (basic : ℕ → Bool) (u : Entries) : Type 0 where
  pub forms : (c v : ℕ) → c < n + m → v < n → IsSame (form_of n A c v) (value_by (n + m) (list_of basic u c) (λ d. form_of n A d v))

-- the list of each row's column is the sum of the row's entries times the variables' lists
pub record ListsAreSums (n m : ℕ) (A : Entries) (basic : ℕ → Bool) (u : Entries) : Type 0 where
  pub lists : (i d : ℕ) → i < m → d < n + m → basic d ≡ false → IsSame (list_of basic u (n + i) d) (value_by n (A i) (λ v. list_of basic u v d))
