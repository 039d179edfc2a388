-- Dictionaries of bases (Chvátal, Linear Programming, 1983, chapter 2), by columns: each basic column is a sum over the others, such that the same values of all columns solve these equations as solve the rows.
use Rattle.std.specs.Prelude.{◌≡◌, ℕ, ◌+◌, ◌<◌, ◌≤◌, Bool, true, false}
use Rattle.rational.specs.Ratio.{Ratio, product, IsNumber, IsSame}
use Rattle.rational.specs.Width.{IsReduced}
use Rattle.evidence.specs.Sums.{none, total}

-- a number for each two indices: a row and a variable, or a basic column and another one
abbrev pub Entries : Type 0
Entries = ℕ → ℕ → Ratio

-- a value for each column
abbrev pub Values : Type 0
Values = ℕ → Ratio

-- the sum of the first k columns' values, each times its entry
abbrev pub value_by : ℕ → (ℕ → Ratio) → Values → Ratio
value_by k row w = total none k (λ c. product (row c) (w c))

-- column n + i has the value of row i's sum over the n variables, for each of m rows
pub record SolvesRows (n m : ℕ) (A : Entries) (w : Values) : Type 0 where
  pub rows : (i : ℕ) → i < m → IsSame (w (n + i)) (value_by n (A i) w)

-- each basic one of k columns has the value of its sum over all of them
pub record SolvesLists (k : ℕ) (basic : ℕ → Bool) (u : Entries) (w : Values) : Type 0 where
  pub lists : (b : ℕ) → b < k → basic b ≡ true → IsSame (w b) (value_by k (u b) w)

-- u b c is the entry of column c in the sum of basic column b, for k columns: in lowest terms, and 0 wherever b isn't basic or c is, or one of them is past the last column
pub record AreEntries (k : ℕ) (basic : ℕ → Bool) (u : Entries) : Type 0 where
  pub reduced : (b c : ℕ) → IsReduced (u b c)
  pub past_row : (b c : ℕ) → k ≤ b → u b c ≡ none
  pub past_column : (b c : ℕ) → k ≤ c → u b c ≡ none
  pub unlisted : (b c : ℕ) → basic b ≡ false → u b c ≡ none
  pub at_basic : (b c : ℕ) → basic c ≡ true → u b c ≡ none

-- u is the dictionary of these basic columns, for m rows over n variables: the same values solve the rows and the lists
pub record IsDictionary (n m : ℕ) (A : Entries) (basic : ℕ → Bool) (u : Entries) : Type 0 where
  pub entries : AreEntries (n + m) basic u
  pub on : (w : Values) → ((c : ℕ) → IsNumber (w c)) → SolvesRows n m A w → SolvesLists (n + m) basic u w
  pub back : (w : Values) → ((c : ℕ) → IsNumber (w c)) → SolvesLists (n + m) basic u w → SolvesRows n m A w
