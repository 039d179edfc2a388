-- The columns of one kind in an order.
use Rattle.std.specs.Prelude.{◌≡◌, ℕ, ◌<◌, Bool}

-- n columns, each of those below k that are basic, or of those that aren't, once: at has the column at each place, and place the place of each column
pub record GoesThrough (n k : ℕ) (basic : ℕ → Bool) (kind : Bool) (at place : ℕ → ℕ) : Type 0 where
  pub inside : (j : ℕ) → j < n → at j < k
  pub is : (j : ℕ) → j < n → basic (at j) ≡ kind
  pub place_at : (j : ℕ) → j < n → place (at j) ≡ j
  pub stands : (c : ℕ) → c < k → basic c ≡ kind → place c < n
  pub at_place : (c : ℕ) → c < k → basic c ≡ kind → at (place c) ≡ c
