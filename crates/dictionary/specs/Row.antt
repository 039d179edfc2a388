-- Rows that keep only the entries that aren't 0, by ascending columns. A column's number is the sum of its entries, so that one list after another adds up whatever their order.
use Rattle.std.specs.Prelude.{◌≡◌, ℕ, ◌+◌, ◌^◌, ◌≤◌, ◌⊎◌, pos, cond, nat_eq, List, [], ◌∷◌, vec_capacity}
use Rattle.std.specs.Coded.{le_prop}
use Rattle.rational.specs.Ratio.{Ratio, sum}
use Rattle.fraction.specs.Frac.{ratio}
use Rattle.fraction.specs.declared.frac.Frac.{Frac}
use Rattle.evidence.specs.Sums.{none}
use Rattle.dictionary.specs.declared.fractions.Item.{Item}
use Rattle.dictionary.specs.declared.fractions.Fractions.{Fractions}

-- a row's entries, and how many it has room for
abbrev pub entries_of : {L : _} → Fractions L → List Item
entries_of row = row.items.items

abbrev pub room_of : {L : _} → Fractions L → ℕ
room_of row = vec_capacity row.items

-- an entry's number at a column
abbrev pub item_at : Item → ℕ → Ratio
item_at x c = cond (nat_eq x.col c) (ratio x.value) none

abbrev pub number_in : List Item → ℕ → Ratio
number_in [] c = none
number_in (x ∷ xs) c = sum (item_at x c) (number_in xs c)

-- ascending columns from low to before high, no entry 0
abbrev pub IsFrom : ℕ → ℕ → List Item → Type 0
IsFrom low high [] = low ≤ high
IsFrom low high (x ∷ xs) = (low ≤ x.col) × (x.value.numer ≡ pos 0 → ⊥) × IsFrom (x.col + 1) high xs

abbrev pub IsSparseRow : List Item → Type 0
IsSparseRow xs = IsFrom 0 (2 ^ 32) xs

-- that is said in one way
none-prop : IsProp ⊥
none-prop a b = elim a [ ]

pub IsFrom-prop : (low high : ℕ) (xs : List Item) → IsProp (IsFrom low high xs)
IsFrom-prop low high [] p q = le_prop p q
IsFrom-prop low high (x ∷ xs) p q = λ i. (le_prop p.0 q.0 i, λ h. none-prop (p.1 h) (q.1 h) i, IsFrom-prop (x.col + 1) high xs p.2 q.2 i)

-- an entry stands at the column
abbrev pub HasColumn : List Item → ℕ → Type 0
HasColumn [] c = ⊥
HasColumn (x ∷ xs) c = (x.col ≡ c) ⊎ HasColumn xs c

-- this is the row's number at the column, by an entry
pub record IsEntry (xs : List Item) (c : ℕ) (value : Frac) : Type 0 where
  pub stands : HasColumn xs c
  pub is : number_in xs c ≡ ratio value
  pub nonzero : value.numer ≡ pos 0 → ⊥
