-- A basic column b and another one, e, change places: what becomes of the dictionary (Chvátal, Linear Programming, 1983, chapter 2), and where its numbers and those of values fit.
use Rattle.std.specs.Prelude.{◌≡◌, ℕ, pos, Bool, true, false, cond, nat_eq}
use Rattle.rational.specs.Ratio.{Ratio, whole, sum, product, negative, quotient, IsSame}
use Rattle.rational.specs.Width.{IsReduced, ReducedFits}
use Rattle.evidence.specs.Sums.{none}
use Rattle.evidence.specs.Width.{TermFits, StatedFits}
use Rattle.bases.specs.Dictionary.{Entries, Values}

-- b leaves the basis, and e enters it
abbrev pub exchanged : (ℕ → Bool) → ℕ → ℕ → ℕ → Bool
exchanged basic b e c = cond (nat_eq c e) true (cond (nat_eq c b) false (basic c))

-- the entry of column c once b's equation is solved for e
abbrev pub solved_at : Entries → ℕ → ℕ → ℕ → Ratio
solved_at u b e c = cond (nat_eq c b) (quotient (whole (pos 1)) (u b e)) (negative (quotient (u b c) (u b e)))

-- the entry of column c in another equation, where e is replaced by what it then is
abbrev pub replaced_at : Entries → ℕ → ℕ → ℕ → ℕ → Ratio
replaced_at u b e a c = sum (u a c) (product (u a e) (solved_at u b e c))

-- v has the entries of u after the exchange, in lowest terms
pub record IsPivoted (u : Entries) (b e : ℕ) (v : Entries) : Type 0 where
  pub reduced : (a c : ℕ) → IsReduced (v a c)
  pub leaving : (c : ℕ) → v b c ≡ none
  pub entering : (a : ℕ) → v a e ≡ none
  pub solved : (c : ℕ) → (c ≡ e → ⊥) → IsSame (v e c) (solved_at u b e c)
  pub replaced : (a c : ℕ) → (a ≡ b → ⊥) → (a ≡ e → ⊥) → (c ≡ e → ⊥) → IsSame (v a c) (replaced_at u b e a c)

-- the quotients of the pivot fit, and so do the products and the sums of each other equation; where a factor is 0 there are none
pub record PivotFits (u : Entries) (b e : ℕ) : Type 0 where
  pub row : (c : ℕ) → (c ≡ e → ⊥) → ReducedFits (solved_at u b e c)
  pub others : (a c : ℕ) → (a ≡ b → ⊥) → (c ≡ e → ⊥) → TermFits (u a c) (u a e) (solved_at u b e c)

-- the value of a column by its entries: the sum's products and partial sums fit, from 0 over the columns in ascending order
abbrev pub ValueFits : ℕ → (ℕ → Ratio) → Values → Type 0
ValueFits k row w = StatedFits none k row w
