-- The rows of a program: those of its entries, and its goal's.
use Rattle.std.specs.Prelude.{◌≡◌, ℕ, zero, suc, ℤ, pos, negsuc, cond, nat_eq, nat_lt, ◌<◌, ◌≤◌, List, length, slice_index_or}
use Rattle.rational.specs.Ratio.{Ratio, negative}
use Rattle.fraction.specs.Frac.{ratios}
use Rattle.fraction.specs.declared.frac.Frac.{Frac}
use Rattle.fraction.specs.declared.ends.Entry.{Entry}
use Rattle.evidence.specs.Sums.{none}
use Rattle.evidence.specs.Instance.{entry_at}
use Rattle.evidence.specs.Point.{value_at}
use Rattle.instance.specs.Program.{entries}
use Rattle.bases.specs.Dictionary.{Entries}

-- a number, its negative or 0, by the sign of the factor
abbrev pub times_sign : ℤ → Ratio → Ratio
times_sign (pos zero) x = none
times_sign (pos (suc n)) x = x
times_sign (negsuc n) x = negative x

-- row r below m has its entries, and the goal's the costs times the factor
abbrev pub program_rows : List Entry → List Frac → ℤ → ℕ → Entries
program_rows es costs factor m r j = cond (nat_lt r m) (entry_at (entries es) r j) (times_sign factor (value_at (ratios costs) j))

-- row r has these entries, and the others are as before
abbrev pub with_entries : Entries → ℕ → List Entry → Entries
with_entries A r es i j = cond (nat_eq i r) (entry_at (entries es) r j) (A i j)

-- the entry at a place is one of this row, or none is
abbrev pub IsRowAt : List Entry → ℕ → ℕ → Type 0
IsRowAt es k row = (d : Entry) → (slice_index_or es k d).row ≡ row

abbrev pub IsOtherRowAt : List Entry → ℕ → ℕ → Type 0
IsOtherRowAt es k row = (d : Entry) → k < length es → (slice_index_or es k d).row ≡ row → ⊥

-- a row's entries and those of later ones begin at a place
pub record RowBeginsAt (es : List Entry) (row start : ℕ) : Type 0 where
  pub within : start ≤ length es
  pub before : (k : ℕ) (d : Entry) → k < start → (slice_index_or es k d).row < row
  pub after : (k : ℕ) (d : Entry) → start ≤ k → k < length es → row ≤ (slice_index_or es k d).row
