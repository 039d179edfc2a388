-- The matrix of the rows as it is stored (Optimization Services, SparseMatrix): starts, indices and values, by columns or by rows.
use Rattle.std.specs.Prelude.{◌≡◌, ℕ, ◌+◌, ◌-◌, ◌<◌, ◌&&◌, ℤ, pos, ◌-ℤ◌, ◌≤ℤ◌, unsigned_abs, nat_eq, Bool, true, false, cond, List, [], ◌∷◌, ◌++◌, length, get_or, replicate}
use Rattle.rational.specs.Ratio.{Ratio, sum}
use Rattle.rational.specs.Width.{SumFits}
use Rattle.evidence.specs.Sums as evidence
use Rattle.evidence.specs.Instance as Of

-- whether columns are stored one after another, or else rows; the starts of these lines; each value's index in its line; the values
pub record Lists : Type 0 where
  pub by_columns : Bool
  pub starts : List ℤ
  pub indices : List ℤ
  pub values : List Ratio

-- the starts divide so many values into so many lines: they begin with 0, never fall, end with the number of values, and are one more than the lines
pub record IsDivision (starts : List ℤ) (lines values : ℕ) : Type 0 where
  pub first : get_or starts 0 (pos 1) ≡ pos 0
  pub rising : (k : ℕ) → k + 1 < length starts → get_or starts k (pos 0) ≤ℤ get_or starts (k + 1) (pos 0)
  pub last : get_or starts (length starts - 1) (pos 0) ≡ pos values
  pub one_more : length starts ≡ lines + 1

-- the line of each value: from one start up to the next, beginning with line j
abbrev pub lines_from : ℕ → List ℤ → List ℕ
lines_from j [] = []
lines_from j (a ∷ []) = []
lines_from j (a ∷ b ∷ more) = replicate (unsigned_abs (b -ℤ a)) j ++ lines_from (j + 1) (b ∷ more)

-- a value's place in the matrix
abbrev pub placed : Bool → ℕ → ℕ → Ratio → Of.Entry
placed true line index value = record { row = index; variable = line; value = value }
placed false line index value = record { row = line; variable = index; value = value }

abbrev pub placed_all : Bool → List ℕ → List ℤ → List Ratio → List Of.Entry
placed_all by_columns [] indices values = []
placed_all by_columns (line ∷ lines) [] values = []
placed_all by_columns (line ∷ lines) (index ∷ indices) [] = []
placed_all by_columns (line ∷ lines) (index ∷ indices) (value ∷ values) = placed by_columns line (unsigned_abs index) value ∷ placed_all by_columns lines indices values

-- the values with their places, in the order of storage
abbrev pub stored : Lists → List Of.Entry
stored l = placed_all l.by_columns (lines_from 0 l.starts) l.indices l.values

-- the sum of those at one place, added to a start in their order
abbrev pub place_sum : Ratio → List Of.Entry → ℕ → ℕ → Ratio
place_sum start [] i j = start
place_sum start (e ∷ more) i j = cond (nat_eq e.row i && nat_eq e.variable j) (place_sum (sum start e.value) more i j) (place_sum start more i j)

-- a value's sum with those before it at its place doesn't fit
pub record HasWidePlace (entries : List Of.Entry) : Type 0 where
  pub before : List Of.Entry
  pub entry : Of.Entry
  pub after : List Of.Entry
  pub split : entries ≡ before ++ entry ∷ after
  pub wide : SumFits (place_sum evidence.none before entry.row entry.variable) entry.value → ⊥
