-- Rows in either form, by the numbers at their columns.
use Rattle.std.specs.Prelude.{◌≡◌, ℕ, ◌+◌, ◌*◌, ◌^◌, ◌<◌, ◌≤◌, ◌⊎◌, ◌||◌, ℤ, pos, ◌+ℤ◌, ◌*ℤ◌, neg_ℤ, Bool, true, false, Option, None, Some, List, [], length, slice_index_or, unsigned_abs, get_or, map}
use Rattle.std.specs.Coded.{Coded-set, coded_ℕ, coded_ℤ, coded_bool, le_prop}
use Rattle.rational.specs.Ratio.{Ratio, whole, sum, product, negative, quotient, IsSame, IsNumber}
use Rattle.rational.specs.Width.{IsReduced, ReducedFits}
use Rattle.evidence.specs.Sums.{none}
use Rattle.evidence.specs.Point.{value_at}
use Rattle.evidence.specs.Width.{TermFits}
use Rattle.bases.specs.Dictionary.{Entries}
use Rattle.marks.specs.declared.marks.Marks.{Marks}
use Rattle.marks.specs.Marks.{is_marked, size_of}
use Rattle.dictionary.specs.declared.fractions.Item.{Item}
use Rattle.dictionary.specs.declared.row.Row.{Row}
use Rattle.dictionary.specs.Row.{entries_of, number_in, room_of, IsSparseRow, IsFrom-prop}
use Rattle.dictionary.specs.Lowest.{lowest}
pub use Rattle.dictionary.specs.Numbers.{turned, words_over, has_number, HasNumber}
use Rattle.dictionary.specs.Steps.{nonzeros, unless_zero, count_all}

-- the number at a column: a numerator over the denominator, or that of the fractions
abbrev pub number_of : Bool → List ℤ → ℤ → List Item → ℕ → Ratio
number_of true numers denom items c = lowest (slice_index_or numers c (pos 0)) (unsigned_abs denom)
number_of false numers denom items c = number_in items c

unfoldable pub numbers_of : {L : _} {G : _} → Row L G → ℕ → Ratio
numbers_of row = number_of row.is_common row.numers.items row.denom (entries_of row.fractions)

-- which columns have an entry
unfoldable pub entries_at : {L : _} {G : _} → Row L G → ℕ → Bool
entries_at row = is_marked row.marks

-- the numerator at a column, 0 where there is none
abbrev pub numer_at : {L : _} {G : _} → Row L G → ℕ → ℤ
numer_at row c = slice_index_or row.numers.items c (pos 0)

-- which columns one of two rows has an entry at
abbrev pub either_at : {L : _} {G : _} → Row L G → Row L G → ℕ → Bool
either_at row by c = is_marked row.marks c || is_marked by.marks c

-- which columns of a row change: where all numbers are only added to, those of the other row
abbrev pub changes : Marks → Marks → Bool → ℕ → Bool
changes m by true c = is_marked by c
changes m by false c = is_marked m c || is_marked by c

-- a list has the sums of both rows' numerators, each times its part, wherever one of them has an entry
abbrev pub AreSums : {L : _} {G : _} → Row L G → Row L G → ℤ → ℤ → List ℤ → Type 0
AreSums row by s k sums = (c : ℕ) → either_at row by c ≡ true → slice_index_or sums c (pos 0) ≡ numer_at row c *ℤ s +ℤ numer_at by c *ℤ k

-- they are 0 wherever neither a changed row nor the other one has an entry
abbrev pub AreSumsLeft : {L : _} {G : _} → Row L G → Row L G → ℤ → ℤ → Row L G → Type 0
AreSumsLeft row by s k new = (c : ℕ) → either_at new by c ≡ false → numer_at row c *ℤ s +ℤ numer_at by c *ℤ k ≡ pos 0

-- a row over k columns, of which the last is the goal's and has no entry, with room for n fractions, no more and no fewer: exactly the columns with an
-- entry are marked, no numerator passes the size, which has 63 bits, and fractions stand by ascending columns
pub record IsRow {L : _} {G : _} (k n : ℕ) (row : Row L G) : Type 0 where
  pub count : length row.numers.items ≡ k
  pub columns : size_of row.marks ≡ words_over k
  pub small : row.size < 2 ^ 63
  pub marked : (c : ℕ) → is_marked row.marks c ≡ has_number (numbers_of row) c
  pub inside : (c : ℕ) → is_marked row.marks c ≡ true → c + 1 < k
  pub empty : (c : ℕ) → is_marked row.marks c ≡ false → slice_index_or row.numers.items c (pos 0) ≡ pos 0
  pub within : (c : ℕ) → unsigned_abs (slice_index_or row.numers.items c (pos 0)) ≤ row.size
  pub ascending : row.is_common ≡ false → IsSparseRow (entries_of row.fractions)
  pub room : room_of row.fractions ≡ n

-- a row without entries, in common form, that has no fractions either
pub record IsCleared {L : _} {G : _} (k n : ℕ) (row : Row L G) : Type 0 where
  pub is : IsRow k n row
  pub none : (c : ℕ) → numbers_of row c ≡ none
  pub common : row.is_common ≡ true
  pub empty : entries_of row.fractions ≡ []

-- it is in common form over the denominator, or in fractions where there is none
abbrev pub HasRowForm : {L : _} {G : _} → Option ℤ → Row L G → Type 0
HasRowForm None row = row.is_common ≡ false
HasRowForm (Some d) row = (row.is_common ≡ true) × (row.denom ≡ d)

-- the values at the columns with an entry are those of the row
abbrev pub IsSpread : {L : _} {G : _} → Row L G → List Ratio → Type 0
IsSpread row values = (c : ℕ) → HasNumber (numbers_of row) c → value_at values c ≡ numbers_of row c

-- that is said in one way
pub IsRow-prop : {L : _} {G : _} (k n : ℕ) (row : Row L G) → IsProp (IsRow k n row)
IsRow-prop k n row p q = λ i. record {
  count = Coded-set coded_ℕ _ _ p.count q.count i;
  columns = Coded-set coded_ℕ _ _ p.columns q.columns i;
  small = le_prop p.small q.small i;
  marked = λ c. Coded-set coded_bool _ _ (p.marked c) (q.marked c) i;
  inside = λ c h. le_prop (p.inside c h) (q.inside c h) i;
  empty = λ c h. Coded-set coded_ℤ _ _ (p.empty c h) (q.empty c h) i;
  within = λ c. le_prop (p.within c) (q.within c) i;
  ascending = λ h. IsFrom-prop 0 (2 ^ 32) (entries_of row.fractions) (p.ascending h) (q.ascending h) i;
  room = Coded-set coded_ℕ _ _ p.room q.room i;
}

-- a row in common form whose numbers were divided by a pivot and turned, with what one over it is at a column
pub record IsRowDivided {L : _} {G : _} (old : Row L G) (basic : ℕ) (pivot : ℤ) (new : Row L G) : Type 0 where
  pub form : new.is_common ≡ true
  pub rows : (k n : ℕ) → IsRow k n old → basic + 1 < k → IsRow k n new
  pub denom : unsigned_abs new.denom ≡ unsigned_abs pivot
  pub own : numer_at new basic ≡ turned pivot (pos (unsigned_abs old.denom))
  pub others : (c : ℕ) → (c ≡ basic → ⊥) → numer_at new c ≡ neg_ℤ (turned pivot (numer_at old c))

-- out is the row in which the column skip is replaced by what another row says it is
pub record IsReplacedBy (row by : ℕ → Ratio) (skip : ℕ) (out : ℕ → Ratio) : Type 0 where
  pub gone : out skip ≡ none
  pub others : (c : ℕ) → (c ≡ skip → ⊥) → IsSame (out c) (sum (row c) (product (row skip) (by c)))

-- its products and sums fit
pub record ReplacementFits (row by : ℕ → Ratio) (skip : ℕ) : Type 0 where
  pub terms : (c : ℕ) → TermFits (row c) (row skip) (by c)

-- out is the row solved for the column skip: column basic comes in for it
pub record IsSolvedFor (row : ℕ → Ratio) (basic skip : ℕ) (out : ℕ → Ratio) : Type 0 where
  pub gone : out skip ≡ none
  pub own : IsSame (out basic) (quotient (whole (pos 1)) (row skip))
  pub others : (c : ℕ) → (c ≡ skip → ⊥) → (c ≡ basic → ⊥) → IsSame (out c) (negative (quotient (row c) (row skip)))

-- its quotients fit
pub record SolutionFits (row : ℕ → Ratio) (skip : ℕ) : Type 0 where
  pub lead : ReducedFits (quotient (whole (pos 1)) (row skip))
  pub terms : (c : ℕ) → ReducedFits (quotient (row c) (row skip))

-- the numbers of row r of a table, 0 past the last
abbrev pub numbers_in : {L : _} {G : _} → List (Row L G) → Entries
numbers_in rows r = get_or (map numbers_of rows) r (λ c. none)

-- each row of a table is one
abbrev pub AreRows : {L : _} {G : _} → ℕ → ℕ → List (Row L G) → Type 0
AreRows {L} {G} k n rows = (r : ℕ) (row : Row L G) → r < length rows → row ≡ get_or rows r row → IsRow k n row

pub AreRows-prop : {L : _} {G : _} (k n : ℕ) (rows : List (Row L G)) → IsProp (AreRows k n rows)
AreRows-prop k n rows p q = λ i r row l e. IsRow-prop k n row (p r row l e) (q r row l e) i

-- what a pivot of row p makes of a table
pub record IsTableTurned (p basic skip : ℕ) (old new : Entries) (count : ℕ) : Type 0 where
  pub own : IsSolvedFor (old p) basic skip (new p)
  pub others : (r : ℕ) → r < count → (r ≡ p → ⊥) → IsReplacedBy (old r) (new p) skip (new r)

-- its numbers fit
pub record TableFits (p basic skip : ℕ) (old : Entries) (count : ℕ) : Type 0 where
  pub own : SolutionFits (old p) skip
  pub others : (by : ℕ → Ratio) → ((c : ℕ) → IsReduced (by c)) → IsSolvedFor (old p) basic skip by → (r : ℕ) → r < count → (r ≡ p → ⊥) → ReplacementFits (old r) by skip

-- a row with an entry at none of the columns whose place is n or more
abbrev pub IsOverPlaces : ℕ → (ℕ → ℕ) → (ℕ → Ratio) → Type 0
IsOverPlaces n place row = (c : ℕ) → n ≤ place c → row c ≡ none

-- each of m rows is one, over the first n places
pub record AreOver {L : _} {G : _} (n m : ℕ) (place : ℕ → ℕ) (rows : List (Row L G)) : Type 0 where
  pub rows_are : AreRows (n + m) n rows
  pub over : (r : ℕ) → r < m → IsOverPlaces n place (numbers_in rows r)

-- a row with entries at columns of both, but for skip, has at most so many of the first k
abbrev pub HasRoomFor : ℕ → (ℕ → Ratio) → (ℕ → Ratio) → ℕ → ℕ → Type 0
HasRoomFor k row by skip room = (f : ℕ → Ratio) → ((c : ℕ) → HasNumber f c → (c ≡ skip → ⊥) × (HasNumber row c ⊎ HasNumber by c)) → nonzeros k f ≤ room

-- the same where none is left out
abbrev pub NonzerosFit : ℕ → (ℕ → Ratio) → (ℕ → Ratio) → ℕ → Type 0
NonzerosFit k row by room = (f : ℕ → Ratio) → ((c : ℕ) → HasNumber f c → HasNumber row c ⊎ HasNumber by c) → nonzeros k f ≤ room

-- the rows of a table have room for what a pivot makes of them
pub record PivotHasRoom (k : ℕ) (T : Entries) (p basic skip count room : ℕ) : Type 0 where
  pub own : nonzeros k (T p) ≤ room
  pub others : (by : ℕ → Ratio) → ((c : ℕ) → IsReduced (by c)) → IsSolvedFor (T p) basic skip by → (r : ℕ) → r < count → HasRoomFor k (T r) by skip room

-- the steps of one row's replacement: three times both rows' entries, where it has one at the column
abbrev pub replacement_cost : ℕ → (ℕ → Ratio) → (ℕ → Ratio) → ℕ → ℕ
replacement_cost k row by skip = unless_zero (row skip).num (3 * (nonzeros k row + nonzeros k by))

-- of the first rows of a table
abbrev pub replacements_cost : ℕ → Entries → (ℕ → Ratio) → ℕ → ℕ → ℕ
replacements_cost k T by skip m = count_all m (λ r. replacement_cost k (T r) by skip)

-- the row's columns are below k, and w has the values at each of them
pub record AreValuesOf (row values : ℕ → Ratio) (k : ℕ) (w : ℕ → Ratio) : Type 0 where
  pub numbers : (c : ℕ) → IsNumber (w c)
  pub inside : (c : ℕ) → HasNumber row c → c < k
  pub same : (c : ℕ) → HasNumber row c → w c ≡ values c
