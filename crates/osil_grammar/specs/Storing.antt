-- The lists of the matrix as the code holds them, and what its functions make of them: entries that are joined one by one.
use Rattle.std.specs.Prelude.{◌≡◌, ℕ, ℤ, Result, MatchResult, List, [], ◌∷◌, ◌++◌, Bool, ⊤, length, map, replicate, pos}
use Rattle.evidence.specs.Sums as evidence
use Rattle.evidence.specs.Instance as Of
use Rattle.rational.specs.Ratio.{IsSame}
use Rattle.rational.specs.Width.{SumFits}
use Rattle.fraction.specs.Frac.{ratio, ratios}
use Rattle.fraction.specs.declared.frac.Frac.{Frac}
use Rattle.fraction.specs.declared.frac.Wide.{Wide as TooGreat}
use Rattle.fraction.specs.declared.ends.Entry.{Entry}
use Rattle.instance.specs.Program.{entries}
use Rattle.osil_grammar.specs.declared.entries.Lists.{Lists}
use Rattle.osil_grammar.specs.Matrix as matrix
use Rattle.osil_grammar.specs.Matrix.{IsDivision, placed_all, place_sum, HasWidePlace}
use Rattle.osil_grammar.specs.Meaning.{AreEntriesOf}
use Rattle.osil_grammar.specs.Orders.{IsInOrder, IsRising}

-- whole numbers as the code has them
abbrev pub wholes : List ℕ → List ℤ
wholes ns = map pos ns

-- the lists of a matrix as the definitions have them
abbrev pub matrix_lists : Bool → (starts indices : List ℕ) → List Frac → matrix.Lists
matrix_lists by_columns starts indices values = record { by_columns = by_columns; starts = wholes starts; indices = wholes indices; values = ratios values }

abbrev pub lists_of : Lists → matrix.Lists
lists_of l = matrix_lists l.by_columns l.starts.items l.indices.items l.values.items

-- the starts divide the values into so many lines
abbrev pub Divide : List ℕ → List Frac → (lines : ℕ) → Type 0
Divide starts values lines = IsDivision (wholes starts) lines (length values)

-- as many indices as values, and starts that divide them into so many lines
pub record AreStored (l : Lists) (lines : ℕ) : Type 0 where
  pub as_many : length l.indices.items ≡ length l.values.items
  pub divided : Divide l.starts.items l.values.items lines

-- one line's values with their places
abbrev pub line_entries : Bool → ℕ → List ℕ → List Frac → List Of.Entry
line_entries by_columns j indices values = placed_all by_columns (replicate (length values) j) (wholes indices) (ratios values)

-- the sums at each place, by places
pub record AreSumsAt (l : List Of.Entry) (es : List Entry) : Type 0 where
  pub rising : IsRising es
  pub sums : (i j : ℕ) → IsSame (Of.entry_at (entries es) i j) (place_sum evidence.none l i j)

-- one entry more, behind those that stand before it and whose sums there are: its own sum fits and those of all are there, or it doesn't fit
pub record AreJoined (before new : List Entry) (e : Entry) (rest : List Entry) : Type 0 where
  pub sums : AreSumsAt (entries (before ++ e ∷ [])) new
  pub order : IsInOrder (new ++ rest)
  pub fits : SumFits (place_sum evidence.none (entries before) e.row e.col) (ratio e.value)

abbrev pub Joins : {E : Type 0} → Result (Result ⊤ TooGreat) E → List Entry → List Entry → Entry → Type 0
Joins result old new e = MatchResult result (λ r. (before rest : List Entry) → AreSumsAt (entries before) old → IsInOrder (old ++ e ∷ rest)
    → MatchResult r (λ x. AreJoined before new e rest) (λ w. SumFits (place_sum evidence.none (entries before) e.row e.col) (ratio e.value) → ⊥)) (λ f. Unit {0})

-- the entries of the matrix, or one of their sums doesn't fit
abbrev pub SumsOrWide : {V : Type 0} → Result V TooGreat → (V → List Entry) → List Of.Entry → Type 0
SumsOrWide r view l = MatchResult r (λ es. AreEntriesOf l (view es) × (HasWidePlace l → ⊥)) (λ w. HasWidePlace l)

-- the sums of entries that stand in order, or one of them doesn't fit
abbrev pub JoinedOrWide : {V : Type 0} → Result V TooGreat → (V → List Entry) → List Of.Entry → Type 0
JoinedOrWide r view l = MatchResult r (λ es. AreSumsAt l (view es) × (HasWidePlace l → ⊥)) (λ w. HasWidePlace l)
