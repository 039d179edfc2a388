-- What is known of columns' values in memory.
use Rattle.std.specs.Prelude.{◌≡◌, ℕ, ◌<◌, ◌≤◌, Bool, true, false, cond, List, length, pos}
use Rattle.rational.specs.Ratio.{Ratio, IsNumber, IsSame}
use Rattle.evidence.specs.Sums.{none}
use Rattle.evidence.specs.Instance.{Range}
use Rattle.fraction.specs.declared.frac.Frac.{Frac}
use Rattle.bases.specs.Dictionary.{Entries, Values, value_by}
use Rattle.bases.specs.Pivot.{ValueFits}
use Rattle.marks.specs.declared.marks.Marks.{Marks}
use Rattle.marks.specs.Marks.{is_marked, size_of}
use Rattle.simplex_rules.specs.declared.columns.Status.{Status}
use Rattle.simplex_rules.specs.Statuses.{status_at, basic_in, rest_at}
use Rattle.dictionary.specs.declared.dict.Dict.{Dict}
use Rattle.dictionary.specs.declared.places.Places.{Places}
use Rattle.dictionary.specs.Dict.{entry_of, columns_of, Rest}
use Rattle.simplex.specs.Tables.{values_in}

-- v is the value of column c, which is basic or not; rest has the values of those that aren't
pub record IsColumnValue {L : _} {G : _} (d : Dict L G) (rest : Values) (basic : Bool) (c : ℕ) (v : Ratio) : Type 0 where
  pub sum : basic ≡ true → IsSame v (value_by (columns_of d) (entry_of d c) rest)
  pub fits : basic ≡ true → ValueFits (columns_of d) (entry_of d c) rest
  pub rests : basic ≡ false → v ≡ rest c

-- each column that isn't basic has the value of its place, and the others have 0
abbrev pub AreResting : (ℕ → Range) → List Status → Values → Type 0
AreResting ranges ss rest = (c : ℕ) → c < length ss → rest c ≡ rest_at (ranges c) (status_at ss c)

-- each value is its column's, but for those of a set of columns
pub record AreKnown {L : _} {G : _} (d : Dict L G) (p : Places) (ss : List Status) (vs : List Frac) (unknown : Marks) : Type 0 where
  pub are : (w : Values) → Rest d p w → (c : ℕ) → c < length ss → is_marked unknown c ≡ false → IsColumnValue d w (basic_in ss c) c (values_in vs c)
  pub inside : (c : ℕ) → is_marked unknown c ≡ true → c < length ss
  pub room : length ss ≤ size_of unknown

-- what is still known moves with column m no more: it isn't of m itself, nor of a basic column with an entry there
pub record IsForgotten (u : Entries) (ss : List Status) (m : ℕ) (old new : Marks) : Type 0 where
  pub less : (c : ℕ) → is_marked new c ≡ false → is_marked old c ≡ false
  pub own : is_marked new m ≡ true
  pub apart : (c : ℕ) → c < length ss → basic_in ss c ≡ true → is_marked new c ≡ false → (u c m).num ≡ pos 0
  pub inside : (c : ℕ) → length ss ≤ c → is_marked old c ≡ false → is_marked new c ≡ false

-- the goal's entries, 0 at basic columns
abbrev pub cost_in : List Status → (ℕ → Ratio) → ℕ → Ratio
cost_in ss row c = cond (basic_in ss c) none (row c)

-- a and x have the first n costs and the values of their columns
pub record AreTerms (row rest : Values) (n : ℕ) (a x : Values) : Type 0 where
  pub cost_numbers : (c : ℕ) → IsNumber (a c)
  pub value_numbers : (c : ℕ) → IsNumber (x c)
  pub costs : (c : ℕ) → c < n → row c ≡ a c
  pub values : (c : ℕ) → c < n → rest c ≡ x c
