-- What a dictionary in memory says, by columns: those of the variables, of the rows and of the goal, which is one more row.
use Rattle.std.specs.Prelude.{◌≡◌, ℕ, ◌+◌, ◌<◌, ◌≤◌, Bool, true, false, IsTrue, length, slice_index}
use Rattle.rational.specs.Ratio.{IsNumber}
use Rattle.fraction.specs.Frac.{ratios}
use Rattle.evidence.specs.Sums.{none}
use Rattle.evidence.specs.Point.{value_at}
use Rattle.bases.specs.Dictionary.{Entries, Values, IsDictionary}
use Rattle.dictionary.specs.declared.dict.Dict.{Dict}
use Rattle.dictionary.specs.declared.places.Places.{Places}
use Rattle.dictionary.specs.Rows.{numbers_in, AreOver}
use Rattle.dictionary.specs.Basis.{basic_by, entries_by}

-- how many variables and rows, and how many columns with the goal's
unfoldable pub width_of : {L : _} {G : _} → Dict L G → ℕ
width_of d = d.width

unfoldable pub height_of : {L : _} {G : _} → Dict L G → ℕ
height_of d = d.height

abbrev pub columns_of : {L : _} {G : _} → Dict L G → ℕ
columns_of d = width_of d + (height_of d + 1)

-- the columns in the order in which they stand: those that aren't basic, the rows' basic ones, the goal's
unfoldable pub column_standing : {L : _} {G : _} → Dict L G → ℕ → ℕ
column_standing d = slice_index d.columns.items

unfoldable pub place_of_column : {L : _} {G : _} → Dict L G → ℕ → ℕ
place_of_column d = slice_index d.places.items

-- whether a column is basic
unfoldable pub basic_of : {L : _} {G : _} → Dict L G → ℕ → Bool
basic_of d = basic_by d.width (slice_index d.places.items)

-- the entry of each column in each basic one's equation, 0 where there is none
unfoldable pub entry_of : {L : _} {G : _} → Dict L G → Entries
entry_of d = entries_by d.width (slice_index d.places.items) d.rows.items

-- it is loaded: each row has entries of columns that aren't basic alone
unfoldable pub IsLoaded : {L : _} {G : _} → Dict L G → Type 0
IsLoaded d = IsTrue d.is_loaded × AreOver d.width (d.height + 1) (slice_index d.places.items) d.rows.items

-- it is loaded, and is the dictionary of its basis for these rows, the goal's being the last
pub record Holds {L : _} {G : _} (A : Entries) (d : Dict L G) : Type 0 where
  pub loaded : IsLoaded d
  pub is : IsDictionary (width_of d) (height_of d + 1) A (basic_of d) (entry_of d)

-- it is loaded and had no pivot since: each column stands at its own place, and the rows have the numbers of A, the goal's being the last
unfoldable pub IsJustLoaded : {L : _} {G : _} → Entries → Dict L G → Type 0
IsJustLoaded A d =
    ((r c : ℕ) → IsNumber (A r c))
    × IsTrue d.is_loaded
    × ((r c : ℕ) → r < d.height + 1 → numbers_in d.rows.items r c ≡ A r c)
    × ((r c : ℕ) → d.width ≤ c → A r c ≡ none)
    × ((c : ℕ) → c < d.width + (d.height + 1) → slice_index d.columns.items c ≡ c)
    × ((c : ℕ) → c < d.width + (d.height + 1) → slice_index d.places.items c ≡ c)

-- a variable's or a row's column that is basic, or isn't
pub record IsBasic {L : _} {G : _} (d : Dict L G) (c : ℕ) : Type 0 where
  pub inside : c < width_of d + height_of d
  pub is : basic_of d c ≡ true

pub record IsNonbasic {L : _} {G : _} (d : Dict L G) (c : ℕ) : Type 0 where
  pub inside : c < width_of d + height_of d
  pub is : basic_of d c ≡ false

-- as many variables and rows
pub record HaveOneSize {L : _} {G : _} (d e : Dict L G) : Type 0 where
  pub width : width_of e ≡ width_of d
  pub height : height_of e ≡ height_of d

-- how many columns have a value, and which
unfoldable pub count_of : Places → ℕ
count_of p = length p.values.items

unfoldable pub place_values : Places → Values
place_values p = value_at (ratios p.values.items)

-- w has the values of all columns that aren't basic
pub record Rest {L : _} {G : _} (d : Dict L G) (p : Places) (w : Values) : Type 0 where
  pub numbers : (c : ℕ) → IsNumber (w c)
  pub values : (c : ℕ) → c < width_of d + height_of d → basic_of d c ≡ false → w c ≡ place_values p c
