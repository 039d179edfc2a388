-- A dictionary in memory before and after a pivot.
use Rattle.std.proofs.Common.{◌≡◌, ℕ, ◌+◌, ◌-◌, zero, suc, ◌<◌, ◌≤◌, pos, IsTrue, List, [], ◌∷◌, length, arith, refl, sym, ◌∙◌, ap, subst}
use Rattle.rational.specs.Ratio.{Ratio, IsNumber}
use Rattle.rational.specs.Width.{IsReduced}
use Rattle.evidence.specs.Sums.{none}
use Rattle.evidence.proofs.Columns.{by_eq, none-number}
use Rattle.evidence.proofs.Fits.{whole-reduced}
use Rattle.bases.specs.Dictionary.{Entries, IsDictionary}
use Rattle.bases.specs.Pivot.{exchanged, IsPivoted, PivotFits}
use Rattle.bases.proofs.Pivots.{pivoted_dictionary}
use Rattle.bases.proofs.Lists.{same_basis}
use Rattle.dictionary.specs.declared.dict.Dict.{Dict}
use Rattle.dictionary.specs.declared.row.Row.{Row}
use Rattle.dictionary.specs.Numbers.{HasNumber}
use Rattle.dictionary.specs.Rows.{numbers_in, AreRows, IsOverPlaces, IsTableTurned, TableFits, PivotHasRoom, replacements_cost}
use Rattle.dictionary.specs.Basis.{ArePlaces, ChangePlaces, basic_by, entries_by}
use Rattle.dictionary.specs.Steps.{pivot_steps}
use Rattle.dictionary.specs.Dict.{width_of, height_of, columns_of, basic_of, entry_of, IsLoaded, Holds, IsBasic, IsNonbasic}
use Rattle.dictionary.proofs.DictParts.{cols, place, past_list, all_columns, placed}
use Rattle.dictionary.proofs.Exchanges.{AreExchanged, with_changed, exchange_of, place_basic, place_nonbasic, basic_after, places_after, solved_over, replaced_over}
use Rattle.dictionary.proofs.RowForms.{numbers-number, numbers-reduced}
use Rattle.dictionary.proofs.TurnedTables.{AreTurned, told, listed, pivoted, turned_fits, own_in, turn_room, turned_back, turn_cost}

-- what holds of a table and a place holds of the same ones
pub carried : {L : _} {G : _} (P : List (Row L G) → ℕ → Type 0) (x y : List (Row L G)) (p q : ℕ) → x ≡ y → p ≡ q → P y q → P x p
carried P x y p q e f h = subst (λ (a : List (Row _ _)). P a p) (sym e) (subst (λ b. P y b) (sym f) h)

-- no row stands past the last
pub beyond_rows : {L : _} {G : _} (rows : List (Row L G)) (r : ℕ) → length rows ≤ r → (c : ℕ) → numbers_in rows r c ≡ none
beyond_rows [] r l c = refl
beyond_rows (x ∷ xs) zero l c = absurd (omega arith)
beyond_rows (x ∷ xs) (suc r) l c = beyond_rows xs r (omega arith) c

pub table-number : {L : _} {G : _} (rows : List (Row L G)) (r c : ℕ) → IsNumber (numbers_in rows r c)
table-number [] r c = none-number
table-number (x ∷ xs) zero c = numbers-number x c
table-number (x ∷ xs) (suc r) c = table-number xs r c

pub table-reduced : {L : _} {G : _} (k n : ℕ) (rows : List (Row L G)) → AreRows k n rows → (r c : ℕ) → IsReduced (numbers_in rows r c)
table-reduced k n [] are r c = whole-reduced (pos 0)
table-reduced k n (x ∷ xs) are zero c = numbers-reduced x k n (are 0 x (omega arith) refl) c
table-reduced k n (x ∷ xs) are (suc r) c = table-reduced k n xs (λ j v l e. are (suc j) v (omega arith) e) r c

module _ {L : _} {G : _} (d : Dict L G) (b e : ℕ) (basic : IsBasic d b) (nonbasic : IsNonbasic d e) where
  pub b_inside : b < d.width + length d.rows.items
  unfolding width_of height_of
  b_inside = let i = basic.inside in let c = d.count in omega arith

  pub e_inside : e < d.width + length d.rows.items
  unfolding width_of height_of
  e_inside = let i = nonbasic.inside in let c = d.count in omega arith

  pub b_from : d.width ≤ place d b
  unfolding basic_of
  b_from = place_basic d.width (place d) b basic.is

  pub e_below : place d e < d.width
  unfolding basic_of
  e_below = place_nonbasic d.width (place d) e nonbasic.is

  -- with the places exchanged, whatever becomes of the rows
  pub before : AreExchanged d.width (d.width + length d.rows.items) (cols d) (place d) (with_changed (place d b) (place d e) (cols d)) (with_changed b e (place d)) b e
  before = exchange_of d.width (d.width + length d.rows.items) (cols d) (place d) b e (placed d) (omega arith) b_inside e_inside b_from e_below

  after : (to new : ℕ → ℕ) → ChangePlaces (place d b) (place d e) (cols d) to → ChangePlaces b e (place d) new → AreExchanged d.width (d.width + length d.rows.items) (cols d) (place d) to new b e
  after to new moved placed' = record { places = placed d; within = omega arith; b_in = b_inside; e_in = e_inside; b_from = b_from; e_below = e_below; moved = moved; placed = placed' }

  -- past the last column a place is 0
  past_places : (c : ℕ) → d.width + length d.rows.items ≤ c → place d c < d.width
  past_places c l = let z = past_list d.places.items c (let g = d.places_count in let h = d.count in omega arith) in let g = e_below in omega arith

  pub places_kept : (to new : ℕ → ℕ) → ChangePlaces (place d b) (place d e) (cols d) to → ChangePlaces b e (place d) new → ArePlaces (d.width + (d.height + 1)) to new
  places_kept to new moved placed' = subst (λ k. ArePlaces (d.width + k) to new) d.count (places_after d.width (d.width + length d.rows.items) (cols d) (place d) to new b e (after to new moved placed'))

  -- the goal's column stays
  pub goal_kept : (to : ℕ → ℕ) → ChangePlaces (place d b) (place d e) (cols d) to → to (d.width + d.height) ≡ d.width + d.height
  unfolding width_of height_of
  goal_kept to moved =
      let p = placed d in
      moved.other (d.width + d.height) (λ h. let i = basic.inside in let g = ap (cols d) h in let a = p.at_place b b_inside in let l = d.goal in omega arith) (λ h. let i = e_below in omega arith) ∙ d.goal

  pub b_apart : b ≡ e → ⊥
  b_apart h = let f = b_from in let g = e_below in let i = ap (place d) h in omega arith

  module _ (loaded : IsLoaded d) where
    abbrev T : Entries
    T = numbers_in d.rows.items

    rows_over : (r : ℕ) → r < length d.rows.items → IsOverPlaces d.width (place d) (numbers_in d.rows.items r)
    unfolding IsLoaded
    rows_over r l = let o = loaded.1 in o.over r (let n = d.count in omega arith)

    pub row_inside : place d b - d.width < length d.rows.items
    row_inside = own_in d.width (length d.rows.items) (cols d) (place d) (with_changed (place d b) (place d e) (cols d)) (with_changed b e (place d)) b e T before rows_over

    pub row_absent : (numbers_in d.rows.items (place d b - d.width) b).num ≡ pos 0
    row_absent = ap (λ (v : Ratio). v.num) (rows_over (place d b - d.width) row_inside b b_from)

    pub row_stands : ((entry_of d b e).num ≡ pos 0 → ⊥) → HasNumber (numbers_in d.rows.items (place d b - d.width)) e
    unfolding entry_of
    row_stands nz z = nz (ap (λ (v : Ratio). v.num) (listed d.width (place d) T b e b_from) ∙ z)

    pub room_there : ((entry_of d b e).num ≡ pos 0 → ⊥) → PivotHasRoom (d.width + length d.rows.items) (numbers_in d.rows.items) (place d b - d.width) b e (length d.rows.items) d.width
    room_there nz = turn_room d.width (length d.rows.items) (cols d) (place d) (with_changed (place d b) (place d e) (cols d)) (with_changed b e (place d)) b e T before rows_over (row_stands nz)

    pub never_fits : ((entry_of d b e).num ≡ pos 0 → ⊥) → (TableFits (place d b - d.width) b e (numbers_in d.rows.items) (length d.rows.items) → ⊥) → PivotFits (entry_of d) b e → ⊥
    unfolding entry_of
    never_fits nz wide fits = wide (turned_back d.width (length d.rows.items) (cols d) (place d) (with_changed (place d b) (place d e) (cols d)) (with_changed b e (place d)) b e T before rows_over (table-number d.rows.items) (row_stands nz) row_absent fits)

    pub bounded : (digits s t : ℕ) → t ≤ s + replacements_cost (d.width + length d.rows.items) (numbers_in d.rows.items) (numbers_in d.rows.items (place d b - d.width)) e (length d.rows.items) → t ≤ s + pivot_steps (columns_of d) (height_of d + 1) (entry_of d) b e digits
    unfolding width_of height_of entry_of
    bounded digits s t cost =
        let a = turn_cost d.width (length d.rows.items) (cols d) (place d) (with_changed (place d b) (place d e) (cols d)) (with_changed b e (place d)) b e T before rows_over digits in
        subst (λ m. t ≤ s + pivot_steps (d.width + m) m (entries_by d.width (place d) d.rows.items) b e digits) d.count (omega arith)

    -- what fits of the table fits of the entries, whatever rows it is turned to
    pub fits_there : (R : List (Row L G)) → AreRows (d.width + (d.height + 1)) d.width R → length R ≡ length d.rows.items → IsTableTurned (place d b - d.width) b e (numbers_in d.rows.items) (numbers_in R) (length d.rows.items) → ((entry_of d b e).num ≡ pos 0 → ⊥) → TableFits (place d b - d.width) b e (numbers_in d.rows.items) (length d.rows.items) → PivotFits (entry_of d) b e
    unfolding entry_of
    fits_there R are as_many turned nz = turned_fits d.width (length d.rows.items) (cols d) (place d) (with_changed (place d b) (place d e) (cols d)) (with_changed b e (place d)) b e T (numbers_in R) (record {
      exchanged = before;
      past = past_places;
      numbers = table-number d.rows.items;
      reduced = table-reduced (d.width + (d.height + 1)) d.width R are;
      beyond = λ r c l. beyond_rows R r (omega arith) c;
      stands = row_stands nz;
      turned = turned;
    })

    -- the rows are turned, and the columns have exchanged their places
    module _ (f : Dict L G) (width : f.width ≡ d.width) (height : f.height ≡ d.height) (turned : IsTableTurned (place d b - d.width) b e (numbers_in d.rows.items) (numbers_in f.rows.items) (length d.rows.items)) (moved : ChangePlaces (place d b) (place d e) (cols d) (cols f)) (new : ChangePlaces b e (place d) (place f)) (nz : (entry_of d b e).num ≡ pos 0 → ⊥) where
      abbrev U : Entries
      U = numbers_in f.rows.items

      as_many : length f.rows.items ≡ length d.rows.items
      as_many = let g = f.count in let h = d.count in omega arith

      reduced_after : (r c : ℕ) → IsReduced (numbers_in f.rows.items r c)
      reduced_after = table-reduced (f.width + (f.height + 1)) f.width f.rows.items f.rows_are

      table : AreTurned d.width (length d.rows.items) (cols d) (place d) (cols f) (place f) b e T U
      table = record {
        exchanged = after (cols f) (place f) moved new;
        past = past_places;
        numbers = table-number d.rows.items;
        reduced = reduced_after;
        beyond = λ r c l. beyond_rows f.rows.items r (let m = as_many in omega arith) c;
        stands = row_stands nz;
        turned = turned;
      }

      pub turned_basis : (c : ℕ) → basic_of f c ≡ exchanged (basic_of d) b e c
      unfolding basic_of
      turned_basis c = ap (λ n. basic_by n (place f) c) width ∙ basic_after d.width (d.width + length d.rows.items) (cols d) (place d) (cols f) (place f) b e (after (cols f) (place f) moved new) c

      turned_table : IsPivoted (told d.width (place d) T) b e (told d.width (place f) U)
      turned_table = pivoted d.width (length d.rows.items) (cols d) (place d) (cols f) (place f) b e T U table

      pub turned_entries : IsPivoted (entry_of d) b e (entry_of f)
      unfolding entry_of
      turned_entries = subst (λ n. IsPivoted (entries_by d.width (place d) d.rows.items) b e (entries_by n (place f) f.rows.items)) (sym width) turned_table

      -- each row is over the columns that aren't basic then
      over_after : (r : ℕ) → r < length d.rows.items → IsOverPlaces d.width (place f) (numbers_in f.rows.items r)
      over_after r l =
          let x = after (cols f) (place f) moved new in
          let s = turned.own in
          let mine = solved_over d.width (d.width + length d.rows.items) (cols d) (place d) (cols f) (place f) b e x (T (place d b - d.width)) (U (place d b - d.width)) (reduced_after (place d b - d.width)) (rows_over (place d b - d.width) row_inside) (row_stands nz) s in
          by_eq r (place d b - d.width)
          (λ h. subst (λ j. IsOverPlaces d.width (place f) (U j)) (sym h) mine)
          (λ h. replaced_over d.width (d.width + length d.rows.items) (cols d) (place d) (cols f) (place f) b e x (T r) (U r) (reduced_after r) (rows_over r l) (U (place d b - d.width)) (table-number d.rows.items r e) mine (turned.others r l h))

      turned_loaded : IsTrue f.is_loaded → IsLoaded f
      unfolding IsLoaded
      turned_loaded flag = (
        flag,
        record {
          rows_are = f.rows_are;
          over = λ r l. subst (λ n. IsOverPlaces n (place f) (numbers_in f.rows.items r)) (sym width) (over_after r (let c = f.count in let m = as_many in omega arith));
        },
      )

      turned_is : (A : Entries) → IsDictionary (width_of d) (height_of d + 1) A (basic_of d) (entry_of d) → IsDictionary (width_of f) (height_of f + 1) A (basic_of f) (entry_of f)
      unfolding width_of height_of basic_of entry_of
      turned_is A h =
          let c = d.count in
          let l = all_columns d in
          let i = b_inside in
          let j = e_inside in
          let v = entries_by d.width (place f) f.rows.items in
          let made = pivoted_dictionary d.width (d.height + 1) A (basic_by d.width (place d)) (entries_by d.width (place d) d.rows.items) v b e (omega arith) (omega arith) basic.is nonbasic.is nz turned_table h in
          let same = same_basis d.width (d.height + 1) A (exchanged (basic_by d.width (place d)) b e) (basic_by d.width (place f)) v (λ q _. sym (basic_after d.width (d.width + length d.rows.items) (cols d) (place d) (cols f) (place f) b e (after (cols f) (place f) moved new) q)) made in
          subst (λ n. IsDictionary n (f.height + 1) A (basic_by n (place f)) (entries_by n (place f) f.rows.items)) (sym width)
          (subst (λ m. IsDictionary d.width (m + 1) A (basic_by d.width (place f)) v) (sym height) same)

      pub turned_holds : IsTrue f.is_loaded → (A : Entries) → Holds A d → Holds A f
      turned_holds flag A h = record { loaded = turned_loaded flag; is = turned_is A h.is }
