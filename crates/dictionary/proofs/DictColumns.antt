-- What a dictionary in memory tells.
use Rattle.std.proofs.Common.{◌≡◌, ℕ, zero, suc, ◌+◌, ◌-◌, ◌^◌, ◌<◌, ◌≤◌, true, false, not, nat_eq, Option, None, Some, MatchOption, List, [], ◌∷◌, length, get_or, arith, refl, sym, ◌∙◌, ap, subst}
use Rattle.std.specs.Prelude.{unsigned_abs, IfSome}
use Rattle.std.proofs.lemmas.Bool.{le-ltb}
use Rattle.rational.specs.Ratio.{Ratio}
use Rattle.evidence.proofs.Columns.{by_lt}
use Rattle.bases.specs.Dictionary.{Values}
use Rattle.bases.specs.Order.{GoesThrough}
use Rattle.marks.specs.Words.{IsFirst, HasNone}
use Rattle.dictionary.specs.declared.dict.Dict.{Dict}
use Rattle.dictionary.specs.declared.row.Row.{Row}
use Rattle.dictionary.specs.declared.places.Places.{Places}
use Rattle.dictionary.specs.Rows.{numbers_of, numbers_in, entries_at, has_number, HasNumber, IsRow, IsOverPlaces, AreValuesOf}
use Rattle.dictionary.specs.Steps.{nonzeros}
use Rattle.dictionary.specs.Dict.{width_of, height_of, columns_of, column_standing, place_of_column, basic_of, entry_of, IsLoaded, IsBasic, IsNonbasic, Rest, place_values}
use Rattle.dictionary.proofs.Nonzeros.{few_over}
use Rattle.dictionary.proofs.Exchanges.{one_place, basic_below, basic_from, place_basic, place_nonbasic}
use Rattle.dictionary.proofs.DictParts.{cols, place}
use Rattle.dictionary.proofs.RowForms.{marked_has, has_marked}

-- the goal's column stands at its place alone
not_goal : {L : _} {G : _} (d : Dict L G) (j : ℕ) → j < d.width + d.height → cols d j < d.width + d.height
not_goal d j l =
    let p = d.basis in
    let i = p.inside j (omega arith) in
    by_lt (cols d j) (d.width + d.height) (λ h. h)
    (λ h. let e = one_place (d.width + (d.height + 1)) (cols d) (place d) d.basis j (d.width + d.height) (omega arith) (omega arith) (let g = d.goal in omega arith) in absurd (omega arith))

pub basic_there : {L : _} {G : _} (d : Dict L G) (i : ℕ) → i < d.height → IsBasic d (cols d (d.width + i))
unfolding width_of height_of basic_of
basic_there d i l = record {
  inside = not_goal d (d.width + i) (omega arith);
  is = let p = d.basis in basic_from d.width (place d) (cols d (d.width + i)) (let e = p.place_at (d.width + i) (omega arith) in omega arith);
}

pub nonbasic_there : {L : _} {G : _} (d : Dict L G) (j : ℕ) → j < d.width → IsNonbasic d (cols d j)
unfolding width_of height_of basic_of
nonbasic_there d j l = record {
  inside = not_goal d j (omega arith);
  is = let p = d.basis in basic_below d.width (place d) (cols d j) (let e = p.place_at j (omega arith) in omega arith);
}

pub through_nonbasic : {L : _} {G : _} (d : Dict L G) → GoesThrough (width_of d) (columns_of d) (basic_of d) false (column_standing d) (place_of_column d)
unfolding width_of height_of basic_of column_standing place_of_column
through_nonbasic d =
    let p = d.basis in
    record {
      inside = λ j h. p.inside j (omega arith);
      is = λ j h. basic_below d.width (place d) (cols d j) (let e = p.place_at j (omega arith) in omega arith);
      place_at = λ j h. p.place_at j (omega arith);
      stands = λ c h t. place_nonbasic d.width (place d) c t;
      at_place = λ c h t. p.at_place c h;
    }

pub through_basic : {L : _} {G : _} (d : Dict L G) → GoesThrough (height_of d) (width_of d + height_of d) (basic_of d) true (λ i. column_standing d (width_of d + i)) (λ c. place_of_column d c - width_of d)
unfolding width_of height_of basic_of column_standing place_of_column
through_basic d =
    let p = d.basis in
    record {
      inside = λ j h. not_goal d (d.width + j) (omega arith);
      is = λ j h. basic_from d.width (place d) (cols d (d.width + j)) (let e = p.place_at (d.width + j) (omega arith) in omega arith);
      place_at = λ j h. let e = p.place_at (d.width + j) (omega arith) in omega arith;
      stands = λ c h t.
          let f = place_basic d.width (place d) c t in
          let s = p.stands c (omega arith) in
          by_lt (place d c) (d.width + d.height) (λ l. omega arith) (λ l. let a = p.at_place c (omega arith) in let e : place d c ≡ d.width + d.height = omega arith in let g = ap (cols d) e in let k = d.goal in absurd (omega arith));
      at_place = λ c h t. let f = place_basic d.width (place d) c t in let e : d.width + (place d c - d.width) ≡ place d c = omega arith in ap (cols d) e ∙ p.at_place c (omega arith);
    }

-- of an equation's column: a basic one's, or the goal's
pub equation_from : {L : _} {G : _} (d : Dict L G) (b : ℕ) → basic_of d b ≡ true → d.width ≤ place d b
unfolding basic_of
equation_from d b h = place_basic d.width (place d) b h

pub equation_place : {L : _} {G : _} (d : Dict L G) (b : ℕ) → b < columns_of d → b < length d.places.items
unfolding width_of height_of
equation_place d b h = let n = d.places_count in omega arith

pub equation_row : {L : _} {G : _} (d : Dict L G) (b : ℕ) → b < columns_of d → place d b - d.width < length d.rows.items
unfolding width_of height_of
equation_row d b h =
    let p = d.basis in
    let s = p.stands b h in
    let n = d.count in
    omega arith

pub from_basic : {L : _} {G : _} (d : Dict L G) (b : ℕ) → IsBasic d b → d.width ≤ place d b
from_basic d b h = equation_from d b h.is

pub place_in : {L : _} {G : _} (d : Dict L G) (b : ℕ) → IsBasic d b → b < length d.places.items
place_in d b h = equation_place d b (let i = h.inside in omega arith)

pub row_in : {L : _} {G : _} (d : Dict L G) (b : ℕ) → IsBasic d b → place d b - d.width < length d.rows.items
row_in d b h = equation_row d b (let i = h.inside in omega arith)

-- the goal's column is the last row's
pub goal_from : {L : _} {G : _} (d : Dict L G) → d.width ≤ place d (d.width + d.height)
goal_from d = let p = d.basis in let e = p.place_at (d.width + d.height) (omega arith) in let g = ap (place d) d.goal in omega arith

pub goal_row : {L : _} {G : _} (d : Dict L G) → d.height ≡ place d (d.width + d.height) - d.width
goal_row d = let p = d.basis in let e = p.place_at (d.width + d.height) (omega arith) in let g = ap (place d) d.goal in omega arith

-- a row that was read has the numbers of its place in the table
pub told_row : {L : _} {G : _} (rows : List (Row L G)) (r : ℕ) (row : Row L G) → r < length rows → row ≡ get_or rows r row → numbers_in rows r ≡ numbers_of row
told_row [] r row h e = absurd (omega arith)
told_row (x ∷ xs) zero row h e = ap numbers_of (sym e)
told_row (x ∷ xs) (suc r) row h e = told_row xs r row (omega arith) e

-- a row that was read is that of column b's equation
pub record IsRead {L : _} {G : _} (d : Dict L G) (b : ℕ) (row : Row L G) : Type 0 where
  pub loaded : IsLoaded d
  pub from : d.width ≤ place d b
  pub inside : place d b - d.width < length d.rows.items
  pub at : row ≡ get_or d.rows.items (place d b - d.width) row

pub read_equation : {L : _} {G : _} (d : Dict L G) → IsLoaded d → (b r : ℕ) → b < columns_of d → basic_of d b ≡ true → r ≡ place d b - d.width → (row : Row L G) → row ≡ get_or d.rows.items r row → IsRead d b row
read_equation d loaded b r l h e row at = record { loaded = loaded; from = equation_from d b h; inside = equation_row d b l; at = subst (λ k. row ≡ get_or d.rows.items k row) e at }

pub read_basic : {L : _} {G : _} (d : Dict L G) → IsLoaded d → (b r : ℕ) → IsBasic d b → r ≡ place d b - d.width → (row : Row L G) → row ≡ get_or d.rows.items r row → IsRead d b row
read_basic d loaded b r h e row at = read_equation d loaded b r (let i = h.inside in omega arith) h.is e row at

-- the goal's is the last
pub read_goal : {L : _} {G : _} (d : Dict L G) → IsLoaded d → (row : Row L G) → row ≡ get_or d.rows.items d.height row → IsRead d (d.width + d.height) row
read_goal d loaded row at = record {
  loaded = loaded;
  from = goal_from d;
  inside = let e = goal_row d in let n = d.count in omega arith;
  at = subst (λ k. row ≡ get_or d.rows.items k row) (goal_row d) at;
}

module _ {L : _} {G : _} (d : Dict L G) (b : ℕ) (row : Row L G) (read : IsRead d b row) where
  pub row_is : IsRow (d.width + (d.height + 1)) d.width row
  row_is = d.rows_are (place d b - d.width) row read.inside read.at

  told : numbers_in d.rows.items (place d b - d.width) ≡ numbers_of row
  told = told_row d.rows.items (place d b - d.width) row read.inside read.at

  pub said_there : (c : ℕ) → numbers_of row c ≡ entry_of d b c
  unfolding entry_of
  said_there c =
      let l : entry_of d b c ≡ numbers_in d.rows.items (place d b - d.width) c = rw (le-ltb (place d b) d.width read.from) refl in
      sym (l ∙ ap (λ (f : ℕ → Ratio). f c) told)

  pub over_there : IsOverPlaces d.width (place d) (numbers_of row)
  unfolding IsLoaded
  over_there c h =
      let o = read.loaded.1 in
      let n = d.count in
      let i = read.inside in
      ap (λ (f : ℕ → Ratio). f c) (sym told) ∙ o.over (place d b - d.width) (omega arith) c h

  few : nonzeros (d.width + (d.height + 1)) (numbers_of row) ≤ d.width
  few = few_over d.width (d.width + (d.height + 1)) (cols d) (place d) (numbers_of row) d.basis (λ c h. ap (λ (v : Ratio). v.num) (over_there c h))

  pub digits_there : (k : ℕ) → width_of d < 2 ^ k → nonzeros (d.width + (d.height + 1)) (numbers_of row) < 2 ^ k
  unfolding width_of
  digits_there k l = let m = few in omega arith

  column_in : (c : ℕ) → IsNonbasic d c → c < d.width + (d.height + 1)
  unfolding width_of height_of
  column_in c h = let i = h.inside in omega arith

  -- what a row's calls ask for
  pub column_asked : (c : ℕ) → IsNonbasic d c → (k n : ℕ) × IsRow k n row × (c < k)
  column_asked c h = (d.width + (d.height + 1), d.width, row_is, column_in c h)

  pub mark_there : (c : ℕ) → entries_at row c ≡ has_number (entry_of d b) c
  unfolding entries_at
  mark_there c = let i = row_is in i.marked c ∙ ap (λ (x : Ratio). not (nat_eq (unsigned_abs x.num) 0)) (said_there c)

  -- an entry's column isn't basic
  pub column_there : (c : ℕ) → entries_at row c ≡ true → IsNonbasic d c
  unfolding entries_at width_of height_of basic_of
  column_there c e =
      let p = d.basis in
      let i = row_is in
      let w = i.inside c e in
      let has : HasNumber (numbers_of row) c = marked_has row (d.width + (d.height + 1)) d.width i c e in
      let low : place d c < d.width = by_lt (place d c) d.width (λ g. g) (λ g. absurd (has (ap (λ (v : Ratio). v.num) (over_there c g)))) in
      record { inside = omega arith; is = basic_below d.width (place d) c low }

  pub first_there : (from : ℕ) (o : Option ℕ) → MatchOption o (HasNone (entries_at row) from) (IsFirst (entries_at row) from) → IfSome o (λ c. IsNonbasic d c)
  first_there from None h = tt
  first_there from (Some c) h = column_there c h.is

  -- an entry's column
  pub entry_there : (c : ℕ) → HasNumber (numbers_of row) c → IsNonbasic d c
  entry_there c h = column_there c (has_marked row (d.width + (d.height + 1)) d.width row_is c h)

  pub told_numbers : numbers_of row ≡ entry_of d b
  told_numbers = λ i c. said_there c i

  pub values_there : (p : Places) (w : Values) → Rest d p w → AreValuesOf (numbers_of row) (place_values p) (columns_of d) w
  values_there p w rest = record {
    numbers = rest.numbers;
    inside = λ c h. let n = entry_there c h in let i = n.inside in omega arith;
    same = λ c h. let n = entry_there c h in rest.values c n.inside n.is;
  }
