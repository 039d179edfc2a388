-- What an instance's matrix is written as is read as its entries, mark by mark.
use Rattle.osil_grammar.proofs.Words.{◌≡◌, ◌∙◌, ℕ, zero, suc, ◌+◌, ◌<◌, ◌≤◌, inr, inl, Bool, true, false, cond, ℤ, pos, ◌+ℤ◌, ◌*ℤ◌, List, [], ◌∷◌, ◌++◌, map, matrix_lists, length, drop, get_or, refl, ap, sym, subst, arith, Some, Contains, codes, All, ints, append-nil, append_assoc, map_push, length-append, length-map, matrix_lists, All-head, All-tail, All-map, All-weaker, All-contains, Event, Open, Close, Nodes, nodes_events, local_nodes, Mark, Start, Char, Finish, spread, Ratio, IsSame, sum, SumFits, ratio, ratios, Frac, Entry, IsWholeText, IsDecimal, whole_once, Parts, IsBefore, IsAscending, IsInside, entry, entries, TakesMark, Listing, IsDivision, stored, placed_all, place_sum, HasWidePlace, AreEntriesOf, nought, State, IsIndexBelow, IsOutOfRange, osil, HasDecimal, WriteLists, WriteValues, counts_nodes, entries_below, row_starts}
use Rattle.std.specs.Fmt.{decimal as digits}
use Rattle.evidence.specs.Sums as evidence
use Rattle.evidence.specs.Instance as Of
use Rattle.osil_grammar.specs.declared.elements.Listing.TheVariants as listings
use Rattle.osil_grammar.specs.declared.elements.Place.TheVariants as places
use Rattle.osil_grammar.specs.declared.elements.Part.TheVariants as parts
use Rattle.osil_grammar.specs.Matrix.{Lists}
use Rattle.osil_grammar.proofs.Documents.{starts_small}
use Rattle.osil_grammar.proofs.EndTagTests.{run_added}
use Rattle.osil_grammar.proofs.EntrySums.{none_fits}
use Rattle.osil_grammar.proofs.Lines.{Divides, division}
use Rattle.osil_grammar.proofs.Places.{is_at, apart}
use Rattle.osil_grammar.proofs.RoundTrips.{plain_decimal, whole_read}
use Rattle.osil_grammar.proofs.RowEntries.{Rises, rises, below_rises, all_before, none_first, lines_are, placed_are, sums_are}
use Rattle.osil_grammar.proofs.TagNumbers as numbers
use Rattle.osil_grammar.proofs.WrittenItems.{Reads, read_one, read_text}
use Rattle.tag_tests.proofs.Forms.{heads}

-- A LIST OF WHOLE NUMBERS: the starts, or the columns' indices
abbrev list_of : Bool → Listing
list_of true = listings.Starts
list_of false = listings.ColumnIndices

abbrev pub in_list : Bool → State → (n t : ℕ) → ℤ → (text ns : List ℕ) → State
in_list true s n t w text ns = record s { place = places.Listed listings.Starts; count = n; times = t; whole_step = w; text = text; starts = ns }
in_list false s n t w text ns = record s { place = places.Listed listings.ColumnIndices; count = n; times = t; whole_step = w; text = text; by_columns = false; indices = ns }

abbrev in_el : Bool → State → ℕ → (text ns : List ℕ) → State
in_el b s n text ns = record (in_list b s n 1 (pos 0) text ns) { place = places.El (list_of b) }

-- how many there may be, and below what
abbrev most_of : Bool → ℕ
most_of true = 1001
most_of false = 100000

abbrev below_of : Bool → State → ℕ
below_of true s = 100001
below_of false s = length s.vars

only_one : (text : List ℕ) (m bound : ℕ) → m < bound → m ≤ 100000 → text ≡ digits m → IsOutOfRange text (pos 0) 1 bound → ⊥
only_one text m bound less small is o =
    let first : pos m ≡ o.first = whole_once text (pos m) o.first (subst (λ (t : List ℕ). IsWholeText t (pos m)) (sym is) (whole_read m small)) o.begins in
    let inside = o.inside in
    let here : pos m +ℤ pos o.k *ℤ pos 0 ≡ pos m = omega (arith, ints, inside) in
    o.out (subst (λ (z : ℤ). IsIndexBelow (z +ℤ pos o.k *ℤ pos 0) bound) first (subst (λ (z : ℤ). IsIndexBelow z bound) (sym here) (omega (arith, ints), omega (arith, ints, less))))

el_begins : (b : Bool) (s : State) (n t : ℕ) (w : ℤ) (text ns : List ℕ) → length ns + 1 ≤ most_of b → TakesMark osil (in_list b s n t w text ns) (Start (codes "el") []) (in_el b s (n + 1) [] ns)
el_begins true s n t w text ns few = ((λ x. x, (λ x. x, (λ x. x, (λ x. x, (λ m. let one = m.1 in let many = m.2 in omega (arith, one, many, few), tt))))), (1, pos 0, refl, refl, refl))
el_begins false s n t w text ns few = ((λ x. x, (λ x. x, (λ x. x, (λ x. x, (λ m. let one = m.1 in let many = m.2 in omega (arith, one, many, few), tt))))), (1, pos 0, refl, refl, refl))

el_ends : (b : Bool) (s : State) (n m : ℕ) (ns : List ℕ) → m < below_of b s → m ≤ 100000 → TakesMark osil (in_el b s n (digits m) ns) (Finish (codes "el")) (in_list b s n 1 (pos 0) (digits m) (ns ++ m ∷ []))
el_ends true s n m ns less small =
    let reads = whole_read m small in
    let fine = numbers.whole_read (digits m) (pos m) reads in
    ((λ b. b fine.0, (λ w. fine.1 w, (λ o. only_one (digits m) m 100001 less small refl o, tt))), (ns ++ m ∷ [], (pos m, reads, map_push pos ns m), refl))
el_ends false s n m ns less small =
    let reads = whole_read m small in
    let fine = numbers.whole_read (digits m) (pos m) reads in
    ((λ b. b fine.0, (λ w. fine.1 w, (λ o. only_one (digits m) m (length s.vars) less small refl o, tt))), (ns ++ m ∷ [], (pos m, reads, map_push pos ns m), refl))

el_text : (b : Bool) (s : State) (n : ℕ) (text ns : List ℕ) (ms : List Mark) (p : Parts) → Reads (in_el b s n text ns) ms p → Reads (in_el b s n [] ns) (map Char text ++ ms) p
el_text true s n text ns ms p behind = read_text (places.El listings.Starts) refl (in_el true s n [] ns) text [] ms p behind
el_text false s n text ns ms p behind = read_text (places.El listings.ColumnIndices) refl (in_el false s n [] ns) text [] ms p behind

pub read_counts : (b : Bool) (s : State) (k : List Event) (p : Parts) (ms : List ℕ) → All (λ m. m < below_of b s) ms → All (λ m. m ≤ 100000) ms → (n t : ℕ) (w : ℤ) (text ns : List ℕ) → length ns + length ms ≤ most_of b → ((n t : ℕ) (w : ℤ) (text : List ℕ) → Reads (in_list b s n t w text (ns ++ ms)) (spread k) p) → Reads (in_list b s n t w text ns) (spread (nodes_events (local_nodes (counts_nodes ms)) k)) p
read_counts b s k p [] low small n t w text ns few behind = subst (λ (l : List ℕ). Reads (in_list b s n t w text l) (spread k) p) (append-nil ns) (behind n t w text)
read_counts b s k p (m ∷ ms) low small n t w text ns few behind =
    let longer = length-append ns (m ∷ []) in
    let last : List Mark = spread (nodes_events (local_nodes (counts_nodes ms)) k) in
    let next = read_counts b s k p ms (All-tail (λ (x : ℕ). x < below_of b s) m ms low) (All-tail (λ (x : ℕ). x ≤ 100000) m ms small) (n + 1) 1 (pos 0) (digits m) (ns ++ m ∷ []) (omega (arith, few, longer)) (λ n t w text. subst (λ (l : List ℕ). Reads (in_list b s n t w text l) (spread k) p) (sym (append_assoc ns (m ∷ []) ms)) (behind n t w text)) in
    read_one (in_list b s n t w text ns) (in_el b s (n + 1) [] ns) (Start (codes "el") []) (map Char (digits m) ++ Finish (codes "el") ∷ last) p (el_begins b s n t w text ns (omega (arith, few)))
    (el_text b s (n + 1) (digits m) ns (Finish (codes "el") ∷ last) p
    (read_one (in_el b s (n + 1) (digits m) ns) (in_list b s (n + 1) 1 (pos 0) (digits m) (ns ++ m ∷ [])) (Finish (codes "el")) last p (el_ends b s (n + 1) m ns (All-head (λ (x : ℕ). x < below_of b s) m ms low) (All-head (λ (x : ℕ). x ≤ 100000) m ms small)) next))

-- THE VALUES
abbrev pub in_values : State → (n t : ℕ) → Frac → List ℕ → List Frac → State
in_values s n t d text vs = record s { place = places.Listed listings.Values; count = n; times = t; step = d; text = text; values = vs }

abbrev in_value : State → ℕ → List ℕ → List Frac → State
in_value s n text vs = record (in_values s n 1 nought text vs) { place = places.El listings.Values }

abbrev values_of : List Entry → List Frac
values_of es = map (λ (e : Entry). e.value) es

read_value : (s : State) (n t : ℕ) (d : Frac) (old text : List ℕ) (vs : List Frac) (x : Frac) → length vs + 1 ≤ 100000 → IsDecimal text (ratio x) → (ms : List Mark) (p : Parts) → Reads (in_values s (n + 1) 1 nought text (vs ++ x ∷ [])) ms p → Reads (in_values s n t d old vs) (Start (codes "el") [] ∷ (map Char text ++ Finish (codes "el") ∷ ms)) p
read_value s n t d old text vs x few reads ms p behind =
    let last : List Mark = Finish (codes "el") ∷ ms in
    read_one (in_values s n t d old vs) (in_value s (n + 1) [] vs) (Start (codes "el") []) (map Char text ++ last) p
    ((λ x. x, (λ x. x, (λ x. x, (λ x. x, (λ m. let one = m.1 in let many = m.2 in omega (arith, one, many, few), tt))))), (1, nought, refl, refl, refl))
    (read_text (places.El listings.Values) refl (in_value s (n + 1) [] vs) text [] last p
    (read_one (in_value s (n + 1) text vs) (in_values s (n + 1) 1 nought text (vs ++ x ∷ [])) (Finish (codes "el")) ms p
    (run_added (in_value s (n + 1) text vs) x (x ∷ []) (vs ++ x ∷ []) reads ((refl, tt), λ k inside. absurd (omega (arith, inside))) refl (codes "el")) behind))

pub read_values : (s : State) (k : List Event) (p : Parts) (es : List Entry) (nodes : Nodes) → All (λ e. HasDecimal e.value) es → WriteValues es nodes → (n t : ℕ) (d : Frac) (text : List ℕ) (vs : List Frac) → length vs + length es ≤ 100000 → ((n t : ℕ) (d : Frac) (text : List ℕ) → Reads (in_values s n t d text (vs ++ values_of es)) (spread k) p) → Reads (in_values s n t d text vs) (spread (nodes_events (local_nodes nodes) k)) p
read_values s k p [] nodes has is n t d text vs few behind =
    subst (λ (l : Nodes). Reads (in_values s n t d text vs) (spread (nodes_events (local_nodes l) k)) p) (sym is) (subst (λ (l : List Frac). Reads (in_values s n t d text l) (spread k) p) (append-nil vs) (behind n t d text))
read_values s k p (e ∷ es) nodes has (own, more, plain, rest, is) n t d text vs few behind =
    let longer = length-append vs (e.value ∷ []) in
    let next = read_values s k p es more (All-tail (λ (x : Entry). HasDecimal x.value) e es has) rest (n + 1) 1 nought own (vs ++ e.value ∷ []) (omega (arith, few, longer)) (λ n t d text. subst (λ (l : List Frac). Reads (in_values s n t d text l) (spread k) p) (sym (append_assoc vs (e.value ∷ []) (values_of es))) (behind n t d text)) in
    subst (λ (l : Nodes). Reads (in_values s n t d text vs) (spread (nodes_events (local_nodes l) k)) p) (sym is)
    (read_value s n t d text own vs e.value (omega (arith, few)) (plain_decimal e.value own plain (All-head (λ (x : Entry). HasDecimal x.value) e es has)) (spread (nodes_events (local_nodes more) k)) p next)

-- THE LISTS as they are written, and the entries that they store
starts_long : (es : List Entry) (i m : ℕ) → length (row_starts es i m) ≡ m + 1
starts_long es i zero = omega arith
starts_long es i (suc m) = let rest = starts_long es (i + 1) m in omega (arith, rest)

start_at : (es : List Entry) (i m k : ℕ) → k ≤ m → get_or (row_starts es i m) k 0 ≡ entries_below (i + k) es
start_at es i zero zero inside = let same : i ≡ i + 0 = omega arith in ap (λ (j : ℕ). entries_below j es) same
start_at es i zero (suc k) inside = absurd (omega (arith, inside))
start_at es i (suc m) zero inside = let same : i ≡ i + 0 = omega arith in ap (λ (j : ℕ). entries_below j es) same
start_at es i (suc m) (suc k) inside = let same : i + 1 + k ≡ i + suc k = omega arith in start_at es (i + 1) m k (omega (arith, inside)) ∙ ap (λ (j : ℕ). entries_below j es) same

starts_divide : (es : List Entry) (m : ℕ) → All (λ e. e.row < m) es → Divides (row_starts es 0 m) m (length es)
starts_divide es m inside =
    let long = starts_long es 0 m in
    let last : 0 + m ≡ m = omega arith in
    record {
      first = start_at es 0 m 0 (omega arith) ∙ none_first es;
      rising = λ k less.
          let here = start_at es 0 m k (omega (arith, long, less)) in
          let next = start_at es 0 m (k + 1) (omega (arith, long, less)) in
          let up = below_rises es (0 + k) in
          let same : 0 + k + 1 ≡ 0 + (k + 1) = omega arith in
          let on : entries_below (0 + k + 1) es ≡ entries_below (0 + (k + 1)) es = ap (λ (j : ℕ). entries_below j es) same in
          omega (arith, here, next, up, on);
      last = start_at es 0 m m (omega arith) ∙ ap (λ (j : ℕ). entries_below j es) last ∙ all_before m es inside;
      one_more = long;
    }

-- no two entries stand at one place
record IsOneOf (es : List Entry) (x : Of.Entry) (before : List Of.Entry) : Type 0 where
  one : Entry
  is : x ≡ entry one
  stands : Contains es one
  nothing_before : (start : Ratio) → place_sum start before x.row x.variable ≡ start

one_of : (es : List Entry) → Rises es → (before : List Of.Entry) (x : Of.Entry) (after : List Of.Entry) → entries es ≡ before ++ x ∷ after → IsOneOf es x before
one_of [] up [] x after split = absurd (omega (arith, ap length split))
one_of [] up (b ∷ before) x after split = absurd (omega (arith, ap length split))
one_of (e ∷ es) up [] x after split = record { one = e; is = sym (heads (entry e) x (entries es) after split).0; stands = (0, omega arith, refl); nothing_before = λ start. refl }
one_of (e ∷ es) up (b ∷ before) x after split =
    let both = heads (entry e) b (entries es) (before ++ x ∷ after) split in
    let rest = one_of es up.1 before x after both.1 in
    let off : is_at x.row x.variable (entry e) ≡ false =
    subst (λ (y : Of.Entry). is_at y.row y.variable (entry e) ≡ false) (sym rest.is) (apart e rest.one (All-contains (λ (y : Entry). IsBefore e y) es rest.one up.0 rest.stands)) in
    let past : (start : Ratio) → place_sum start (entry e ∷ before) x.row x.variable ≡ start =
    λ start. ap (λ (t : Bool). cond t (place_sum (sum start (ratio e.value)) before x.row x.variable) (place_sum start before x.row x.variable)) off ∙ rest.nothing_before start in
    let inside = rest.stands.1 in
    record { one = rest.one; is = rest.is; stands = (suc rest.stands.0, omega (arith, inside), rest.stands.2); nothing_before = subst (λ (y : Of.Entry). (start : Ratio) → place_sum start (y ∷ before) x.row x.variable ≡ start) both.0 past }

never_wide : (es : List Entry) → Rises es → HasWidePlace (entries es) → ⊥
never_wide es up h =
    let at = one_of es up h.before h.entry h.after h.split in
    h.wide (subst (λ (s : Ratio). SumFits s h.entry.value) (sym (at.nothing_before evidence.none)) (subst (λ (y : Of.Entry). SumFits evidence.none y.value) (sym at.is) (none_fits at.one.value)))

abbrev columns_of : List Entry → List ℕ
columns_of es = map (λ (e : Entry). e.col) es

columns_are : (es : List Entry) → map pos (columns_of es) ≡ map (λ e. pos e.col) es
columns_are [] = refl
columns_are (e ∷ es) = ap (λ (l : List ℤ). pos e.col ∷ l) (columns_are es)

values_are : (es : List Entry) → ratios (values_of es) ≡ map (λ e. ratio e.value) es
values_are [] = refl
values_are (e ∷ es) = ap (λ (l : List Ratio). ratio e.value ∷ l) (values_are es)

-- the lists that these entries are stored as, rows one after another
abbrev row_lists : ℕ → List Entry → Lists
row_lists m es = matrix_lists false (row_starts es 0 m) (columns_of es) (values_of es)

stored_are : (m : ℕ) (es : List Entry) → Rises es → All (λ e. e.row < m) es → stored (row_lists m es) ≡ entries es
stored_are m es up inside =
    let same : m ≡ 0 + m = omega arith in
    let lines = lines_are es 0 m up (subst (λ (k : ℕ). All (λ (e : Entry). e.row < k) es) same inside) in
    let all = ap (λ (k : ℕ). map (λ (e : Entry). e.row) (drop k es)) (none_first es) in
    ap (λ (l : List ℕ). placed_all false l (map pos (columns_of es)) (ratios (values_of es))) (lines ∙ all)
    ∙ ap (λ (l : List ℤ). placed_all false (map (λ (e : Entry). e.row) es) l (ratios (values_of es))) (columns_are es)
    ∙ ap (λ (l : List Ratio). placed_all false (map (λ (e : Entry). e.row) es) (map (λ (e : Entry). pos e.col) es) l) (values_are es) ∙ placed_are es

-- what the entries of a matrix are, of so many variables and rows
pub record AreFine (w h : ℕ) (es : List Entry) : Type 0 where
  pub few : length es ≤ 100000
  pub narrow : w ≤ 1000
  pub low : h ≤ 1000
  pub ascending : IsAscending es
  pub inside : All (IsInside h w) es
  pub decimals : All (λ e. HasDecimal e.value) es

-- THE MATRIX: its element has begun, and holds nothing yet
abbrev pub at_matrix : State → (n k : ℕ) → State
at_matrix s n k = record s { place = places.Part parts.Coefficients; count = n; list = 0; lists = 0; declared = Some k; values = [] }

-- it has ended, and the entries are these
abbrev pub behind_matrix : State → (n l t : ℕ) → Bool → ℤ → Frac → (text : List ℕ) → List Entry → State
behind_matrix s n l t b w d text es = record s { place = places.Data; count = n; list = l; lists = l; declared = Some (length es); times = t; whole_step = w; step = d; text = text; by_columns = b; starts = []; indices = []; values = []; entries = es }

abbrev last_mark : Mark
last_mark = Finish (codes "linearConstraintCoefficients")

module _ (s : State) (es : List Entry) (fine : AreFine (length s.vars) (length s.rows) es) where
  -- all three lists were read
  abbrev full : (n t : ℕ) → ℤ → Frac → List ℕ → State
  full n t w d text = record s { place = places.Part parts.Coefficients; count = n; list = 3; lists = 3; declared = Some (length es); times = t; whole_step = w; step = d; text = text; by_columns = false; starts = row_starts es 0 (length s.rows); indices = columns_of es; values = values_of es }

  rows_inside : All (λ e. e.row < length s.rows) es
  rows_inside = All-weaker (IsInside (length s.rows) (length s.vars)) (λ (e : Entry). e.row < length s.rows) (λ e is. is.row) es fine.inside

  up : Rises es
  up = rises es fine.ascending

  are : AreEntriesOf (stored (row_lists (length s.rows) es)) es
  are = record {
    ascending = fine.ascending;
    nonzero = All-weaker (IsInside (length s.rows) (length s.vars)) (λ (x : Entry). x.value.numer ≡ pos 0 → ⊥) (λ x at. at.nonzero) es fine.inside;
    sums = λ i j. subst (λ (l : List Of.Entry). IsSame (Of.entry_at (entries es) i j) (place_sum evidence.none l i j)) (sym (stored_are (length s.rows) es up rows_inside)) (sums_are es i j up);
  }

  full_ends : (n t : ℕ) (w : ℤ) (d : Frac) (text : List ℕ) → TakesMark osil (full n t w d text) last_mark (behind_matrix s n 3 t false w d text es)
  full_ends n t w d text =
      let long = length-map es (λ (e : Entry). e.value) in
      let wide = length-map es (λ (e : Entry). e.col) in (
        (
          λ h. let less = h.1 in absurd (omega (arith, less)),
          (
            λ h. never_wide es up (subst HasWidePlace (stored_are (length s.rows) es up rows_inside) h.wide),
            (
              λ other. other (sym long),
              (λ h. h.1 (wide ∙ sym long), (λ h. h.1 (subst (λ (k : ℕ). IsDivision (map pos (row_starts es 0 (length s.rows))) (length s.rows) k) (sym long) (division (row_starts es 0 (length s.rows)) (length s.rows) (length es) (starts_divide es (length s.rows) rows_inside))), tt)),
            ),
          ),
        ),
        (es, inr (λ none. absurd (omega (arith, none)), are), refl),
      )

  columns_low : All (λ m. m < length s.vars) (columns_of es)
  columns_low = All-map (λ (m : ℕ). m < length s.vars) (λ (e : Entry). e.col) es (All-weaker (IsInside (length s.rows) (length s.vars)) (λ (e : Entry). e.col < length s.vars) (λ e is. is.col) es fine.inside)

  columns_small : All (λ m. m ≤ 100000) (columns_of es)
  columns_small = All-weaker (λ (m : ℕ). m < length s.vars) (λ (m : ℕ). m ≤ 100000) (λ m less. let most = fine.narrow in omega (arith, less, most)) (columns_of es) columns_low

  starts_low : All (λ m. m ≤ 100000) (row_starts es 0 (length s.rows))
  starts_low = starts_small es 0 (length s.rows) fine.few

  -- the first list was read, and the second
  abbrev with_starts : (n t : ℕ) → ℤ → List ℕ → State
  with_starts n t w text = record s { place = places.Part parts.Coefficients; count = n; list = 1; lists = 1; declared = Some (length es); times = t; whole_step = w; text = text; starts = row_starts es 0 (length s.rows); values = [] }

  abbrev with_columns : (n t : ℕ) → ℤ → List ℕ → State
  with_columns n t w text = record s { place = places.Part parts.Coefficients; count = n; list = 2; lists = 2; declared = Some (length es); times = t; whole_step = w; text = text; by_columns = false; starts = row_starts es 0 (length s.rows); indices = columns_of es; values = [] }

  module _ (values : Nodes) (writes : WriteValues es values) (k : List Event) (p : Parts) (behind : (n l t : ℕ) (b : Bool) (w : ℤ) (d : Frac) (text : List ℕ) → Reads (behind_matrix s n l t b w d text es) (spread k) p) where
    abbrev third : List Event
    third = Open (codes "value") [] ∷ nodes_events (local_nodes values) (Close (codes "value") ∷ Close (codes "linearConstraintCoefficients") ∷ k)

    read_third : (n t : ℕ) (w : ℤ) (text : List ℕ) → Reads (with_columns n t w text) (spread third) p
    read_third n t w text =
        let base : State = record (with_columns n t w text) { list = 3; lists = 3 } in
        read_one (with_columns n t w text) (in_values base (n + 1) t s.step text []) (Start (codes "value") []) (spread (nodes_events (local_nodes values) (Close (codes "value") ∷ Close (codes "linearConstraintCoefficients") ∷ k))) p
        ((λ late. absurd (omega (arith, late)), tt), refl)
        (read_values base (Close (codes "value") ∷ Close (codes "linearConstraintCoefficients") ∷ k) p es values fine.decimals writes (n + 1) t s.step text [] (let few = fine.few in omega (arith, few)) (λ n t d text.
        read_one (in_values base n t d text (values_of es)) (full n t w d text) (Finish (codes "value")) (last_mark ∷ spread k) p (tt, refl)
        (read_one (full n t w d text) (behind_matrix s n 3 t false w d text es) last_mark (spread k) p (full_ends n t w d text) (behind n 3 t false w d text))))

    abbrev second : List Event
    second = Open (codes "colIdx") [] ∷ nodes_events (local_nodes (counts_nodes (columns_of es))) (Close (codes "colIdx") ∷ third)

    read_second : (n t : ℕ) (w : ℤ) (text : List ℕ) → Reads (with_starts n t w text) (spread second) p
    read_second n t w text =
        let base : State = record (with_starts n t w text) { list = 2; lists = 2 } in
        let long = length-map es (λ (e : Entry). e.col) in
        read_one (with_starts n t w text) (in_list false base (n + 1) t w text []) (Start (codes "colIdx") []) (spread (nodes_events (local_nodes (counts_nodes (columns_of es))) (Close (codes "colIdx") ∷ third))) p
        ((λ late. absurd (omega (arith, late)), tt), refl)
        (read_counts false base (Close (codes "colIdx") ∷ third) p (columns_of es) columns_low columns_small (n + 1) t w text [] (let few = fine.few in omega (arith, few, long)) (λ n t w text.
        read_one (in_list false base n t w text (columns_of es)) (with_columns n t w text) (Finish (codes "colIdx")) (spread third) p (tt, refl) (read_third n t w text)))

    pub read_first : (n : ℕ) → Reads (at_matrix s n (length es)) (Start (codes "start") [] ∷ spread (nodes_events (local_nodes (counts_nodes (row_starts es 0 (length s.rows)))) (Close (codes "start") ∷ second))) p
    read_first n =
        let base : State = record s { list = 1; lists = 1; declared = Some (length es); values = [] } in
        let long = starts_long es 0 (length s.rows) in
        read_one (at_matrix s n (length es)) (in_list true base (n + 1) s.times s.whole_step s.text []) (Start (codes "start") []) (spread (nodes_events (local_nodes (counts_nodes (row_starts es 0 (length s.rows)))) (Close (codes "start") ∷ second))) p
        ((λ late. absurd (omega (arith, late)), tt), refl)
        (read_counts true base (Close (codes "start") ∷ second) p (row_starts es 0 (length s.rows)) (All-weaker (λ (m : ℕ). m ≤ 100000) (λ (m : ℕ). m < 100001) (λ m less. omega (arith, less)) (row_starts es 0 (length s.rows)) starts_low) starts_low (n + 1) s.times s.whole_step s.text [] (let low = fine.low in omega (arith, low, long)) (λ n t w text.
        read_one (in_list true base n t w text (row_starts es 0 (length s.rows))) (with_starts n t w text) (Finish (codes "start")) (spread second) p (tt, refl) (read_second n t w text)))

-- the matrix, with lists or without
pub read_matrix : (s : State) (es : List Entry) (nodes : Nodes) (k : List Event) (p : Parts) → AreFine (length s.vars) (length s.rows) es → WriteLists (length s.rows) es nodes → ((n l t : ℕ) (b : Bool) (w : ℤ) (d : Frac) (text : List ℕ) → Reads (behind_matrix s n l t b w d text es) (spread k) p) → (n : ℕ) → Reads (at_matrix s n (length es)) (spread (nodes_events (local_nodes nodes) (Close (codes "linearConstraintCoefficients") ∷ k))) p
read_matrix s [] nodes k p fine is behind n =
    subst (λ (l : Nodes). Reads (at_matrix s n 0) (spread (nodes_events (local_nodes l) (Close (codes "linearConstraintCoefficients") ∷ k))) p) (sym is)
    (read_one (at_matrix s n 0) (behind_matrix s n 0 s.times s.by_columns s.whole_step s.step s.text []) last_mark (spread k) p
    ((λ h. let some = h.0 in absurd (omega (arith, some)), (λ h. let some = h.some in absurd (omega (arith, some)), (λ other. other refl, (λ h. let some = h.0 in absurd (omega (arith, some)), (λ h. let some = h.0 in absurd (omega (arith, some)), tt))))), ([], inl (refl, refl), refl))
    (behind n 0 s.times s.by_columns s.whole_step s.step s.text))
read_matrix s (e ∷ es) nodes k p fine is behind n =
    subst (λ (l : Nodes). Reads (at_matrix s n (length (e ∷ es))) (spread (nodes_events (local_nodes l) (Close (codes "linearConstraintCoefficients") ∷ k))) p) (sym is.2)
    (read_first s (e ∷ es) fine is.0 is.1 k p behind n)
