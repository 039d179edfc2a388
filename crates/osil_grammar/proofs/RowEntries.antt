-- Entries that ascend, row by row, and what their places say.
use Rattle.osil_grammar.proofs.Words.{◌≡◌, ◌∙◌, ℕ, zero, suc, ◌+◌, ◌-◌, ◌<◌, ◌≤◌, Bool, true, false, nat_lt, cond, List, [], ◌∷◌, ◌++◌, length, map, drop, replicate, ap, refl, sym, subst, arith, inl, inr, pos, unsigned_abs, ◌-ℤ◌, All, ints, ltb-true, ltb-false, le-ltb, lt-ltb, drop_all, All-head, All-tail, All-weaker, Ratio, IsSame, sum, none-sum, ratio, Entry, IsBefore, IsAscending, IsRising, entry, entries, lines_from, placed_all, place_sum, entries_below, row_starts}
use Rattle.evidence.specs.Sums as evidence
use Rattle.evidence.specs.Instance as Of
use Rattle.osil_grammar.proofs.EntryOrder.{all_from_indices, rise_from, rising_behind}
use Rattle.osil_grammar.proofs.Places.{is_at, behind}
use Rattle.osil_grammar.proofs.Starts.{none_below}

-- each entry is before all those behind it
abbrev pub Rises : List Entry → Type 0
Rises [] = Unit {0}
Rises (e ∷ es) = All (λ x. IsBefore e x) es × Rises es

rises_all : (es : List Entry) → IsRising es → Rises es
rises_all [] up = tt
rises_all (e ∷ es) up = (rise_from e es up, rises_all es (rising_behind e es up))

pub rises : (es : List Entry) → IsAscending es → Rises es
rises es up = rises_all es (all_from_indices IsBefore es up)

row_up : (i : ℕ) (e x : Entry) → IsBefore e x → i ≤ e.row → i ≤ x.row
row_up i e x (inl p) less = omega (arith, p, less)
row_up i e x (inr p) less = let same = p.0 in omega (arith, same, less)

-- none of those behind an entry stands in a row before it
none_later : (i : ℕ) (e : Entry) (es : List Entry) → All (λ x. IsBefore e x) es → i ≤ e.row → entries_below i es ≡ 0
none_later i e es later less = none_below i es (All-weaker (λ (x : Entry). IsBefore e x) (λ (x : Entry). nat_lt x.row i ≡ false) (λ x before. le-ltb x.row i (row_up i e x before less)) es later)

abbrev rows : List Entry → List ℕ
rows es = map (λ e. e.row) es

drop_past : (n : ℕ) (e : Entry) (es : List Entry) → drop (n + 1) (e ∷ es) ≡ drop n es
drop_past n e es = let same : n + 1 ≡ suc n = omega arith in ap (λ (k : ℕ). drop k (e ∷ es)) same

-- the rows from one place on are those of one row and those from the next place on
abbrev IsCut : List Entry → ℕ → ℕ → ℕ → Type 0
IsCut es j a b = rows (drop a es) ≡ replicate (b - a) j ++ rows (drop b es)

cut_past : (e : Entry) (es : List Entry) (j a b : ℕ) → IsCut es j a b → IsCut (e ∷ es) j (a + 1) (b + 1)
cut_past e es j a b cut =
    let n : b - a ≡ b + 1 - (a + 1) = omega arith in
    ap rows (drop_past a e es) ∙ cut ∙ ap (λ (k : ℕ). replicate k j ++ rows (drop b es)) n ∙ ap (λ (l : List Entry). replicate (b + 1 - (a + 1)) j ++ rows l) (sym (drop_past b e es))

cut_here : (e : Entry) (es : List Entry) (j a b : ℕ) → a ≡ 0 → e.row ≡ j → IsCut es j a b → IsCut (e ∷ es) j a (b + 1)
cut_here e es j a b start is cut =
    let first : rows es ≡ replicate (b - 0) j ++ rows (drop b es) = subst (λ (k : ℕ). IsCut es j k b) start cut in
    let n : suc (b - 0) ≡ b + 1 - 0 = omega arith in
    let whole : IsCut (e ∷ es) j 0 (b + 1) = ap (λ (l : List ℕ). e.row ∷ l) first ∙ ap (λ (r : ℕ). r ∷ (replicate (b - 0) j ++ rows (drop b es))) is ∙ ap (λ (k : ℕ). replicate k j ++ rows (drop b es)) n ∙ ap (λ (l : List Entry). replicate (b + 1 - 0) j ++ rows l) (sym (drop_past b e es)) in
    subst (λ (k : ℕ). IsCut (e ∷ es) j k (b + 1)) (sym start) whole

cut_later : (e : Entry) (es : List Entry) (j a b : ℕ) → a ≡ 0 → b ≡ 0 → IsCut (e ∷ es) j a b
cut_later e es j a b start end = subst (λ (k : ℕ). IsCut (e ∷ es) j k b) (sym start) (subst (λ (k : ℕ). IsCut (e ∷ es) j 0 k) (sym end) refl)

cut_by : (e : Entry) (es : List Entry) (j a b : ℕ) (p q : Bool) → p ≡ nat_lt e.row j → q ≡ nat_lt e.row (j + 1) → (j ≤ e.row → a ≡ 0) → (j + 1 ≤ e.row → b ≡ 0) → IsCut es j a b → IsCut (e ∷ es) j (cond p (a + 1) a) (cond q (b + 1) b)
cut_by e es j a b true true low high start end cut = cut_past e es j a b cut
cut_by e es j a b true false low high start end cut = let l = ltb-true e.row j (sym low) in let h = ltb-false e.row (j + 1) (sym high) in absurd (omega (arith, l, h))
cut_by e es j a b false true low high start end cut = let l = ltb-false e.row j (sym low) in let h = ltb-true e.row (j + 1) (sym high) in cut_here e es j a b (start l) (omega (arith, l, h)) cut
cut_by e es j a b false false low high start end cut = let h = ltb-false e.row (j + 1) (sym high) in cut_later e es j a b (start (omega (arith, h))) (end h)

cut_at : (es : List Entry) (j : ℕ) → Rises es → IsCut es j (entries_below j es) (entries_below (j + 1) es)
cut_at [] j up = refl
cut_at (e ∷ es) j up = cut_by e es j (entries_below j es) (entries_below (j + 1) es) (nat_lt e.row j) (nat_lt e.row (j + 1)) refl refl (none_later j e es up.0) (none_later (j + 1) e es up.0) (cut_at es j up.1)

-- and no more entries stand before a row than before the next
below_by : (e : Entry) (j a b : ℕ) (p q : Bool) → p ≡ nat_lt e.row j → q ≡ nat_lt e.row (j + 1) → a ≤ b → cond p (a + 1) a ≤ cond q (b + 1) b
below_by e j a b true false low high less = let l = ltb-true e.row j (sym low) in let h = ltb-false e.row (j + 1) (sym high) in absurd (omega (arith, l, h))
below_by e j a b true true low high less = omega (arith, less)
below_by e j a b false true low high less = omega (arith, less)
below_by e j a b false false low high less = less

pub below_rises : (es : List Entry) (j : ℕ) → entries_below j es ≤ entries_below (j + 1) es
below_rises [] j = omega arith
below_rises (e ∷ es) j = below_by e j (entries_below j es) (entries_below (j + 1) es) (nat_lt e.row j) (nat_lt e.row (j + 1)) refl refl (below_rises es j)

-- all entries stand before a row past the last
pub all_before : (j : ℕ) (es : List Entry) → All (λ e. e.row < j) es → entries_below j es ≡ length es
all_before j [] inside = refl
all_before j (e ∷ es) inside =
    let here = lt-ltb e.row j (All-head (λ (x : Entry). x.row < j) e es inside) in
    let rest = all_before j es (All-tail (λ (x : Entry). x.row < j) e es inside) in
    rw here (omega (arith, rest))

-- no entry stands before the first row
pub none_first : (es : List Entry) → entries_below 0 es ≡ 0
none_first [] = refl
none_first (e ∷ es) = let none : nat_lt e.row 0 ≡ false = le-ltb e.row 0 (omega arith) in rw none (none_first es)

-- the starts from row i on begin with the one of row i
abbrev later_starts : List Entry → ℕ → ℕ → List ℕ
later_starts es i zero = []
later_starts es i (suc n) = row_starts es (i + 1) n

starts_begin : (es : List Entry) (i n : ℕ) → row_starts es i n ≡ entries_below i es ∷ later_starts es i n
starts_begin es i zero = refl
starts_begin es i (suc n) = refl

gap : (a b : ℕ) → a ≤ b → unsigned_abs (pos b -ℤ pos a) ≡ b - a
gap a b less = omega (arith, ints, less)

pub lines_are : (es : List Entry) (j n : ℕ) → Rises es → All (λ e. e.row < j + n) es → lines_from j (map pos (row_starts es j n)) ≡ rows (drop (entries_below j es) es)
lines_are es j zero up inside =
    let same : j + 0 ≡ j = omega arith in
    let whole = all_before j es (subst (λ (k : ℕ). All (λ e. e.row < k) es) same inside) in
    let over : length es ≤ entries_below j es = omega (arith, whole) in
    sym (ap rows (drop_all (entries_below j es) es over))
lines_are es j (suc n) up inside =
    let a = entries_below j es in
    let b = entries_below (j + 1) es in
    let same : j + suc n ≡ j + 1 + n = omega arith in
    let rest = lines_are es (j + 1) n up (subst (λ (k : ℕ). All (λ e. e.row < k) es) same inside) in
    let begin = starts_begin es (j + 1) n in
    let tail : List ℕ = later_starts es (j + 1) n in
    ap (λ (l : List ℕ). lines_from j (pos a ∷ map pos l)) begin
    ∙ ap (λ (k : ℕ). replicate k j ++ lines_from (j + 1) (pos b ∷ map pos tail)) (gap a b (below_rises es j))
    ∙ ap (λ (l : List ℕ). replicate (b - a) j ++ lines_from (j + 1) (map pos l)) (sym begin)
    ∙ ap (λ (l : List ℕ). replicate (b - a) j ++ l) rest
    ∙ sym (cut_at es j up)

-- values with the places of entries are the entries
pub placed_are : (es : List Entry) → placed_all false (rows es) (map (λ e. pos e.col) es) (map (λ e. ratio e.value) es) ≡ entries es
placed_are [] = refl
placed_are (e ∷ es) = ap (λ (l : List Of.Entry). record { row = e.row; variable = e.col; value = ratio e.value } ∷ l) (placed_are es)

none_here : (start : Ratio) (es : List Entry) (i j : ℕ) → All (λ e. is_at i j (entry e) ≡ false) es → place_sum start (entries es) i j ≡ start
none_here start [] i j none = refl
none_here start (e ∷ es) i j none =
    let here = All-head (λ (x : Entry). is_at i j (entry x) ≡ false) e es none in
    rw here (none_here start es i j (All-tail (λ (x : Entry). is_at i j (entry x) ≡ false) e es none))

sums_by : (e : Entry) (es : List Entry) (i j : ℕ) (b : Bool) → b ≡ is_at i j (entry e) → All (λ x. IsBefore e x) es → IsSame (Of.entry_at (entries es) i j) (place_sum evidence.none (entries es) i j) → IsSame (cond b (ratio e.value) (Of.entry_at (entries es) i j)) (cond b (place_sum (sum evidence.none (ratio e.value)) (entries es) i j) (place_sum evidence.none (entries es) i j))
sums_by e es i j false is later rest = rest
sums_by e es i j true is later rest =
    let nowhere : All (λ (x : Entry). is_at i j (entry x) ≡ false) es = All-weaker (λ (x : Entry). IsBefore e x) (λ (x : Entry). is_at i j (entry x) ≡ false) (λ x before. behind i j e x (sym is) before) es later in
    subst (λ (y : Ratio). IsSame (ratio e.value) y) (sym (none_here (sum evidence.none (ratio e.value)) es i j nowhere ∙ none-sum (ratio e.value))) refl

pub sums_are : (es : List Entry) (i j : ℕ) → Rises es → IsSame (Of.entry_at (entries es) i j) (place_sum evidence.none (entries es) i j)
sums_are [] i j up = refl
sums_are (e ∷ es) i j up = sums_by e es i j (is_at i j (entry e)) refl up.0 (sums_are es i j up.1)
