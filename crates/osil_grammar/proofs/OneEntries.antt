-- The entries of a matrix are said in one way.
use Rattle.osil_grammar.proofs.Words.{◌≡◌, ◌∙◌, ℕ, inl, inr, ⊎_elim, Bool, true, false, cond, nat_eq, ℤ, pos, List, [], ◌∷◌, map, refl, ap, sym, subst, lit<, unsigned_abs, ◌&&◌, All, cases_Bool, All-nil, All-cons, All-head, All-tail, All-map, All-weaker, Ratio, IsNumber, IsSame, sum, IsSame-trans, sum-number, Frac, Entry, ratio, same_fraction, IsBefore, entry, entries, lines_from, placed, placed_all, stored, place_sum, AreEntriesOf, State, lists_so_far, IsMatrixOf, ratios}
use Rattle.evidence.specs.Sums as evidence
use Rattle.evidence.specs.Instance as Of
use Rattle.osil_grammar.proofs.EntryOrder.{before_trans, which_first}
use Rattle.osil_grammar.proofs.Places.{is_at, is_at-own, is_at-same, behind, zero_of, entry_at-nowhere, number_either}
use Rattle.osil_grammar.proofs.RowEntries.{Rises, rises}

-- entries that stand for the same numbers at all places
abbrev Alike : List Entry → List Entry → Type 0
Alike es fs = (i j : ℕ) → IsSame (Of.entry_at (entries es) i j) (Of.entry_at (entries fs) i j)

abbrev AreSome : List Entry → Type 0
AreSome es = All (λ e. e.value.numer ≡ pos 0 → ⊥) es

-- nothing stands at the place of one that is before all
nowhere : (e : Entry) (es : List Entry) → All (λ x. IsBefore e x) es → Of.entry_at (entries es) e.row e.col ≡ evidence.none
nowhere e es later = entry_at-nowhere (entries es) e.row e.col (All-map (λ (x : Of.Entry). is_at e.row e.col x ≡ false) entry es (All-weaker (λ (x : Entry). IsBefore e x) (λ (x : Entry). is_at e.row e.col (entry x) ≡ false) (λ x before. behind e.row e.col e x (is_at-own (entry e)) before) es later))

own : (e : Entry) (es : List Entry) → Of.entry_at (entries (e ∷ es)) e.row e.col ≡ ratio e.value
own e es = ap (λ (b : Bool). cond b (ratio e.value) (Of.entry_at (entries es) e.row e.col)) (is_at-own (entry e))

-- one that is before all others isn't said by them
missing : (e : Entry) (es fs : List Entry) → All (λ x. IsBefore e x) fs → (e.value.numer ≡ pos 0 → ⊥) → Alike (e ∷ es) fs → ⊥
missing e es fs later some alike =
    some (zero_of e.value (subst (λ (y : Ratio). IsSame (ratio e.value) y) (nowhere e fs later) (subst (λ (y : Ratio). IsSame y (Of.entry_at (entries fs) e.row e.col)) (own e es) (alike e.row e.col))))

turned : (es fs : List Entry) → Alike es fs → Alike fs es
turned es fs alike i j = sym (alike i j)

later_all : (e f : Entry) (fs : List Entry) → IsBefore e f → All (λ x. IsBefore f x) fs → All (λ x. IsBefore e x) (f ∷ fs)
later_all e f fs before later = All-cons (λ (x : Entry). IsBefore e x) f fs before (All-weaker (λ (x : Entry). IsBefore f x) (λ (x : Entry). IsBefore e x) (λ x behind. before_trans e f x before behind) fs later)

same_entry : (e f : Entry) → e.row ≡ f.row → e.col ≡ f.col → e.value ≡ f.value → e ≡ f
same_entry e f a b c =
    let row : e ≡ record { row = f.row; col = e.col; value = e.value } = ap (λ (n : ℕ). record { row = n; col = e.col; value = e.value }) a in
    let col : e ≡ record { row = f.row; col = f.col; value = e.value } = row ∙ ap (λ (n : ℕ). record { row = f.row; col = n; value = e.value }) b in
    col ∙ ap (λ (x : Frac). record { row = f.row; col = f.col; value = x }) c

-- two at one place have one value
first_same : (e f : Entry) (es fs : List Entry) → e.row ≡ f.row → e.col ≡ f.col → Alike (e ∷ es) (f ∷ fs) → e ≡ f
first_same e f es fs row col alike =
    let there : Of.entry_at (entries (f ∷ fs)) e.row e.col ≡ ratio f.value = ap (λ (n : ℕ). Of.entry_at (entries (f ∷ fs)) n e.col) row ∙ ap (λ (n : ℕ). Of.entry_at (entries (f ∷ fs)) f.row n) col ∙ own f fs in
    let same : IsSame (ratio e.value) (ratio f.value) = subst (λ (y : Ratio). IsSame (ratio e.value) y) there (subst (λ (y : Ratio). IsSame y (Of.entry_at (entries (f ∷ fs)) e.row e.col)) (own e es) (alike e.row e.col)) in
    same_entry e f row col (same_fraction e.value f.value same)

rest_alike : (e : Entry) (es fs : List Entry) → All (λ x. IsBefore e x) es → All (λ x. IsBefore e x) fs → Alike (e ∷ es) (e ∷ fs) → Alike es fs
rest_alike e es fs later behind alike i j =
    ⊎_elim
    (λ on.
    let at = is_at-same i j (entry e) on in
    let place : (l : List Entry) → All (λ x. IsBefore e x) l → Of.entry_at (entries l) i j ≡ evidence.none = λ l after. sym (ap (λ (n : ℕ). Of.entry_at (entries l) n e.col) at.0 ∙ ap (λ (n : ℕ). Of.entry_at (entries l) i n) at.1) ∙ nowhere e l after in
    subst (λ (y : Ratio). IsSame (Of.entry_at (entries es) i j) y) (sym (place fs behind)) (subst (λ (y : Ratio). IsSame y evidence.none) (sym (place es later)) refl))
    (λ off.
    let past : (l : List Entry) → Of.entry_at (entries (e ∷ l)) i j ≡ Of.entry_at (entries l) i j = λ l. ap (λ (b : Bool). cond b (ratio e.value) (Of.entry_at (entries l) i j)) off in
    subst (λ (y : Ratio). IsSame (Of.entry_at (entries es) i j) y) (past fs) (subst (λ (y : Ratio). IsSame y (Of.entry_at (entries (e ∷ fs)) i j)) (past es) (alike i j)))
    (cases_Bool (is_at i j (entry e)))

same_entries : (es fs : List Entry) → Rises es → Rises fs → AreSome es → AreSome fs → Alike es fs → es ≡ fs
same_entries [] [] up rise some others alike = refl
same_entries (e ∷ es) [] up rise some others alike = absurd (missing e es [] (All-nil (λ (x : Entry). IsBefore e x)) (All-head (λ (x : Entry). x.value.numer ≡ pos 0 → ⊥) e es some) alike)
same_entries [] (f ∷ fs) up rise some others alike = absurd (missing f fs [] (All-nil (λ (x : Entry). IsBefore f x)) (All-head (λ (x : Entry). x.value.numer ≡ pos 0 → ⊥) f fs others) (turned [] (f ∷ fs) alike))
same_entries (e ∷ es) (f ∷ fs) up rise some others alike =
    ⊎_elim
    (λ before. absurd (missing e es (f ∷ fs) (later_all e f fs before rise.0) (All-head (λ (x : Entry). x.value.numer ≡ pos 0 → ⊥) e es some) alike))
    (λ w. ⊎_elim
    (λ behind. absurd (missing f fs (e ∷ es) (later_all f e es behind up.0) (All-head (λ (x : Entry). x.value.numer ≡ pos 0 → ⊥) f fs others) (turned (e ∷ es) (f ∷ fs) alike)))
    (λ same.
    let first : e ≡ f = first_same e f es fs same.0 same.1 alike in
    let back : All (λ (x : Entry). IsBefore e x) fs = subst (λ (y : Entry). All (λ (x : Entry). IsBefore y x) fs) (sym first) rise.0 in
    let one : Alike (e ∷ es) (e ∷ fs) = subst (λ (y : Entry). Alike (e ∷ es) (y ∷ fs)) (sym first) alike in
    let rest = same_entries es fs up.1 rise.1 (All-tail (λ (x : Entry). x.value.numer ≡ pos 0 → ⊥) e es some) (All-tail (λ (x : Entry). x.value.numer ≡ pos 0 → ⊥) f fs others) (rest_alike e es fs up.0 back one) in
    ap (λ (x : Entry). x ∷ es) first ∙ ap (λ (l : List Entry). f ∷ l) rest)
    w)
    (which_first e f)

-- what is stored has numbers at all places
placed_value : (b : Bool) (line index : ℕ) (value : Ratio) → (placed b line index value).value ≡ value
placed_value true line index value = refl
placed_value false line index value = refl

place_number : (b : Bool) (lines : List ℕ) (indices : List ℤ) (values : List Ratio) (start : Ratio) (i j : ℕ) → IsNumber start → All IsNumber values → IsNumber (place_sum start (placed_all b lines indices values) i j)
place_number b (l ∷ lines) (n ∷ indices) (v ∷ values) start i j number all =
    let e : Of.Entry = placed b l (unsigned_abs n) v in
    let rest = All-tail IsNumber v values all in
    let here : IsNumber e.value = subst IsNumber (sym (placed_value b l (unsigned_abs n) v)) (All-head IsNumber v values all) in
    number_either (nat_eq e.row i && nat_eq e.variable j) (place_sum (sum start e.value) (placed_all b lines indices values) i j) (place_sum start (placed_all b lines indices values) i j)
    (place_number b lines indices values (sum start e.value) i j (sum-number start e.value number here) rest) (place_number b lines indices values start i j number rest)
place_number b lines indices values start i j number all = number

fracs_numbers : (xs : List Frac) → All IsNumber (ratios xs)
fracs_numbers [] = All-nil IsNumber
fracs_numbers (x ∷ xs) = All-cons IsNumber (ratio x) (ratios xs) x.above (fracs_numbers xs)

entries_once : (l : List Of.Entry) (es fs : List Entry) → ((i j : ℕ) → IsNumber (place_sum evidence.none l i j)) → AreEntriesOf l es → AreEntriesOf l fs → es ≡ fs
entries_once l es fs number a b =
    same_entries es fs (rises es a.ascending) (rises fs b.ascending) a.nonzero b.nonzero
    (λ i j. IsSame-trans (Of.entry_at (entries es) i j) (place_sum evidence.none l i j) (Of.entry_at (entries fs) i j) (number i j) (a.sums i j) (sym (b.sums i j)))

pub matrix_once : (s : State) (es fs : List Entry) → IsMatrixOf s es → IsMatrixOf s fs → es ≡ fs
matrix_once s es fs (inl a) (inl b) = a.1 ∙ sym b.1
matrix_once s es fs (inl a) (inr b) = absurd (b.0 a.0)
matrix_once s es fs (inr a) (inl b) = absurd (a.0 b.0)
matrix_once s es fs (inr a) (inr b) = entries_once (stored (lists_so_far s)) es fs (λ i j. place_number s.by_columns (lines_from 0 (map pos s.starts)) (map pos s.indices) (ratios s.values) evidence.none i j (lit< tt) (fracs_numbers s.values)) a.1 b.1
