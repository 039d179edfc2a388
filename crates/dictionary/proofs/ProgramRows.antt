-- The rows of a program's entries and of its costs.
use Rattle.std.proofs.Common.{◌≡◌, ℕ, zero, suc, ◌+◌, ◌-◌, ◌<◌, ◌≤◌, inl, inr, ℤ, pos, negsuc, Bool, cond, nat_eq, ◌&&◌, List, [], ◌∷◌, ◌++◌, length, get_or, take, arith, refl, sym, ◌∙◌, ap, ap₂, subst}
use Rattle.std.specs.List.{All}
use Rattle.std.proofs.lemmas.List.{take_more}
use Rattle.std.proofs.lemmas.Bool.{eq-eqb, ne_eqb, lt-ltb, le-ltb}
use Rattle.rational.specs.Ratio.{Ratio}
use Rattle.fraction.specs.Frac.{ratio, ratios}
use Rattle.fraction.specs.declared.frac.Frac.{Frac}
use Rattle.fraction.specs.declared.ends.Entry.{Entry}
use Rattle.evidence.specs.Sums.{none}
use Rattle.evidence.specs.Instance.{entry_at}
use Rattle.evidence.specs.Point.{value_at}
use Rattle.evidence.proofs.Columns.{by_eq, by_lt}
use Rattle.instance.specs.Parts.{IsBefore, IsAscending, IsInside}
use Rattle.instance.specs.Program.{entries}
use Rattle.dictionary.specs.ProgramRows.{times_sign, program_rows, RowBeginsAt}

before_trans : (e f h : Entry) → IsBefore e f → IsBefore f h → IsBefore e h
before_trans e f h (inl a) (inl b) = inl (omega arith)
before_trans e f h (inl a) (inr b) = inl (let c = b.0 in omega arith)
before_trans e f h (inr a) (inl b) = inl (let c = a.0 in omega arith)
before_trans e f h (inr a) (inr b) = inr (a.0 ∙ b.0, let c = a.1 in let d = b.1 in omega arith)

-- an earlier entry comes before a later one
before_at : (es : List Entry) → IsAscending es → (d : Entry) → (j m : ℕ) → j + suc m < length es → IsBefore (get_or es j d) (get_or es (j + suc m) d)
before_at es asc d j zero l = subst (λ k. IsBefore (get_or es j d) (get_or es k d)) (let e : j + 1 ≡ j + suc zero = omega arith in e) (asc j d (omega arith))
before_at es asc d j (suc m) l =
    before_trans (get_or es j d) (get_or es (j + suc m) d) (get_or es (j + suc (suc m)) d) (before_at es asc d j m (omega arith))
    (subst (λ k. IsBefore (get_or es (j + suc m) d) (get_or es k d)) (let e : j + suc m + 1 ≡ j + suc (suc m) = omega arith in e) (asc (j + suc m) d (omega arith)))

pub is_before : (es : List Entry) → IsAscending es → (d : Entry) → (j k : ℕ) → j < k → k < length es → IsBefore (get_or es j d) (get_or es k d)
is_before es asc d j k l h =
    let e : j + suc (k - suc j) ≡ k = omega arith in
    subst (λ i. IsBefore (get_or es j d) (get_or es i d)) e (before_at es asc d j (k - suc j) (omega arith))

-- an entry at another place says nothing
missed : (x : Entry) (xs : List Entry) (r c : ℕ) → (x.row ≡ r → x.col ≡ c → ⊥) → entry_at (entries (x ∷ xs)) r c ≡ entry_at (entries xs) r c
missed x xs r c d = by_eq x.row r
    (λ e. ap₂ (λ (a b : Bool). cond (a && b) (ratio x.value) (entry_at (entries xs) r c)) (eq-eqb x.row r e) (ne_eqb x.col c (d e)))
    (λ n. ap (λ (a : Bool). cond (a && nat_eq x.col c) (ratio x.value) (entry_at (entries xs) r c)) (ne_eqb x.row r n))

hit : (x : Entry) (xs : List Entry) → entry_at (entries (x ∷ xs)) x.row x.col ≡ ratio x.value
hit x xs = ap₂ (λ (a b : Bool). cond (a && b) (ratio x.value) (entry_at (entries xs) x.row x.col)) (eq-eqb x.row x.row refl) (eq-eqb x.col x.col refl)

pub none_at : (xs : List Entry) (r c : ℕ) → ((j : ℕ) (d : Entry) → j < length xs → (get_or xs j d).row ≡ r → (get_or xs j d).col ≡ c → ⊥) → entry_at (entries xs) r c ≡ none
none_at [] r c h = refl
none_at (x ∷ xs) r c h = missed x xs r c (λ e f. h 0 x (omega arith) e f) ∙ none_at xs r c (λ j d l e f. h (suc j) d (omega arith) e f)

-- one entry more
more_own : (xs : List Entry) (x : Entry) → entry_at (entries xs) x.row x.col ≡ none → ((j : ℕ) (d : Entry) → j < length xs → (get_or xs j d).row ≡ x.row → (get_or xs j d).col ≡ x.col → ⊥) → entry_at (entries (xs ++ x ∷ [])) x.row x.col ≡ ratio x.value
more_own [] x z h = hit x []
more_own (y ∷ ys) x z h = missed y (ys ++ x ∷ []) x.row x.col (λ e f. h 0 y (omega arith) e f) ∙ more_own ys x (sym (missed y ys x.row x.col (λ e f. h 0 y (omega arith) e f)) ∙ z) (λ j d l e f. h (suc j) d (omega arith) e f)

more_other : (xs : List Entry) (x : Entry) (r c : ℕ) → (x.row ≡ r → x.col ≡ c → ⊥) → entry_at (entries (xs ++ x ∷ [])) r c ≡ entry_at (entries xs) r c
more_other [] x r c d = missed x [] r c d
more_other (y ∷ ys) x r c d = ap (λ (v : Ratio). cond (nat_eq y.row r && nat_eq y.col c) (ratio y.value) v) (more_other ys x r c d)

-- the first entries
take_below : (n : ℕ) (xs : List Entry) (j : ℕ) → j < length (take n xs) → j < n
take_below zero xs j l = absurd (omega arith)
take_below (suc n) [] j l = absurd (omega arith)
take_below (suc n) (x ∷ xs) zero l = omega arith
take_below (suc n) (x ∷ xs) (suc j) l = let r = take_below n xs j (omega arith) in omega arith

taken_at : (n : ℕ) (xs : List Entry) (j : ℕ) (d : Entry) → j < n → get_or (take n xs) j d ≡ get_or xs j d
taken_at zero xs j d l = absurd (omega arith)
taken_at (suc n) [] j d l = refl
taken_at (suc n) (x ∷ xs) zero d l = refl
taken_at (suc n) (x ∷ xs) (suc j) d l = taken_at n xs j d (omega arith)

-- those before a row's say nothing of it
pub begun_none : (es : List Entry) (r start : ℕ) → RowBeginsAt es r start → (c : ℕ) → entry_at (entries (take start es)) r c ≡ none
begun_none es r start b c = none_at (take start es) r c (λ j d l e f.
    let h = b.before j d (take_below start es j l) in
    let g = ap (λ (y : Entry). y.row) (taken_at start es j d (take_below start es j l)) in
    omega arith)

-- what the first k entries say, and one more
module _ (es : List Entry) (asc : IsAscending es) (k : ℕ) (e : Entry) (h : k < length es) (is : e ≡ get_or es k e) where
  grown : take (k + 1) es ≡ take k es ++ e ∷ []
  grown = take_more es k e h ∙ ap (λ (y : Entry). take k es ++ y ∷ []) (sym is)

  pub next_own : entry_at (entries (take (k + 1) es)) e.row e.col ≡ ratio e.value
  next_own = ap (λ (xs : List Entry). entry_at (entries xs) e.row e.col) grown ∙ more_own (take k es) e (none_at (take k es) e.row e.col apart) apart
    where
      order : (a : Entry) → IsBefore a e → a.row ≡ e.row → a.col ≡ e.col → ⊥
      order a (inl b) r c = omega arith
      order a (inr b) r c = let g = b.1 in omega arith

      reads : (xs : List Entry) (n : ℕ) (y d : Entry) → n < length xs → y ≡ get_or xs n y → get_or xs n d ≡ y
      reads [] n y d l q = absurd (omega arith)
      reads (x ∷ xs) zero y d l q = sym q
      reads (x ∷ xs) (suc n) y d l q = reads xs n y d (omega arith) q

      apart : (j : ℕ) (d : Entry) → j < length (take k es) → (get_or (take k es) j d).row ≡ e.row → (get_or (take k es) j d).col ≡ e.col → ⊥
      apart j d l r c =
          let in_take : j < k = take_below k es j l in
          let same = taken_at k es j d in_take in
          order (get_or es j d) (subst (λ (y : Entry). IsBefore (get_or es j d) y) (reads es k e d h is) (is_before es asc d j k in_take h)) (sym (ap (λ (y : Entry). y.row) same) ∙ r) (sym (ap (λ (y : Entry). y.col) same) ∙ c)

  pub next_other : (r c : ℕ) → (e.row ≡ r → e.col ≡ c → ⊥) → entry_at (entries (take (k + 1) es)) r c ≡ entry_at (entries (take k es)) r c
  next_other r c d = ap (λ (xs : List Entry). entry_at (entries xs) r c) grown ∙ more_other (take k es) e r c d

-- nothing is said of a row from a place on where later rows begin
pub rest_none : (es : List Entry) (k r c : ℕ) → ((j : ℕ) (d : Entry) → k ≤ j → j < length es → (get_or es j d).row ≡ r → ⊥) → entry_at (entries es) r c ≡ entry_at (entries (take k es)) r c
rest_none [] k r c h = by_nil k
  where
    by_nil : (n : ℕ) → entry_at (entries []) r c ≡ entry_at (entries (take n [])) r c
    by_nil zero = refl
    by_nil (suc n) = refl
rest_none (x ∷ xs) zero r c h = none_at (x ∷ xs) r c (λ j d l e f. h j d (omega arith) l e)
rest_none (x ∷ xs) (suc k) r c h = ap (λ (v : Ratio). cond (nat_eq x.row r && nat_eq x.col c) (ratio x.value) v) (rest_none xs k r c (λ j d a l e. h (suc j) d (omega arith) (omega arith) e))

-- a row's entries end where another row's begin
module _ (es : List Entry) (asc : IsAscending es) (r start k : ℕ) (b : RowBeginsAt es r start) (low : start ≤ k) (high : k ≤ length es) (before : (j : ℕ) (d : Entry) → j < k → (get_or es j d).row ≤ r) (stops : (d : Entry) → k < length es → (get_or es k d).row ≡ r → ⊥) where
  later_rows : (j : ℕ) (d : Entry) → k ≤ j → j < length es → r + 1 ≤ (get_or es j d).row
  later_rows j d l h =
      let here : r + 1 ≤ (get_or es k d).row = let a = b.after k d low (omega arith) in let s = stops d (omega arith) in by_lt r (get_or es k d).row (λ i. omega arith) (λ i. absurd (s (omega arith))) in
      by_eq k j (λ e. subst (λ i. r + 1 ≤ (get_or es i d).row) e here) (λ n. let t = least_row (get_or es k d) (get_or es j d) (is_before es asc d k j (omega arith) h) in omega arith)
    where
      least_row : (x y : Entry) → IsBefore x y → x.row ≤ y.row
      least_row x y (inl a) = omega arith
      least_row x y (inr a) = let e = a.0 in omega arith

  pub begins_next : RowBeginsAt es (r + 1) k
  begins_next = record { within = high; before = λ j d l. let h = before j d l in omega arith; after = later_rows }

  pub nothing_later : (c : ℕ) → entry_at (entries es) r c ≡ entry_at (entries (take k es)) r c
  nothing_later c = rest_none es k r c (λ j d l h e. let g = later_rows j d l h in omega arith)

-- costs
times_none : (factor : ℤ) → times_sign factor none ≡ none
times_none (pos zero) = refl
times_none (pos (suc n)) = refl
times_none (negsuc n) = refl

past_costs : (costs : List Frac) (c : ℕ) → length costs ≤ c → value_at (ratios costs) c ≡ none
past_costs [] c h = refl
past_costs (x ∷ xs) zero h = absurd (omega arith)
past_costs (x ∷ xs) (suc c) h = past_costs xs c (omega arith)

pub times_past : (costs : List Frac) (factor : ℤ) (c : ℕ) → length costs ≤ c → times_sign factor (value_at (ratios costs) c) ≡ none
times_past costs factor c h = ap (times_sign factor) (past_costs costs c h) ∙ times_none factor

-- no entry stands past the last variable
pub entries_past : (es : List Entry) (m n : ℕ) → All (IsInside m n) es → (r c : ℕ) → n ≤ c → entry_at (entries es) r c ≡ none
entries_past es m n inside r c l = none_at es r c (λ j d i e f. let k = inside j d i in let a = k.col in omega arith)

pub program_past : (es : List Entry) (costs : List Frac) (factor : ℤ) (m : ℕ) → All (IsInside m (length costs)) es → (r c : ℕ) → length costs ≤ c → program_rows es costs factor m r c ≡ none
program_past es costs factor m inside r c l = by_lt r m
    (λ h. ap (λ (b : Bool). cond b (entry_at (entries es) r c) (times_sign factor (value_at (ratios costs) c))) (lt-ltb r m h) ∙ entries_past es m (length costs) inside r c l)
    (λ h. ap (λ (b : Bool). cond b (entry_at (entries es) r c) (times_sign factor (value_at (ratios costs) c))) (le-ltb r m h) ∙ times_past costs factor c l)
