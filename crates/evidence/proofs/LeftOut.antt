-- Multipliers whose variables are left out are completed to the same ones.
use Rattle.std.proofs.Common.{◌≡◌, ◌⊎◌, inl, inr, ℕ, zero, suc, ◌+◌, ◌*◌, ◌<◌, ◌≤◌, ℤ, pos, negsuc, ◌*ℤ◌, neg_ℤ, true, false, cond, nat_eq, IsSome, List, [], ◌∷◌, length, arith, refl, sym, ◌∙◌, ap, subst}
use Rattle.std.specs.List.{All}
use Rattle.std.proofs.Math.Nat.{mul-pos}
use Rattle.std.proofs.Math.IntN.{zero-*ℤ}
use Rattle.rational.proofs.Integers.{neg-times}
use Rattle.std.proofs.lemmas.Int.{ints}
use Rattle.std.proofs.lemmas.Bool.{lt-ltb, le-ltb, eq-eqb, ne_eqb}
use Rattle.std.proofs.lemmas.List.Elements.{All-head, All-tail, All-cons, All-nil}
use Rattle.rational.specs.Ratio.{Ratio, whole, sum, product, negative, inverse, quotient, IsSame, IsNumber}
use Rattle.evidence.specs.Sums.{none}
use Rattle.evidence.specs.Instance.{Range, Instance, IsInstance, width, height, coefficient_at, column_at, minimising}
use Rattle.evidence.specs.Cases.{Multiplier, multiplier_at, end_by, end_of, or_none, form, low_sum, left_at, is_zero, put_before, filled, completed, no_costs, goal_costs, rows_from, rows_of, AreOfRows, AreLegal, IsFarkas, IsBound, IsGrid}
use Rattle.evidence.proofs.Numbers.{◌≈◌, ◌≲◌, ◌⋖◌, ≈-refl, ≈-from, ≈-sym, ◌⊙◌, ◌▹◌, ≲-from, ≲-trans, ⋖-≲, sum-≈, product-≈, times_none, product-one, product_swap, none-sum, sum-none, sum_assoc}
use Rattle.evidence.proofs.Columns.{by_lt, by_eq, by_bool, none-number, All-anywhere, coefficient-number, column-numbers}
use Rattle.evidence.proofs.Duality.{minimising-number}
use Rattle.evidence.proofs.UniqueRows.{end_by-number}
use Rattle.evidence.proofs.Inverses.{sum-negative, inverse-number}
use Rattle.evidence.proofs.WholeSums.{same_ceiling}
use Rattle.evidence.proofs.Grids.{above-some}
use Rattle.evidence.proofs.Completed.{total_head, form_cons, form-of_numbers, completed_farkas, completed_costs, costs-number}

-- columns ascend from a number on
abbrev Ascends : ℕ → List Multiplier → Type 0
Ascends low [] = Unit {0}
Ascends low (m ∷ ms) = (low ≤ m.column) × Ascends (suc m.column) ms

ascends : (ms : List Multiplier) (low : ℕ) → ((k : ℕ) → k + 1 < length ms → (multiplier_at ms k).column < (multiplier_at ms (k + 1)).column) → (0 < length ms → low ≤ (multiplier_at ms 0).column) → Ascends low ms
ascends [] low a h = tt
ascends (m ∷ ms) low a h =
    (h (omega arith), ascends ms (suc m.column) (λ k l. let b : (multiplier_at (m ∷ ms) (suc k)).column < (multiplier_at (m ∷ ms) (suc k + 1)).column = a (suc k) (omega arith) in after ms k b) (λ l. let b : m.column < (multiplier_at (m ∷ ms) (0 + 1)).column = a 0 (omega arith) in first ms b))
  where
    after : (ms : List Multiplier) (k : ℕ) → (multiplier_at (m ∷ ms) (suc k)).column < (multiplier_at (m ∷ ms) (suc k + 1)).column → (multiplier_at ms k).column < (multiplier_at ms (k + 1)).column
    after ms k b = let e : suc k + 1 ≡ suc (k + 1) = omega arith in subst (λ i. (multiplier_at ms k).column < (multiplier_at (m ∷ ms) i).column) e b

    first : (ms : List Multiplier) → m.column < (multiplier_at (m ∷ ms) (0 + 1)).column → suc m.column ≤ (multiplier_at ms 0).column
    first ms b = omega arith

lower : (ms : List Multiplier) (a b : ℕ) → a ≤ b → Ascends b ms → Ascends a ms
lower [] a b h p = tt
lower (m ∷ ms) a b h p = let q = p.0 in (omega arith, p.1)

-- the multiplier of variable n, or 0
abbrev own_at : List Multiplier → ℕ → Ratio
own_at [] n = none
own_at (m ∷ ms) n = cond (nat_eq m.column n) m.by (own_at ms n)

own_past : (ms : List Multiplier) (n : ℕ) → Ascends (suc n) ms → own_at ms n ≡ none
own_past [] n a = refl
own_past (m ∷ ms) n a = let p = a.0 in let d : m.column ≡ n → ⊥ = λ e. omega arith in rw (ne_eqb m.column n d) (own_past ms n (lower ms (suc n) (suc m.column) (omega arith) a.1))

rows_all : (ms : List Multiplier) (n : ℕ) → Ascends n ms → rows_from n ms ≡ ms
rows_all [] n a = refl
rows_all (m ∷ ms) n a = rw (le-ltb m.column n a.0) refl

rows_numbers : (P : Multiplier → Type 0) (n : ℕ) (ms : List Multiplier) → All P ms → All P (rows_from n ms)
rows_numbers P n [] p = p
rows_numbers P n (m ∷ ms) p =
    by_lt m.column n
    (λ h. rw (lt-ltb m.column n h) (rows_numbers P n ms (All-tail P m ms p)))
    (λ h. rw (le-ltb m.column n h) p)

-- at n, one multiplier less or none less
abbrev Next : List Multiplier → ℕ → Type 0
Next ms n = ((rows_from n ms ≡ rows_from (suc n) ms) × (own_at ms n ≡ none)) ⊎ ((m : Multiplier) × (rows_from n ms ≡ m ∷ rows_from (suc n) ms) × (m.column ≡ n) × (own_at ms n ≡ m.by))

next : (ms : List Multiplier) (low n : ℕ) → Ascends low ms → Next ms n
next [] low n a = inl (refl, refl)
next (m ∷ ms) low n a =
    by_lt m.column n
    (λ h. let e = lt-ltb m.column n h in let f = lt-ltb m.column (suc n) (omega arith) in let g = ne_eqb m.column n (λ e. omega arith) in rw (e, f, g) (next ms (suc m.column) n a.1))
    (λ h. by_lt n m.column
    (λ k. let e = le-ltb m.column n h in let f = le-ltb m.column (suc n) (omega arith) in let g = ne_eqb m.column n (λ e. omega arith) in
    inl (rw (e, f) refl, rw g (own_past ms n (lower ms (suc n) (suc m.column) (omega arith) a.1))))
    (λ k. let same : m.column ≡ n = omega arith in let e = le-ltb m.column n h in let f = lt-ltb m.column (suc n) (omega arith) in let g = eq-eqb m.column n same in
    inr (m, rw (e, f) (ap (λ rs. m ∷ rs) (sym (rows_all ms (suc n) (lower ms (suc n) (suc m.column) (omega arith) a.1)))), same, rw g refl)))

-- the same columns, with the same numbers
abbrev AreSame : List Multiplier → List Multiplier → Type 0
AreSame [] [] = Unit {0}
AreSame [] (n ∷ ns) = ⊥
AreSame (m ∷ ms) [] = ⊥
AreSame (m ∷ ms) (n ∷ ns) = (m.column ≡ n.column) × (m.by ≈ n.by) × AreSame ms ns

all_same : (ms : List Multiplier) → All (λ m. IsNumber m.by) ms → AreSame ms ms
all_same [] p = tt
all_same (m ∷ ms) p = (refl, ≈-refl (All-head (λ m. IsNumber m.by) m ms p), all_same ms (All-tail (λ m. IsNumber m.by) m ms p))

same_length : (ms ns : List Multiplier) → AreSame ms ns → length ms ≡ length ns
same_length [] [] s = refl
same_length [] (n ∷ ns) s = absurd s
same_length (m ∷ ms) [] s = absurd s
same_length (m ∷ ms) (n ∷ ns) s = ap suc (same_length ms ns s.2)

same_column : (ms ns : List Multiplier) → AreSame ms ns → (k : ℕ) → (multiplier_at ms k).column ≡ (multiplier_at ns k).column
same_column [] [] s k = refl
same_column [] (n ∷ ns) s k = absurd s
same_column (m ∷ ms) [] s k = absurd s
same_column (m ∷ ms) (n ∷ ns) s zero = s.0
same_column (m ∷ ms) (n ∷ ns) s (suc k) = same_column ms ns s.2 k

-- what holds of one list of the two holds of the other
same_all : (P : Multiplier → Type 0) → ((m n : Multiplier) → m.column ≡ n.column → m.by ≈ n.by → P n → P m) → (ms ns : List Multiplier) → AreSame ms ns → All P ns → All P ms
same_all P f [] [] s p = p
same_all P f [] (n ∷ ns) s p = absurd s
same_all P f (m ∷ ms) [] s p = absurd s
same_all P f (m ∷ ms) (n ∷ ns) s p = All-cons P m ms (f m n s.0 s.1 (All-head P n ns p)) (same_all P f ms ns s.2 (All-tail P n ns p))

mixed : (a b e d : ℕ) → 0 < d → pos a *ℤ pos e ≡ negsuc b *ℤ pos d → ⊥
mixed a b e d p h =
    let up : 0 < suc b * d = mul-pos (omega arith) p in
    let f : negsuc b *ℤ pos d ≡ neg_ℤ (pos (suc b * d)) = neg-times (pos (suc b)) (pos d) in
    apart (a * e) (suc b * d) up (h ∙ f)
  where
    apart : (m n : ℕ) → 0 < n → pos m ≡ neg_ℤ (pos n) → ⊥
    apart m n p e = omega (arith, ints)

-- the same number has the same side
pub same_end : (a b : ℤ) (d e : ℕ) (r : Range) → 0 < d → 0 < e → a *ℤ pos e ≡ b *ℤ pos d → end_by a r ≡ end_by b r
same_end (pos a) (pos b) d e r p q h = refl
same_end (negsuc a) (negsuc b) d e r p q h = refl
same_end (pos a) (negsuc b) d e r p q h = absurd (mixed a b e d p h)
same_end (negsuc a) (pos b) d e r p q h = absurd (mixed b a d e q (sym h))

same_end_of : (I : Instance) (m n : Multiplier) → m.column ≡ n.column → m.by ≈ n.by → end_of I m ≡ end_of I n
same_end_of I m n c e = let i = e.is in ap (λ k. end_by m.by.num (column_at I k)) c ∙ same_end m.by.num n.by.num m.by.den n.by.den (column_at I n.column) e.left e.right i

pub none_same : (x y : Ratio) → x ≈ y → x.num ≡ pos 0 → y.num ≡ pos 0
none_same x y e z =
    let i = e.is in
    let o : pos 0 *ℤ pos y.den ≡ y.num *ℤ pos x.den = ap (λ n. n *ℤ pos y.den) (sym z) ∙ i in
    let f : pos 0 *ℤ pos x.den ≡ y.num *ℤ pos x.den = zero-*ℤ (pos x.den) ∙ sym (zero-*ℤ (pos y.den)) ∙ o in
    sym (Rattle.rational.proofs.Scaling.same_multiple (pos 0) y.num x.den e.left f)

pub low_cons : (I : Instance) (s : Ratio) (m : Multiplier) (ms : List Multiplier) → low_sum I s (m ∷ ms) ≡ low_sum I (sum s (product m.by (or_none (end_of I m)))) ms
low_cons I s m ms = total_head s (length ms) (λ k. product (multiplier_at (m ∷ ms) k).by (or_none (end_of I (multiplier_at (m ∷ ms) k))))

module _ (I : Instance) (good : IsInstance I) where
  same_low : (ms ns : List Multiplier) (s t : Ratio) → s ≈ t → AreSame ms ns → low_sum I s ms ≈ low_sum I t ns
  same_low [] [] s t e p = e
  same_low [] (n ∷ ns) s t e p = absurd p
  same_low (m ∷ ms) [] s t e p = absurd p
  same_low (m ∷ ms) (n ∷ ns) s t e p =
      let c = same_end_of I m n p.0 p.1 in
      let pn : IsNumber (or_none (end_of I n)) = end_by-number n.by.num (column_at I n.column) (column-numbers I good n.column) in
      let ends : or_none (end_of I m) ≈ or_none (end_of I n) = subst (λ o. or_none o ≈ or_none (end_of I n)) (sym c) (≈-refl pn) in
      let head : sum s (product m.by (or_none (end_of I m))) ≈ sum t (product n.by (or_none (end_of I n))) = sum-≈ e (product-≈ p.1 ends) in
      let rest = same_low ms ns (sum s (product m.by (or_none (end_of I m)))) (sum t (product n.by (or_none (end_of I n)))) head p.2 in
      subst (λ a. a ≈ low_sum I t (n ∷ ns)) (sym (low_cons I s m ms)) (rest ▹ sym (low_cons I t n ns))

  same_legal : (ms ns : List Multiplier) → AreSame ms ns → AreLegal I ns → AreLegal I ms
  same_legal ms ns s l = record {
    numbers = same_all (λ m. IsNumber m.by) (λ m n c e p. e.left) ms ns s l.numbers;
    columns = same_all (λ m. m.column < width I + height I) (λ m n c e p. omega arith) ms ns s l.columns;
    ascending = λ k h.
        let a = same_column ms ns s k in
        let b = same_column ms ns s (k + 1) in
        let c = same_length ms ns s in
        let d = l.ascending k (omega arith) in
        omega arith;
    nonzero = same_all (λ m. m.by.num ≡ pos 0 → ⊥) (λ m n c e p z. p (none_same m.by n.by e z)) ms ns s l.nonzero;
    ends = same_all (λ m. IsSome (end_of I m)) (λ m n c e p. subst IsSome (sym (same_end_of I m n c e)) p) ms ns s l.ends;
  }

  -- a form is the variable's own multiplier, and the form of the rows
  form_parts : (ms : List Multiplier) (low : ℕ) → All (λ m. IsNumber m.by) ms → Ascends low ms → (j : ℕ) → j < width I → form I ms j ≈ sum (own_at ms j) (form I (rows_from (width I) ms) j)
  form_parts [] low p a j h = ≈-from none-number (sym (sum-none none))
  form_parts (m ∷ ms) low p a j h =
      let pm : IsNumber m.by = All-head (λ m. IsNumber m.by) m ms p in
      let ps : All (λ m. IsNumber m.by) ms = All-tail (λ m. IsNumber m.by) m ms p in
      let c : Ratio = coefficient_at I m.column j in
      let pc : IsNumber c = coefficient-number I good m.column j in
      let pf : IsNumber (form I ms j) = form-of_numbers I good ms ps j in
      let whole_form : form I (m ∷ ms) j ≈ sum (product m.by c) (form I ms j) = ≈-from (form-of_numbers I good (m ∷ ms) p j) (form_cons I m ms j) in
      by_lt m.column (width I)
      (λ variable.
      let e = lt-ltb m.column (width I) variable in
      let R : List Multiplier = rows_from (width I) ms in
      let pR : IsNumber (form I R j) = form-of_numbers I good R (rows_numbers (λ m. IsNumber m.by) (width I) ms ps) j in
      let rest : form I ms j ≈ sum (own_at ms j) (form I R j) = form_parts ms (suc m.column) ps a.1 j h in
      by_eq m.column j
      (λ same.
      let one : c ≡ whole (pos 1) = rw e (rw (eq-eqb m.column j same) refl) in
      let p1 : product m.by c ≡ m.by = ap (λ c. product m.by c) one ∙ product_swap m.by (whole (pos 1)) ∙ product-one m.by in
      let gone : own_at ms j ≡ none = own_past ms j (lower ms (suc j) (suc m.column) (omega arith) a.1) in
      let all : form I (m ∷ ms) j ≈ sum m.by (form I R j) = whole_form ▹ ap (λ x. sum x (form I ms j)) p1 ⊙ sum-≈ (≈-refl pm) (rest ▹ ap (λ x. sum x (form I R j)) gone ▹ none-sum (form I R j)) in
      rw e (rw (eq-eqb m.column j same) all))
      (λ other.
      let zero : c ≡ none = rw e (rw (ne_eqb m.column j other) refl) in
      let z : product m.by c ≈ none = subst (λ c. product m.by c ≈ none) (sym zero) (times_none m.by pm) in
      let all : form I (m ∷ ms) j ≈ sum (own_at ms j) (form I R j) = whole_form ⊙ sum-≈ z (≈-refl pf) ▹ none-sum (form I ms j) ⊙ rest in
      rw e (rw (ne_eqb m.column j other) all)))
      (λ row.
      let e = le-ltb m.column (width I) row in
      let d : m.column ≡ j → ⊥ = λ q. omega arith in
      let gone : own_at ms j ≡ none = own_past ms j (lower ms (suc j) (suc m.column) (omega arith) a.1) in
      let all : form I (m ∷ ms) j ≈ sum (own_at ms j) (form I (m ∷ ms) j) = ≈-from (form-of_numbers I good (m ∷ ms) p j) (sym (ap (λ x. sum x (form I (m ∷ ms) j)) gone ∙ none-sum (form I (m ∷ ms) j))) in
      rw e (rw (ne_eqb m.column j d) all))

  module _ (t : ℕ → Ratio) (pt : (j : ℕ) → IsNumber (t j)) (ms : List Multiplier) (legal : AreLegal I ms) (forms : (j : ℕ) → j < width I → IsSame (form I ms j) (t j)) where
    abbrev R : List Multiplier
    R = rows_of I ms

    up : Ascends 0 ms
    up = ascends ms 0 legal.ascending (λ h. omega arith)

    R-numbers : All (λ m. IsNumber m.by) R
    R-numbers = rows_numbers (λ m. IsNumber m.by) (width I) ms legal.numbers

    -- what is left is the variable's own multiplier
    left_own : (n : ℕ) → n < width I → left_at I t R n ≈ own_at ms n
    left_own n h =
        let pf : IsNumber (form I R n) = form-of_numbers I good R R-numbers n in
        let whole_form : form I ms n ≈ t n = record { left = form-of_numbers I good ms legal.numbers n; right = pt n; is = forms n h } in
        let parts = form_parts ms 0 legal.numbers up n h in
        let po : IsNumber (own_at ms n) = own-number ms legal.numbers n in
        let turned : negative (form I R n) ≈ negative (form I R n) = ≈-refl pf in
        sum-≈ (≈-sym whole_form ⊙ parts) turned ▹ sum_assoc (own_at ms n) (form I R n) (negative (form I R n)) ⊙ sum-≈ (≈-refl po) (sum-negative (form I R n) pf) ▹ sum-none (own_at ms n)
      where
        own-number : (ms : List Multiplier) → All (λ m. IsNumber m.by) ms → (n : ℕ) → IsNumber (own_at ms n)
        own-number [] p n = none-number
        own-number (m ∷ ms) p n = Rattle.evidence.proofs.Columns.pick IsNumber (nat_eq m.column n) m.by (own_at ms n) (All-head (λ m. IsNumber m.by) m ms p) (own-number ms (All-tail (λ m. IsNumber m.by) m ms p) n)

    zero_is : (z : ℤ) → z ≡ pos 0 → is_zero z ≡ true
    zero_is z e = rw e refl

    zero_not : (z : ℤ) → (z ≡ pos 0 → ⊥) → is_zero z ≡ false
    zero_not (pos zero) h = absurd (h refl)
    zero_not (pos (suc n)) h = refl
    zero_not (negsuc n) h = refl

    abbrev own : ℕ → Multiplier
    own n = record { column = n; by = left_at I t R n }

    put : (n : ℕ) (rest : List Multiplier) → n < width I → AreSame rest (rows_from (suc n) ms) → AreSame (put_before (own n) rest) (rows_from n ms)
    put n rest h s = by_next (next ms 0 n up)
      where
        by_next : Next ms n → AreSame (put_before (own n) rest) (rows_from n ms)
        by_next (inl (e, z)) =
            let l = left_own n h ▹ z in
            let o : (left_at I t R n).num ≡ pos 0 = none_same none (left_at I t R n) (≈-sym l) refl in
            rw (zero_is (left_at I t R n).num o) (rw e s)
        by_next (inr (m, e, c, b)) =
            let l = left_own n h ▹ b in
            let nonzero : All (λ m. m.by.num ≡ pos 0 → ⊥) (m ∷ rows_from (suc n) ms) = subst (All (λ m. m.by.num ≡ pos 0 → ⊥)) e (rows_numbers (λ m. m.by.num ≡ pos 0 → ⊥) n ms legal.nonzero) in
            let o : (left_at I t R n).num ≡ pos 0 → ⊥ = λ z. All-head (λ m. m.by.num ≡ pos 0 → ⊥) m (rows_from (suc n) ms) nonzero (none_same (left_at I t R n) m.by l z) in
            rw (zero_not (left_at I t R n).num o) (rw e (sym c, l, s))

    fill : (n : ℕ) (rest : List Multiplier) → n ≤ width I → AreSame rest (rows_from n ms) → AreSame (filled I t R n rest) ms
    fill zero rest h s = subst (AreSame rest) (rows_all ms 0 up) s
    fill (suc n) rest h s = fill n (put_before (own n) rest) (omega arith) (put n rest (omega arith) s)

    pub completed_same : AreSame (completed I t R) ms
    completed_same = fill (width I) R (omega arith) (all_same R R-numbers)

    pub completed_legal : AreLegal I (completed I t R)
    completed_legal = same_legal (completed I t R) ms completed_same legal

    pub are_rows : AreOfRows I R
    are_rows = all_rows ms 0 up
      where
        above : (ms : List Multiplier) (n : ℕ) → Ascends n ms → All (λ m. n ≤ m.column) ms
        above [] n a = All-nil (λ m. n ≤ m.column)
        above (m ∷ ms) n a = All-cons (λ m. n ≤ m.column) m ms a.0 (above ms n (lower ms n (suc m.column) (let p = a.0 in omega arith) a.1))

        all_rows : (ms : List Multiplier) (low : ℕ) → Ascends low ms → All (λ m. width I ≤ m.column) (rows_from (width I) ms)
        all_rows [] low a = All-nil (λ m. width I ≤ m.column)
        all_rows (m ∷ ms) low a =
            by_lt m.column (width I)
            (λ h. rw (lt-ltb m.column (width I) h) (all_rows ms (suc m.column) a.1))
            (λ h. rw (le-ltb m.column (width I) h) (above (m ∷ ms) (width I) (h, a.1)))

  pub farkas_left : (ms : List Multiplier) → IsFarkas I ms → AreOfRows I (rows_of I ms) × IsFarkas I (completed I no_costs (rows_of I ms))
  farkas_left ms f =
      let zero : (j : ℕ) → IsNumber (no_costs j) = λ j. none-number in
      let low = same_low (completed I no_costs (rows_of I ms)) ms none none (≈-refl none-number) (completed_same no_costs zero ms f.legal f.vanishes) in
      let above : none ⋖ low_sum I none ms = record { left = none-number; right = low.right; is = f.above } in
      let all = ⋖-≲ above (≲-from (≈-sym low)) in
      (are_rows no_costs zero ms f.legal f.vanishes, completed_farkas I good (rows_of I ms) (R-numbers no_costs zero ms f.legal f.vanishes) (completed_legal no_costs zero ms f.legal f.vanishes) all.is)

  pub bound_left : (ms : List Multiplier) (z : Ratio) → IsNumber z → IsBound I ms z → AreOfRows I (rows_of I ms) × IsBound I (completed I (goal_costs I) (rows_of I ms)) z
  bound_left ms z pz b =
      let t : ℕ → Ratio = goal_costs I in
      let pt : (j : ℕ) → IsNumber (goal_costs I j) = costs-number I good in
      let start = minimising I I.goal.constant in
      let low = same_low (completed I (goal_costs I) (rows_of I ms)) ms start start (≈-refl (minimising-number I I.goal.constant good.constant)) (completed_same (goal_costs I) pt ms b.legal b.costs) in
      let reached : z ≲ low_sum I start ms = record { left = pz; right = low.right; is = b.reaches } in
      let all = ≲-trans reached (≲-from (≈-sym low)) in
      (are_rows (goal_costs I) pt ms b.legal b.costs, record { legal = completed_legal (goal_costs I) pt ms b.legal b.costs; costs = completed_costs I good (rows_of I ms) (R-numbers (goal_costs I) pt ms b.legal b.costs); reaches = all.is })

  pub grid_left : (g : Ratio) (ms : List Multiplier) (z : Ratio) → IsGrid I g ms z → AreOfRows I (rows_of I ms) × IsGrid I g (completed I (goal_costs I) (rows_of I ms)) z
  grid_left g ms z b =
      let pt : (j : ℕ) → IsNumber (goal_costs I j) = costs-number I good in
      let all : List Multiplier = completed I (goal_costs I) (rows_of I ms) in
      let low = same_low all ms none none (≈-refl none-number) (completed_same (goal_costs I) pt ms b.legal b.costs) in
      let one : inverse g ≈ inverse g = ≈-refl (inverse-number g (above-some g.num g.den b.step.above)) in
      let steps : quotient (low_sum I none ms) g ≈ quotient (low_sum I none all) g = product-≈ (≈-sym low) one in (
        are_rows (goal_costs I) pt ms b.legal b.costs,
        record {
          legal = completed_legal (goal_costs I) pt ms b.legal b.costs;
          costs = completed_costs I good (rows_of I ms) (R-numbers (goal_costs I) pt ms b.legal b.costs);
          step = b.step;
          steps = b.steps;
          rounded = same_ceiling (quotient (low_sum I none ms) g) (quotient (low_sum I none all) g) b.steps steps b.rounded;
          reaches = b.reaches;
        },
      )
