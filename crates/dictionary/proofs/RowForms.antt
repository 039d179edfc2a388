-- Numbers over one denominator in lowest terms, and which of a row's columns have an entry.
use Rattle.std.proofs.Common.{◌≡◌, ℕ, zero, suc, ◌+◌, ◌^◌, ◌<◌, ◌≤◌, inl, inr, ℤ, pos, negsuc, ◌*ℤ◌, ◌<ℤ◌, Bool, true, false, cond, not, nat_eq, List, [], ◌∷◌, ◌++◌, length, get_or, set, replicate, bit_or, FitsSigned, get_or-set_same, get_or-set_other, arith, refl, sym, ◌∙◌, ap, ap₂, subst}
use Rattle.std.specs.Prelude.{unsigned_abs, int_lt, slice_index_or}
use mir.Syntax.{w128}
use Rattle.rational.specs.Width.{most, IsReduced}
use Rattle.std.proofs.Math.IntN.{zero-*ℤ}
use Rattle.std.proofs.Math.ListN.{length-set}
use Rattle.std.proofs.lemmas.Nat.{le_or_l, le_or_r, or_lt}
use Rattle.std.proofs.lemmas.Bool.{false≢true}
use Rattle.std.proofs.lemmas.Int.{ints}
use Rattle.evidence.specs.Sums.{none}
use Rattle.evidence.proofs.Fits.{whole-reduced}
use Rattle.marks.specs.Marks.{is_marked, size_of}
use Rattle.std.proofs.lemmas.Bool.Decides.{nat_tests}
use Rattle.evidence.proofs.Columns.{by_eq}
use Rattle.rational.specs.Ratio.{Ratio, whole, quotient, IsNumber, IsSame}
use Rattle.rational.proofs.Scaling.{IsSame-trans}
use Rattle.bases.proofs.Lists.{reduced_none}
use Rattle.fraction.specs.Frac.{ratio}
use Rattle.fraction.specs.declared.frac.Frac.{Frac}
use Rattle.common_rows.specs.Row.{over}
use Rattle.dictionary.specs.Lowest.{lowest}
use Rattle.dictionary.proofs.Lowest.{lowest-reduced, lowest-same, lowest-of}
use Rattle.common_rows.proofs.Accumulators.{quotient_over}
use Rattle.dictionary.specs.declared.fractions.Item.{Item}
use Rattle.dictionary.specs.declared.row.Row.{Row}
use Rattle.dictionary.specs.Row.{entries_of, room_of, number_in, IsFrom, IsSparseRow, HasColumn}
use Rattle.dictionary.specs.Rows.{number_of, numbers_of, entries_at, words_over, IsRow, AreRows, HasNumber}
use Rattle.dictionary.specs.Steps.{unless_zero, nonzeros}
use Rattle.dictionary.proofs.Rows.{number_head, number_rest, has_above}
use Rattle.dictionary.proofs.Sums.{row-number}
use Rattle.dictionary.proofs.Nonzeros.{unless_not, nonzeros_same, counted}

pub has_nonzero : (low high : ℕ) (xs : List Item) (c : ℕ) → IsFrom low high xs → HasColumn xs c → (number_in xs c).num ≡ pos 0 → ⊥
has_nonzero low high [] c h g z = g
has_nonzero low high (x ∷ xs) c h (inl e) z = h.1 (sym (ap (λ (v : Ratio). v.num) (number_head x xs low high h)) ∙ ap (λ k. (number_in (x ∷ xs) k).num) e ∙ z)
has_nonzero low high (x ∷ xs) c h (inr g) z =
    let above = has_above (x.col + 1) high xs c h.2 g in
    has_nonzero (x.col + 1) high xs c h.2 g (sym (ap (λ (v : Ratio). v.num) (number_rest x xs c (λ e. omega arith))) ∙ z)

-- an entry is one of those that are counted
pub one_nonzero : (k c : ℕ) (f : ℕ → Ratio) → c < k → ((f c).num ≡ pos 0 → ⊥) → 1 ≤ nonzeros k f
one_nonzero zero c f l h = absurd (omega arith)
one_nonzero (suc k) c f l h = by_eq c k
    (λ e. let own : unless_zero (f k).num 1 ≡ 1 = subst (λ j. unless_zero (f j).num 1 ≡ 1) e (unless_not (f c).num 1 h) in omega arith)
    (λ d. let rest = one_nonzero k c f (omega arith) h in omega arith)

digits_up : (n b : ℕ) → 1 ≤ n → n < 2 ^ b → 1 ≤ b
digits_up n zero a l = absurd (omega arith)
digits_up n (suc b) a l = omega arith

-- a number above 0 and its size
pub sized : (d : ℤ) → pos 0 <ℤ d → d ≡ pos (unsigned_abs d)
sized (pos n) h = refl
sized (negsuc n) h = absurd (omega (arith, ints))

pub sized_above : (d : ℤ) → pos 0 <ℤ d → 0 < unsigned_abs d
sized_above (pos n) h = omega (arith, ints)
sized_above (negsuc n) h = absurd (omega (arith, ints))

pub sized_most : (d : ℤ) → FitsSigned w128 d → pos 0 <ℤ d → unsigned_abs d ≤ most
sized_most (pos n) f h = omega (arith, f.sfits)
sized_most (negsuc n) f h = absurd (omega (arith, ints))

-- a fraction of a number and a denominator is its lowest terms
pub lowest_by : (x : Frac) (n d : ℤ) → pos 0 <ℤ d → IsSame (ratio x) (quotient (whole n) (whole d)) → ratio x ≡ lowest n (unsigned_abs d)
lowest_by x n d h same =
    let k : ℕ = unsigned_abs d in
    let up : 0 < k = sized_above d h in
    let P : ℤ → Type 0 = λ z. IsSame (ratio x) (quotient (whole n) (whole z)) in
    let there : IsSame (ratio x) (quotient (whole n) (whole (pos k))) = subst P (sized d h) same in
    let number : 0 < (quotient (whole n) (whole (pos k))).den = omega (arith, up) in
    lowest-of (ratio x) n k up (x.above, x.reduced) (IsSame-trans (ratio x) (quotient (whole n) (whole (pos k))) (over n k) number there (quotient_over n k))

-- numbers that are the same have the same sign
up_yes : (n : ℕ) → int_lt (pos 0) (pos (suc n)) ≡ true
up_yes n = grind (arith, ints)

down_no : (n : ℕ) → int_lt (pos n) (pos 0) ≡ false
down_no n = grind (arith, ints)

down_yes : (n : ℕ) → int_lt (negsuc n) (pos 0) ≡ true
down_yes n = grind (arith, ints)

up_no : (n : ℕ) → int_lt (pos 0) (negsuc n) ≡ false
up_no n = grind (arith, ints)

-- both have one sign
pub record AreAlike (a b : ℤ) : Type 0 where
  pub up : int_lt (pos 0) a ≡ int_lt (pos 0) b
  pub down : int_lt a (pos 0) ≡ int_lt b (pos 0)
  pub zero : (a ≡ pos 0 → b ≡ pos 0) × (b ≡ pos 0 → a ≡ pos 0)

alike : (a b : ℤ) (d e : ℕ) → 0 < d → 0 < e → a *ℤ pos d ≡ b *ℤ pos e → AreAlike a b
alike a b zero e ud ue h = absurd (omega arith)
alike a b (suc d) zero ud ue h = absurd (omega arith)
alike (pos zero) (pos zero) (suc d) (suc e) ud ue h = record { up = refl; down = refl; zero = (λ z. refl, λ z. refl) }
alike (pos zero) (pos (suc b)) (suc d) (suc e) ud ue h = absurd (omega (arith, ints))
alike (pos zero) (negsuc b) (suc d) (suc e) ud ue h = absurd (omega (arith, ints))
alike (pos (suc a)) (pos zero) (suc d) (suc e) ud ue h = absurd (omega (arith, ints))
alike (pos (suc a)) (pos (suc b)) (suc d) (suc e) ud ue h = record { up = up_yes a ∙ sym (up_yes b); down = down_no (suc a) ∙ sym (down_no (suc b)); zero = (λ z. absurd (omega (arith, ints)), λ z. absurd (omega (arith, ints))) }
alike (pos (suc a)) (negsuc b) (suc d) (suc e) ud ue h = absurd (omega (arith, ints))
alike (negsuc a) (pos zero) (suc d) (suc e) ud ue h = absurd (omega (arith, ints))
alike (negsuc a) (pos (suc b)) (suc d) (suc e) ud ue h = absurd (omega (arith, ints))
alike (negsuc a) (negsuc b) (suc d) (suc e) ud ue h = record { up = up_no a ∙ sym (up_no b); down = down_yes a ∙ sym (down_yes b); zero = (λ z. absurd (omega (arith, ints)), λ z. absurd (omega (arith, ints))) }

pub lowest_alike : (n : ℤ) (d : ℕ) → 0 < d → AreAlike (lowest n d).num n
lowest_alike n d up = alike (lowest n d).num n d (lowest n d).den up (lowest-reduced n d up).0 (lowest-same n d up)

pub lowest_none : (d : ℕ) → 0 < d → lowest (pos 0) d ≡ none
lowest_none d up = sym (lowest-of none (pos 0) d up (whole-reduced (pos 0)) (zero-*ℤ (pos d) ∙ sym (zero-*ℤ (pos 1))))

-- a list of zeros
zero_at : (n k : ℕ) → get_or (replicate n (pos 0)) k (pos 0) ≡ pos 0
zero_at zero k = refl
zero_at (suc n) zero = refl
zero_at (suc n) (suc k) = zero_at n k

pub filled : (n : ℕ) (xs : List ℤ) → xs ≡ replicate n (pos 0) → (k : ℕ) → slice_index_or xs k (pos 0) ≡ pos 0
filled n xs e k = ap (λ (ys : List ℤ). slice_index_or ys k (pos 0)) e ∙ zero_at n k

-- the size tells whether it is 0
pub sized_zero : (z : ℤ) → false ≡ not (nat_eq (unsigned_abs z) 0) → z ≡ pos 0
sized_zero (pos zero) e = refl
sized_zero (pos (suc n)) e = absurd (grind (arith, nat_tests, e))
sized_zero (negsuc n) e = absurd (grind (arith, nat_tests, e))

pub sized_not : (z : ℤ) → true ≡ not (nat_eq (unsigned_abs z) 0) → z ≡ pos 0 → ⊥
sized_not (pos zero) e h = absurd (grind (arith, nat_tests, e))
sized_not (pos (suc n)) e h = omega (arith, ints)
sized_not (negsuc n) e h = omega (arith, ints)

-- numbers that are 0 where the row is marked, and as before elsewhere, are all 0
pub cleared : {L : _} {G : _} (row : Row L G) (k n : ℕ) → IsRow k n row → (xs : List ℤ) → ((c : ℕ) → is_marked row.marks c ≡ true → slice_index_or xs c (pos 0) ≡ pos 0) → ((c : ℕ) → is_marked row.marks c ≡ false → slice_index_or xs c (pos 0) ≡ slice_index_or row.numers.items c (pos 0)) → (c : ℕ) → slice_index_or xs c (pos 0) ≡ pos 0
cleared row k n is xs zeros others c = by (is_marked row.marks c) refl
  where
    by : (b : Bool) → is_marked row.marks c ≡ b → slice_index_or xs c (pos 0) ≡ pos 0
    by true e = zeros c e
    by false e = others c e ∙ is.empty c e

pub zero_none : (y : Ratio) → IsReduced y → y.num ≡ pos 0 → y ≡ none
zero_none y r e = reduced_none y r (ap (λ (z : ℤ). z *ℤ pos 1) e ∙ zero-*ℤ (pos 1) ∙ sym (zero-*ℤ (pos y.den)))

-- an ascending row's numbers are in lowest terms
number_reduced : (low high : ℕ) (xs : List Item) → IsFrom low high xs → (c : ℕ) → IsReduced (number_in xs c)
number_reduced low high [] h c = whole-reduced (pos 0)
number_reduced low high (x ∷ xs) h c =
    by_eq x.col c
    (λ e. subst (λ (v : Ratio). IsReduced v) (sym (ap (λ k. number_in (x ∷ xs) k) (sym e) ∙ number_head x xs low high h)) (let v = x.value in (v.above, v.reduced)))
    (λ d. subst (λ (v : Ratio). IsReduced v) (sym (number_rest x xs c d)) (number_reduced (x.col + 1) high xs h.2 c))

module _ {L : _} {G : _} (row : Row L G) where
  -- the number at a column in each form
  pub common_number : row.is_common ≡ true → (c : ℕ) → numbers_of row c ≡ lowest (slice_index_or row.numers.items c (pos 0)) (unsigned_abs row.denom)
  unfolding numbers_of
  common_number e c = ap (λ b. number_of b row.numers.items row.denom (entries_of row.fractions) c) e

  pub fraction_number : row.is_common ≡ false → (c : ℕ) → numbers_of row c ≡ number_in (entries_of row.fractions) c
  unfolding numbers_of
  fraction_number e c = ap (λ b. number_of b row.numers.items row.denom (entries_of row.fractions) c) e

  pub fraction_numbers : row.is_common ≡ false → numbers_of row ≡ number_in (entries_of row.fractions)
  fraction_numbers e = λ i c. fraction_number e c i

  pub numbers-number : (c : ℕ) → IsNumber (numbers_of row c)
  numbers-number c = by row.is_common refl
    where
      by : (b : Bool) → row.is_common ≡ b → IsNumber (numbers_of row c)
      by true e = subst (λ (x : Ratio). IsNumber x) (sym (common_number e c)) (lowest-reduced (slice_index_or row.numers.items c (pos 0)) (unsigned_abs row.denom) (sized_above row.denom row.above)).0
      by false e = subst (λ (x : Ratio). IsNumber x) (sym (fraction_number e c)) (row-number (entries_of row.fractions) c)

  pub common_same : row.is_common ≡ true → (c : ℕ) (n : ℤ) → n ≡ slice_index_or row.numers.items c (pos 0) → IsSame (over n (unsigned_abs row.denom)) (numbers_of row c)
  common_same e c n is = subst (λ (x : Ratio). IsSame (over n (unsigned_abs row.denom)) x) (ap (λ (z : ℤ). lowest z (unsigned_abs row.denom)) is ∙ sym (common_number e c)) (sym (lowest-same n (unsigned_abs row.denom) (sized_above row.denom row.above)))

  -- a row without entries
  module _ (common : row.is_common ≡ true) (zeros : (c : ℕ) → slice_index_or row.numers.items c (pos 0) ≡ pos 0) where
    pub empty_numbers : (c : ℕ) → numbers_of row c ≡ none
    empty_numbers c = common_number common c ∙ ap (λ (z : ℤ). lowest z (unsigned_abs row.denom)) (zeros c) ∙ lowest_none (unsigned_abs row.denom) (sized_above row.denom row.above)

    pub empty_row : (k n : ℕ) → length row.numers.items ≡ k → size_of row.marks ≡ words_over k → row.size < 2 ^ 63 → ((c : ℕ) → is_marked row.marks c ≡ false) → room_of row.fractions ≡ n → IsRow k n row
    empty_row k n count columns small unmarked room = record {
      count = count;
      columns = columns;
      small = small;
      marked = λ c. unmarked c ∙ ap (λ (x : Ratio). not (nat_eq (unsigned_abs x.num) 0)) (sym (empty_numbers c));
      inside = λ c h. absurd (false≢true (sym (unmarked c) ∙ h));
      empty = λ c h. zeros c;
      within = λ c. subst (λ (z : ℤ). unsigned_abs z ≤ row.size) (sym (zeros c)) (omega arith);
      ascending = λ h. absurd (false≢true (sym h ∙ common));
      room = room;
    }

  module _ (k n : ℕ) (is : IsRow k n row) where
    -- a mark tells of an entry
    pub marked_has : (c : ℕ) → entries_at row c ≡ true → HasNumber (numbers_of row) c
    unfolding entries_at
    marked_has c e = sized_not (numbers_of row c).num (sym e ∙ is.marked c)

    pub unmarked_none : (c : ℕ) → entries_at row c ≡ false → (numbers_of row c).num ≡ pos 0
    unfolding entries_at
    unmarked_none c e = sized_zero (numbers_of row c).num (sym e ∙ is.marked c)

    pub has_marked : (c : ℕ) → HasNumber (numbers_of row) c → entries_at row c ≡ true
    has_marked c h = by (entries_at row c) refl
      where
        by : (b : Bool) → entries_at row c ≡ b → entries_at row c ≡ true
        by true e = e
        by false e = absurd (h (unmarked_none c e))

    pub numbers-reduced : (c : ℕ) → IsReduced (numbers_of row c)
    numbers-reduced c = by row.is_common refl
      where
        by : (b : Bool) → row.is_common ≡ b → IsReduced (numbers_of row c)
        by true e = subst (λ (x : Ratio). IsReduced x) (sym (common_number e c)) (lowest-reduced (slice_index_or row.numers.items c (pos 0)) (unsigned_abs row.denom) (sized_above row.denom row.above))
        by false e = subst (λ (x : Ratio). IsReduced x) (sym (fraction_number e c)) (number_reduced 0 (2 ^ 32) (entries_of row.fractions) (is.ascending e) c)

    pub none_unmarked : (c : ℕ) → entries_at row c ≡ false → numbers_of row c ≡ none
    none_unmarked c e = zero_none (numbers_of row c) (numbers-reduced c) (unmarked_none c e)

    pub has_inside : (c : ℕ) → HasNumber (numbers_of row) c → c < k
    unfolding entries_at
    has_inside c h = let l = is.inside c (has_marked c h) in omega arith

    pub has_below : (c : ℕ) → HasNumber (numbers_of row) c → c + 1 < k
    unfolding entries_at
    has_below c h = is.inside c (has_marked c h)

    -- as many fractions as entries, and a mark is one of them
    pub fractions_below : row.is_common ≡ false → (j : ℕ) → ((c : ℕ) → HasNumber (numbers_of row) c → c < j) → length (entries_of row.fractions) ≤ nonzeros j (numbers_of row)
    fractions_below e j inside =
        let xs = entries_of row.fractions in
        let up : IsSparseRow xs = is.ascending e in
        let within : (c : ℕ) → HasColumn xs c → c < j = λ c h. inside c (λ z. has_nonzero 0 (2 ^ 32) xs c up h (sym (ap (λ (v : Ratio). v.num) (fraction_number e c)) ∙ z)) in
        subst (λ m. length xs ≤ m) (nonzeros_same j (number_in xs) (numbers_of row) (λ c. sym (fraction_number e c))) (counted j 0 (2 ^ 32) xs up within)

    pub few_fractions : row.is_common ≡ false → length (entries_of row.fractions) ≤ nonzeros k (numbers_of row)
    few_fractions e = fractions_below e k has_inside

    pub mark_cost : (c b : ℕ) → nonzeros k (numbers_of row) < 2 ^ b → cond (entries_at row c) 1 0 ≤ b
    mark_cost c b few = by (entries_at row c) refl
      where
        by : (t : Bool) → entries_at row c ≡ t → cond t 1 0 ≤ b
        by true e = digits_up (nonzeros k (numbers_of row)) b (one_nonzero k c (numbers_of row) (has_inside c (marked_has c e)) (marked_has c e)) few
        by false e = omega arith

pub zero_tests : (a b : ℤ) → (a ≡ pos 0 → b ≡ pos 0) × (b ≡ pos 0 → a ≡ pos 0) → not (nat_eq (unsigned_abs b) 0) ≡ not (nat_eq (unsigned_abs a) 0)
zero_tests a b h = by (not (nat_eq (unsigned_abs a) 0)) (not (nat_eq (unsigned_abs b) 0)) refl refl
  where
    by : (s t : Bool) → not (nat_eq (unsigned_abs a) 0) ≡ s → not (nat_eq (unsigned_abs b) 0) ≡ t → not (nat_eq (unsigned_abs b) 0) ≡ not (nat_eq (unsigned_abs a) 0)
    by true true e f = f ∙ sym e
    by false false e f = f ∙ sym e
    by true false e f = absurd (sized_not a (sym e) (h.1 (sized_zero b (sym f))))
    by false true e f = absurd (sized_not b (sym f) (h.0 (sized_zero a (sym e))))

-- a number is written at a column of a row in common form
pub record IsWritten {L : _} {G : _} (row new : Row L G) (col : ℕ) (number : ℤ) : Type 0 where
  pub common : row.is_common ≡ true
  pub stays : new.is_common ≡ true
  pub denom : new.denom ≡ row.denom
  pub own : slice_index_or new.numers.items col (pos 0) ≡ number
  pub others : (c : ℕ) → (c ≡ col → ⊥) → slice_index_or new.numers.items c (pos 0) ≡ slice_index_or row.numers.items c (pos 0)
  pub count : length new.numers.items ≡ length row.numers.items
  pub size : size_of new.marks ≡ size_of row.marks
  pub mark : is_marked new.marks col ≡ not (nat_eq (unsigned_abs number) 0)
  pub marks : (c : ℕ) → (c ≡ col → ⊥) → is_marked new.marks c ≡ is_marked row.marks c
  pub small : new.size < 2 ^ 63
  pub bound : unsigned_abs number ≤ new.size
  pub more : row.size ≤ new.size
  pub room : room_of new.fractions ≡ room_of row.fractions

module _ {L : _} {G : _} (row new : Row L G) (col : ℕ) (number : ℤ) (w : IsWritten row new col number) where
  pub written_own : numbers_of new col ≡ lowest number (unsigned_abs row.denom)
  written_own = common_number new w.stays col ∙ ap₂ (λ (z d : ℤ). lowest z (unsigned_abs d)) w.own w.denom

  pub written_other : (c : ℕ) → (c ≡ col → ⊥) → numbers_of new c ≡ numbers_of row c
  written_other c d = common_number new w.stays c ∙ ap₂ (λ (z e : ℤ). lowest z (unsigned_abs e)) (w.others c d) w.denom ∙ sym (common_number row w.common c)

  own_marked : is_marked new.marks col ≡ not (nat_eq (unsigned_abs (numbers_of new col).num) 0)
  own_marked =
      let alike = lowest_alike number (unsigned_abs row.denom) (sized_above row.denom row.above) in
      w.mark ∙ zero_tests (lowest number (unsigned_abs row.denom)).num number alike.zero ∙ ap (λ (x : Ratio). not (nat_eq (unsigned_abs x.num) 0)) (sym written_own)

  pub written_row : (k n : ℕ) → IsRow k n row → col + 1 < k → IsRow k n new
  written_row k n is l = record {
    count = w.count ∙ is.count;
    columns = w.size ∙ is.columns;
    small = w.small;
    marked = λ c. by_eq c col
        (λ e. subst (λ j. is_marked new.marks j ≡ not (nat_eq (unsigned_abs (numbers_of new j).num) 0)) (sym e) own_marked)
        (λ d. w.marks c d ∙ is.marked c ∙ ap (λ (x : Ratio). not (nat_eq (unsigned_abs x.num) 0)) (sym (written_other c d)));
    inside = λ c h. by_eq c col (λ e. omega arith) (λ d. is.inside c (sym (w.marks c d) ∙ h));
    empty = λ c h. by_eq c col
        (λ e. subst (λ j. slice_index_or new.numers.items j (pos 0) ≡ pos 0) (sym e) (w.own ∙ sized_zero number (sym h ∙ ap (λ j. is_marked new.marks j) e ∙ w.mark)))
        (λ d. w.others c d ∙ is.empty c (sym (w.marks c d) ∙ h));
    within = λ c. by_eq c col
        (λ e. subst (λ j. unsigned_abs (slice_index_or new.numers.items j (pos 0)) ≤ new.size) (sym e) (subst (λ (z : ℤ). unsigned_abs z ≤ new.size) (sym w.own) w.bound))
        (λ d. subst (λ (z : ℤ). unsigned_abs z ≤ new.size) (sym (w.others c d)) (let a = is.within c in let b = w.more in omega arith));
    ascending = λ h. absurd (false≢true (sym h ∙ w.stays));
    room = w.room ∙ is.room;
  }

module _ {L : _} {G : _} (row new : Row L G) (k n : ℕ) (is : IsRow k n row) (col : ℕ) (number : ℤ) where
  -- what is written is one item of the list, and its size goes into the row's
  pub is_written : col < k → unsigned_abs number < 2 ^ 63 → row.is_common ≡ true → new.is_common ≡ true → new.denom ≡ row.denom → new.numers.items ≡ set row.numers.items col number → size_of new.marks ≡ size_of row.marks → is_marked new.marks col ≡ not (nat_eq (unsigned_abs number) 0) → ((c : ℕ) → (c ≡ col → ⊥) → is_marked new.marks c ≡ is_marked row.marks c) → new.size ≡ bit_or row.size (unsigned_abs number) → room_of new.fractions ≡ room_of row.fractions → IsWritten row new col number
  is_written l narrow common stays denom items size mark marks sized room = record {
    common = common;
    stays = stays;
    denom = denom;
    own = ap (λ (xs : List ℤ). get_or xs col (pos 0)) items ∙ get_or-set_same row.numers.items col number (pos 0) (let e = is.count in omega arith);
    others = λ c d. ap (λ (xs : List ℤ). get_or xs c (pos 0)) items ∙ get_or-set_other row.numers.items col c number (pos 0) d;
    count = ap length items ∙ length-set row.numers.items col number;
    size = size;
    mark = mark;
    marks = marks;
    small = subst (λ m. m < 2 ^ 63) (sym sized) (or_lt 63 row.size (unsigned_abs number) is.small narrow);
    bound = subst (λ m. unsigned_abs number ≤ m) (sym sized) (le_or_r row.size (unsigned_abs number));
    more = subst (λ m. row.size ≤ m) (sym sized) (le_or_l row.size (unsigned_abs number));
    room = room;
  }

-- one row more
pub rows_push : {L : _} {G : _} (k n : ℕ) (rows : List (Row L G)) (more : Row L G) → IsRow k n more → AreRows k n rows → AreRows k n (rows ++ more ∷ [])
rows_push k n [] more is are zero row l e = subst (λ (x : Row _ _). IsRow k n x) (sym e) is
rows_push k n [] more is are (suc r) row l e = absurd (omega arith)
rows_push k n (x ∷ xs) more is are zero row l e = are zero row (omega arith) e
rows_push k n (x ∷ xs) more is are (suc r) row l e = rows_push k n xs more is (λ j v h. are (suc j) v (omega arith)) r row (omega arith) e
