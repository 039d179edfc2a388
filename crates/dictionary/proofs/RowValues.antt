-- The sum of a row's numbers, each times its column's value, is that over all columns.
use Rattle.std.proofs.Common.{◌≡◌, ℕ, zero, suc, ◌+◌, ◌-◌, ◌^◌, ◌<◌, ◌≤◌, ◌⊎◌, inl, inr, pos, Bool, true, false, ◌&&◌, List, ◌∷◌, length, drop, arith, refl, sym, ◌∙◌, ap, subst, add-one}
use Rattle.std.proofs.Math.ListN.{drop_of_length-le}
use Rattle.std.proofs.lemmas.Bool.{false≢true}
use Rattle.rational.specs.Ratio.{Ratio, sum, product, IsNumber, IsSame}
use Rattle.fraction.specs.Frac.{ratio}
use Rattle.evidence.specs.Sums.{none}
use Rattle.evidence.specs.Width.{TermFits, StatedFits}
use Rattle.evidence.proofs.Columns.{none-number}
use Rattle.evidence.proofs.Fits.{no_factor}
use Rattle.evidence.proofs.Steps.{IsSum, no_term, more, wide}
use Rattle.instance.proofs.Terms.{nothing_added}
use Rattle.bases.specs.Dictionary.{Values}
use Rattle.dictionary.specs.declared.fractions.Item.{Item}
use Rattle.marks.specs.declared.marks.Marks.{Marks}
use Rattle.marks.specs.Marks.{is_marked}
use Rattle.dictionary.specs.declared.row.Row.{Row}
use Rattle.dictionary.specs.Numbers.{has_number, HasNumber}
use Rattle.dictionary.specs.Rows.{numbers_of, entries_at, IsRow, AreValuesOf}
use Rattle.dictionary.specs.Row.{number_in, IsFrom, IsSparseRow}
use Rattle.dictionary.specs.Steps.{nonzeros}
use Rattle.dictionary.proofs.Nonzeros.{unless_not}
use Rattle.dictionary.proofs.Rows.{number_rest, number_head, none_below}
use Rattle.dictionary.proofs.RowForms.{marked_has, unmarked_none, sized_zero}

-- there is no product where a factor is 0
pub no_product : (s f x : Ratio) → (f.num ≡ pos 0) ⊎ (x.num ≡ pos 0) → TermFits s f x
no_product s f x (inl e) = no_factor s f x e
no_product s f x (inr e) = record { term = λ a b. absurd (b e); sum = λ a b. absurd (b e) }

-- one entry more is counted
pub counted_next : (c : ℕ) (f : ℕ → Ratio) → HasNumber f c → nonzeros (c + 1) f ≡ nonzeros c f + 1
counted_next c f h = let e = unless_not (f c).num 1 h in rw add-one (ap (λ n. nonzeros c f + n) e)

pub counted_up : (a m : ℕ) (f : ℕ → Ratio) → nonzeros a f ≤ nonzeros (a + m) f
counted_up a zero f = subst (λ j. nonzeros a f ≤ nonzeros j f) (let e : a ≡ a + 0 = omega arith in e) (omega arith)
counted_up a (suc m) f = subst (λ j. nonzeros a f ≤ nonzeros j f) (let e : suc (a + m) ≡ a + suc m = omega arith in e) (one (a + m) (counted_up a m f))
  where
    one : (j : ℕ) → nonzeros a f ≤ nonzeros j f → nonzeros a f ≤ nonzeros (suc j) f
    one j r = omega (arith, r)

module _ (row values : ℕ → Ratio) (number : (c : ℕ) → IsNumber (row c)) (k : ℕ) (w : Values) (at : AreValuesOf row values k w) where
  -- nothing is added at a column
  abbrev pub IsPassed : ℕ → Type 0
  IsPassed c = ((row c).num ≡ pos 0) ⊎ ((w c).num ≡ pos 0)

  skipped : (n m : ℕ) (r : Ratio) → IsNumber r → IsSum none n row w r → ((c : ℕ) → n ≤ c → c < n + m → IsPassed c) → IsSum none (n + m) row w r
  skipped n zero r p s z = subst (λ j. IsSum none j row w r) (let e : n ≡ n + 0 = omega arith in e) s
  skipped n (suc m) r p s z =
      let before = skipped n m r p s (λ c a l. z c a (omega arith)) in
      let here = z (n + m) (omega arith) (omega arith) in
      subst (λ j. IsSum none j row w r) (let e : n + m + 1 ≡ n + suc m = omega arith in e)
      (more none row w none-number number at.numbers (n + m) r r (row (n + m)) (w (n + m)) refl refl p p before (nothing_added r (row (n + m)) (w (n + m)) here) (no_product r (row (n + m)) (w (n + m)) here))

  passed_to : (from c : ℕ) (r : Ratio) → IsNumber r → from ≤ c → ((j : ℕ) → from ≤ j → j < c → IsPassed j) → IsSum none from row w r → IsSum none c row w r
  passed_to from c r p l z s =
      let e : from + (c - from) ≡ c = omega arith in
      subst (λ j. IsSum none j row w r) e (skipped from (c - from) r p s (λ j a h. z j a (omega arith)))

  -- the sum of the columns below a place, which is none past the last
  pub record Summed (from : ℕ) (r : Ratio) : Type 0 where
    pub within : from ≤ k
    pub is : IsSum none from row w r

  pub summed_none : (r : Ratio) → IsSame r none → Summed 0 r
  summed_none r e = record { within = omega arith; is = record { is = e; fits = let n = no_term none row w in n.fits } }

  module _ (from c : ℕ) (r : Ratio) (p : IsNumber r) (s : Summed from r) (later : from ≤ c) (passed : (j : ℕ) → from ≤ j → j < c → IsPassed j) (has : HasNumber row c) (v : Ratio) (ev : values c ≡ v) where
    pub summed_more : (t : Ratio) → IsNumber t → IsSame t (sum r (product (row c) v)) → TermFits r (row c) v → Summed (c + 1) t
    summed_more t pt is fits = record {
      within = let l = at.inside c has in omega arith;
      is = more none row w none-number number at.numbers c r t (row c) v refl (at.same c has ∙ ev) p pt (passed_to from c r p later passed s.is) is fits;
    }

    pub summed_wide : (TermFits r (row c) v → ⊥) → StatedFits none k row w → ⊥
    summed_wide unfit = wide none row w none-number number at.numbers c k r (row c) v refl (at.same c has ∙ ev) (at.inside c has) p (passed_to from c r p later passed s.is) unfit

  pub summed_all : (from : ℕ) (r : Ratio) → IsNumber r → Summed from r → ((j : ℕ) → from ≤ j → IsPassed j) → IsSum none k row w r
  summed_all from r p s passed = passed_to from k r p s.within (λ j a h. passed j a) s.is

both_true : (a b : Bool) → (a && b) ≡ true → (a ≡ true) × (b ≡ true)
both_true true true e = (refl, refl)
both_true true false e = absurd (false≢true e)
both_true false b e = absurd (false≢true e)

-- a row's marks beside those of values that aren't 0
module _ {L : _} {G : _} (row : Row L G) (k n : ℕ) (is : IsRow k n row) (m : Marks) (values : Values) (marked : (c : ℕ) → is_marked m c ≡ has_number values c) (c : ℕ) where
  pub both_has : (is_marked row.marks c && is_marked m c) ≡ true → HasNumber (numbers_of row) c
  unfolding entries_at
  both_has e = marked_has row k n is c (both_true (is_marked row.marks c) (is_marked m c) e).0

  pub both_passed : (j : ℕ) (w : Values) (at : AreValuesOf (numbers_of row) values j w) → (is_marked row.marks c && is_marked m c) ≡ false → ((numbers_of row c).num ≡ pos 0) ⊎ ((w c).num ≡ pos 0)
  unfolding entries_at
  both_passed j w at h = by (is_marked row.marks c) refl
    where
      by : (b : Bool) → is_marked row.marks c ≡ b → ((numbers_of row c).num ≡ pos 0) ⊎ ((w c).num ≡ pos 0)
      by false e = inl (unmarked_none row k n is c e)
      by true e =
          let out : is_marked m c ≡ false = sym (ap (λ (b : Bool). b && is_marked m c) e) ∙ h in
          inr (ap (λ (v : Ratio). v.num) (at.same c (marked_has row k n is c e)) ∙ sized_zero (values c).num (sym out ∙ marked c))

-- the columns of the items that are left begin at a place
pub record IsLeft (xs : List Item) (i from : ℕ) : Type 0 where
  pub rest : IsFrom from (2 ^ 32) (drop i xs)
  pub same : (c : ℕ) → from ≤ c → number_in xs c ≡ number_in (drop i xs) c

pub left_all : (xs : List Item) → IsSparseRow xs → IsLeft xs 0 0
left_all xs h = record { rest = h; same = λ c l. refl }

module _ (xs : List Item) (i from : ℕ) (left : IsLeft xs i from) where
  module _ (x : Item) (opened : drop i xs ≡ x ∷ drop (i + 1) xs) where
    from_x : IsFrom from (2 ^ 32) (x ∷ drop (i + 1) xs)
    from_x = subst (λ (l : List Item). IsFrom from (2 ^ 32) l) opened left.rest

    pub next_later : from ≤ x.col
    next_later = let f = from_x in f.0

    pub next_is : number_in xs x.col ≡ ratio x.value
    next_is = let f = from_x in left.same x.col f.0 ∙ ap (λ (l : List Item). number_in l x.col) opened ∙ number_head x (drop (i + 1) xs) from (2 ^ 32) f

    pub next_has : HasNumber (number_in xs) x.col
    next_has z = let f = from_x in f.1 (sym (ap (λ (v : Ratio). v.num) next_is) ∙ z)

    pub next_first : (c : ℕ) → from ≤ c → c < x.col → number_in xs c ≡ none
    next_first c a l = let f = from_x in left.same c a ∙ ap (λ (y : List Item). number_in y c) opened ∙ none_below c x.col (2 ^ 32) (x ∷ drop (i + 1) xs) (omega arith) (omega arith, f.1, f.2)

    pub left_more : IsLeft xs (i + 1) (x.col + 1)
    left_more =
        let f = from_x in
        record {
          rest = f.2;
          same = λ c l. left.same c (let g = f.0 in omega arith) ∙ ap (λ (y : List Item). number_in y c) opened ∙ number_rest x (drop (i + 1) xs) c (λ e. omega arith);
        }

  pub left_none : length xs ≤ i → (c : ℕ) → from ≤ c → number_in xs c ≡ none
  left_none l c a = left.same c a ∙ ap (λ (y : List Item). number_in y c) (drop_of_length-le xs l)
