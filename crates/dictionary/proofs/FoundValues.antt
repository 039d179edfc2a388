-- Values beside rows, and a row that takes them.
use Rattle.std.proofs.Common.{◌≡◌, ℕ, zero, suc, ◌+◌, ◌-◌, ◌<◌, ◌≤◌, ℤ, pos, Bool, true, false, cond, not, nat_eq, Option, None, Some, IfSome, List, [], ◌∷◌, length, set, arith, refl, sym, ◌∙◌, ap, ap₂, subst}
use Rattle.std.specs.Prelude.{unsigned_abs}
use Rattle.std.proofs.Math.ListN.{length-set}
use Rattle.std.proofs.lemmas.Bool.{false≢true}
use Rattle.rational.specs.Ratio.{Ratio}
use Rattle.rational.specs.Width.{IsReduced}
use Rattle.fraction.specs.Frac.{ratio, ratios}
use Rattle.fraction.specs.declared.frac.Frac.{Frac}
use Rattle.evidence.specs.Sums.{none}
use Rattle.evidence.specs.Point.{value_at}
use Rattle.evidence.proofs.Columns.{by_eq, by_lt}
use Rattle.evidence.proofs.Fits.{whole-reduced}
use Rattle.marks.specs.Marks.{is_marked}
use Rattle.marks.specs.Words.{IsFirst}
use Rattle.dictionary.specs.declared.row.Row.{Row}
use Rattle.dictionary.specs.Rows.{numbers_of, HasRowForm}
use Rattle.dictionary.specs.declared.scratch.Scratch.{Scratch}
use Rattle.dictionary.specs.Numbers.{HasNumber}
use Rattle.dictionary.specs.Scratch.{found_at, AreFound}
use Rattle.dictionary.specs.Steps.{unless_zero, nonzeros}
use Rattle.dictionary.proofs.Nonzeros.{below_same}
use Rattle.dictionary.proofs.RowForms.{sized_zero, zero_none}
use Rattle.dictionary.proofs.RowValues.{counted_next, counted_up}
use Rattle.dictionary.proofs.SpreadRows.{set_own, set_other}

values-reduced : (xs : List Frac) (c : ℕ) → IsReduced (value_at (ratios xs) c)
values-reduced [] c = whole-reduced (pos 0)
values-reduced (x ∷ xs) zero = (x.above, x.reduced)
values-reduced (x ∷ xs) (suc c) = values-reduced xs c

module _ (s : Scratch) where
  pub found_marked : (c : ℕ) → is_marked s.found c ≡ true → found_at s c ≡ value_at (ratios s.values.items) c
  unfolding found_at
  found_marked c e = ap (λ (b : Bool). cond b (value_at (ratios s.values.items) c) none) e

  pub found_unmarked : (c : ℕ) → is_marked s.found c ≡ false → found_at s c ≡ none
  unfolding found_at
  found_unmarked c e = ap (λ (b : Bool). cond b (value_at (ratios s.values.items) c) none) e

  -- an entry is a marked one
  pub found_has : (c : ℕ) → HasNumber (found_at s) c → is_marked s.found c ≡ true
  found_has c h = by (is_marked s.found c) refl
    where
      by : (b : Bool) → is_marked s.found c ≡ b → is_marked s.found c ≡ true
      by true e = e
      by false e = absurd (h (ap (λ (v : Ratio). v.num) (found_unmarked c e)))

  pub found_number : AreFound s → (c : ℕ) → is_marked s.found c ≡ true → HasNumber (found_at s) c
  found_number are c e z = are.nonzero c e (sym (ap (λ (v : Ratio). v.num) (found_marked c e)) ∙ z)

  pub found-reduced : (c : ℕ) → IsReduced (found_at s c)
  found-reduced c = by (is_marked s.found c) refl
    where
      by : (b : Bool) → is_marked s.found c ≡ b → IsReduced (found_at s c)
      by true e = subst (λ (v : Ratio). IsReduced v) (sym (found_marked c e)) (values-reduced s.values.items c)
      by false e = subst (λ (v : Ratio). IsReduced v) (sym (found_unmarked c e)) (whole-reduced (pos 0))

-- no value is marked
pub found_nothing : (s : Scratch) → ((c : ℕ) → is_marked s.found c ≡ false) → AreFound s
found_nothing s none_marked = record {
  inside = λ c h. absurd (false≢true (sym (none_marked c) ∙ h));
  nonzero = λ c h. absurd (false≢true (sym (none_marked c) ∙ h));
}

-- a column is given a value
module _ (s t : Scratch) (col : ℕ) (x : Frac) (inside : col + 1 < length s.values.items) (items : t.values.items ≡ set s.values.items col x) (own : is_marked t.found col ≡ not (nat_eq (unsigned_abs x.numer) 0)) (others : (c : ℕ) → (c ≡ col → ⊥) → is_marked t.found c ≡ is_marked s.found c) where
  value_own : value_at (ratios t.values.items) col ≡ ratio x
  value_own = ap (λ (xs : List Frac). value_at (ratios xs) col) items ∙ set_own s.values.items col x (omega arith)

  pub value_other : (c : ℕ) → (c ≡ col → ⊥) → value_at (ratios t.values.items) c ≡ value_at (ratios s.values.items) c
  value_other c d = ap (λ (xs : List Frac). value_at (ratios xs) c) items ∙ set_other s.values.items col c x d

  pub found_own : found_at t col ≡ ratio x
  found_own = by (is_marked t.found col) refl
    where
      zero_is : (y : Frac) → y.numer ≡ pos 0 → none ≡ ratio y
      zero_is y z = sym (zero_none (ratio y) (y.above, y.reduced) z)

      by : (b : Bool) → is_marked t.found col ≡ b → found_at t col ≡ ratio x
      by true e = found_marked t col e ∙ value_own
      by false e = found_unmarked t col e ∙ zero_is x (sized_zero x.numer (sym e ∙ own))

  pub found_other : (c : ℕ) → (c ≡ col → ⊥) → found_at t c ≡ found_at s c
  unfolding found_at
  found_other c d = ap₂ (λ (b : Bool) (v : Ratio). cond b v none) (others c d) (value_other c d)

  pub found_more : AreFound s → AreFound t
  found_more are = record {
    inside = λ c h. subst (λ k. c + 1 < k) (sym (ap length items ∙ length-set s.values.items col x)) (by_eq c col (λ e. omega arith) (λ d. are.inside c (sym (others c d) ∙ h)));
    nonzero = λ c h z. by_eq c col
        (λ e. nonzero_own (sym (ap (λ j. is_marked t.found j) e) ∙ h) (sym (ap (λ (v : Ratio). v.num) (ap (λ j. value_at (ratios t.values.items) j) e ∙ value_own)) ∙ z))
        (λ d. are.nonzero c (sym (others c d) ∙ h) (sym (ap (λ (v : Ratio). v.num) (value_other c d)) ∙ z));
  }
    where
      nonzero_own : is_marked t.found col ≡ true → x.numer ≡ pos 0 → ⊥
      nonzero_own h z = false≢true (sym (ap (λ (y : ℤ). not (nat_eq (unsigned_abs y) 0)) z) ∙ sym own ∙ h)

pub past_none : (from m : ℕ) (f : ℕ → Ratio) → ((c : ℕ) → from ≤ c → (f c).num ≡ pos 0) → nonzeros (from + m) f ≡ nonzeros from f
past_none from zero f z = ap (λ j. nonzeros j f) (let e : from + 0 ≡ from = omega arith in e)
past_none from (suc m) f z = subst (λ j. nonzeros j f ≡ nonzeros from f) (let e : suc (from + m) ≡ from + suc m = omega arith in e) (one (from + m) (past_none from m f z) (z (from + m) (omega arith)))
  where
    one : (j : ℕ) → nonzeros j f ≡ nonzeros from f → (f j).num ≡ pos 0 → nonzeros (suc j) f ≡ nonzeros from f
    one j r e = let u = ap (λ y. unless_zero y 1) e in omega (arith, r, u)

pub nonzeros_none : (k : ℕ) (f : ℕ → Ratio) → ((c : ℕ) → (f c).num ≡ pos 0) → nonzeros k f ≡ 0
nonzeros_none zero f z = refl
nonzeros_none (suc k) f z = let r = nonzeros_none k f z in let u = ap (λ y. unless_zero y 1) (z k) in omega (arith, r, u)

-- numbers up to a column and none from there on
pub nonzeros_cut : (k from : ℕ) (f g : ℕ → Ratio) → from ≤ k → ((c : ℕ) → c < from → f c ≡ g c) → ((c : ℕ) → from ≤ c → (f c).num ≡ pos 0) → nonzeros k f ≡ nonzeros from g
nonzeros_cut k from f g l same none_left =
    let e : from + (k - from) ≡ k = omega arith in
    subst (λ j. nonzeros j f ≡ nonzeros from f) e (past_none from (k - from) f none_left) ∙ below_same from f g same

-- what was found over a denominator holds of the row that begins over it
pub begun_over : {L : _} {G : _} (o : Option ℤ) (row : Row L G) (P : ℤ → Type 0) → HasRowForm o row → row.is_common ≡ true → IfSome o P → P row.denom
begun_over None row P h common over = absurd (false≢true (sym h ∙ common))
begun_over (Some d) row P h common over = subst P (sym h.1) over

-- a row that has the values found up to a column, and none from there on
module _ {L : _} {G : _} (row : Row L G) (s : Scratch) (from c : ℕ) (done : (j : ℕ) → j < from → numbers_of row j ≡ found_at s j) (rest : (j : ℕ) → from ≤ j → numbers_of row j ≡ none) (are : AreFound s) (first : IsFirst (is_marked s.found) from c) where
  pub entry_inside : c + 1 < length s.values.items
  entry_inside = are.inside c first.is

  pub counted_found : nonzeros (c + 1) (found_at s) ≡ nonzeros c (found_at s) + 1
  counted_found = counted_next c (found_at s) (found_number s are c first.is)

  up_to : (a b : ℕ) → a ≤ b → nonzeros a (found_at s) ≤ nonzeros b (found_at s)
  up_to a b l = let e : a + (b - a) ≡ b = omega arith in subst (λ m. nonzeros a (found_at s) ≤ nonzeros m (found_at s)) e (counted_up a (b - a) (found_at s))

  pub counted_before : nonzeros from (found_at s) ≤ nonzeros c (found_at s)
  counted_before = up_to from c first.later

  pub room_left : (k n : ℕ) → k ≡ length s.values.items → nonzeros (length s.values.items) (found_at s) ≤ n → nonzeros k (numbers_of row) < n
  room_left k n e l =
      let i = entry_inside in
      let f = first.later in
      let cut = nonzeros_cut k from (numbers_of row) (found_at s) (omega arith) done (λ j h. ap (λ (v : Ratio). v.num) (rest j h)) in
      let a = counted_before in
      let b = counted_found in
      let d = up_to (c + 1) (length s.values.items) (omega arith) in
      omega arith

  pub after_others : (j : ℕ) → HasNumber (numbers_of row) j → j < c
  after_others j h = by_lt j from (λ l. let f = first.later in omega arith) (λ l. absurd (h (ap (λ (v : Ratio). v.num) (rest j l))))

  -- with the value at that column
  module _ (new : Row L G) (own : numbers_of new c ≡ value_at (ratios s.values.items) c) (others : (j : ℕ) → (j ≡ c → ⊥) → numbers_of new j ≡ numbers_of row j) where
    pub done_next : (j : ℕ) → j < c + 1 → numbers_of new j ≡ found_at s j
    done_next j l = by_eq j c
        (λ e. ap (numbers_of new) e ∙ own ∙ sym (ap (found_at s) e ∙ found_marked s c first.is))
        (λ d. others j d ∙ by_lt j from (λ h. done j h) (λ h. rest j h ∙ sym (found_unmarked s j (first.first j h (omega arith)))))

    pub rest_next : (j : ℕ) → c + 1 ≤ j → numbers_of new j ≡ none
    rest_next j l = others j (λ e. omega arith) ∙ rest j (let f = first.later in omega arith)
