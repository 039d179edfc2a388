-- A row into which an entry is put after all others.
use Rattle.std.proofs.Common.{◌≡◌, ℕ, ◌+◌, ◌^◌, ◌<◌, ◌≤◌, inl, inr, ℤ, pos, ◌*ℤ◌, Bool, true, false, not, nat_eq, List, [], ◌∷◌, ◌++◌, length, arith, refl, sym, ◌∙◌, ap, subst}
use Rattle.std.specs.Prelude.{unsigned_abs, slice_index_or}
use Rattle.std.proofs.lemmas.Bool.{false≢true}
use Rattle.rational.specs.Ratio.{Ratio, sum}
use Rattle.rational.proofs.Scaling.{times-times}
use Rattle.fraction.specs.Frac.{ratio}
use Rattle.fraction.specs.declared.frac.Frac.{Frac}
use Rattle.evidence.specs.Sums.{none}
use Rattle.evidence.proofs.Columns.{by_eq}
use Rattle.evidence.proofs.Numbers.{sum-none, none-sum}
use Rattle.marks.specs.Marks.{is_marked, size_of}
use Rattle.dictionary.specs.Lowest.{lowest}
use Rattle.dictionary.proofs.Lowest.{lowest-of}
use Rattle.dictionary.specs.declared.fractions.Item.{Item}
use Rattle.dictionary.specs.declared.row.Row.{Row}
use Rattle.dictionary.specs.Row.{entries_of, room_of, number_in, IsFrom, IsSparseRow, HasColumn}
use Rattle.dictionary.specs.Numbers.{words_over, HasNumber, IsNumberOver}
use Rattle.dictionary.specs.Rows.{numbers_of, IsRow, IsCleared}
use Rattle.dictionary.proofs.Rows.{from_high, from_append, no_item, own_item, none_there}
use Rattle.dictionary.proofs.Sums.{number-append}
use Rattle.dictionary.proofs.RowForms.{fraction_number, has_nonzero, sized_zero}

-- a number over a denominator has the fraction as its lowest terms
pub over_is : (x : Frac) (d : ℕ) (n : ℤ) → 0 < d → IsNumberOver d (ratio x) n → ratio x ≡ lowest n d
over_is x d n up o =
    let v = o.over in
    let same : x.numer *ℤ pos d ≡ n *ℤ pos x.denom = ap (λ k. x.numer *ℤ pos k) (sym v.is) ∙ sym (times-times x.numer v.times x.denom) ∙ ap (λ z. z *ℤ pos x.denom) (sym o.is) in
    lowest-of (ratio x) n d up (x.above, x.reduced) same

-- ascending columns that are all below one
from_below : (low high : ℕ) (xs : List Item) (c : ℕ) → IsFrom low high xs → low ≤ c → ((j : ℕ) → HasColumn xs j → j < c) → IsFrom low c xs
from_below low high [] c h l below = l
from_below low high (x ∷ xs) c h l below = (h.0, h.1, from_below (x.col + 1) high xs c h.2 (let b = below x.col (inl refl) in omega arith) (λ j g. below j (inr g)))

pub is_number : (z : ℤ) → (z ≡ pos 0 → ⊥) → not (nat_eq (unsigned_abs z) 0) ≡ true
is_number z h = by (not (nat_eq (unsigned_abs z) 0)) refl
  where
    by : (b : Bool) → not (nat_eq (unsigned_abs z) 0) ≡ b → not (nat_eq (unsigned_abs z) 0) ≡ true
    by true e = e
    by false e = absurd (h (sized_zero z (sym e)))

-- a fraction after all others
module _ {L : _} {G : _} (row new : Row L G) (x : Item) (apart : row.is_common ≡ false) (stays : new.is_common ≡ false) (items : entries_of new.fractions ≡ entries_of row.fractions ++ x ∷ []) (k n : ℕ) (is : IsRow k n row) (after : (c : ℕ) → HasNumber (numbers_of row) c → c < x.col) where
  below : (c : ℕ) → HasColumn (entries_of row.fractions) c → c < x.col
  below c h = after c (λ z. has_nonzero 0 (2 ^ 32) (entries_of row.fractions) c (is.ascending apart) h (sym (ap (λ (v : Ratio). v.num) (fraction_number row apart c)) ∙ z))

  more_is : (c : ℕ) → numbers_of new c ≡ sum (number_in (entries_of row.fractions) c) (number_in (x ∷ []) c)
  more_is c = fraction_number new stays c ∙ ap (λ (xs : List Item). number_in xs c) items ∙ number-append (entries_of row.fractions) (x ∷ []) c

  pub put_own : numbers_of new x.col ≡ ratio x.value
  put_own =
      let left = none_there (entries_of row.fractions) x.col (λ h. let l = below x.col h in omega arith) in
      more_is x.col ∙ ap (λ (v : Ratio). sum v (number_in (x ∷ []) x.col)) left ∙ none-sum (number_in (x ∷ []) x.col) ∙ sum-none _ ∙ own_item x x.col refl

  pub put_other : (c : ℕ) → (c ≡ x.col → ⊥) → numbers_of new c ≡ numbers_of row c
  put_other c d =
      let right : number_in (x ∷ []) c ≡ none = sum-none _ ∙ no_item x c (λ e. d (sym e)) in
      more_is c ∙ ap (λ (v : Ratio). sum (number_in (entries_of row.fractions) c) v) right ∙ sum-none (number_in (entries_of row.fractions) c) ∙ sym (fraction_number row apart c)

  pub put_row : (x.value.numer ≡ pos 0 → ⊥) → x.col + 1 < k → x.col < 2 ^ 32 → new.numers.items ≡ row.numers.items → new.size ≡ row.size → size_of new.marks ≡ size_of row.marks → is_marked new.marks x.col ≡ true → ((c : ℕ) → (c ≡ x.col → ⊥) → is_marked new.marks c ≡ is_marked row.marks c) → room_of new.fractions ≡ room_of row.fractions → IsRow k n new
  put_row nonzero inside narrow numers size words own others room = record {
    count = ap length numers ∙ is.count;
    columns = words ∙ is.columns;
    small = let s = is.small in omega arith;
    marked = λ c. by_eq c x.col
        (λ e. ap (is_marked new.marks) e ∙ own ∙ sym (ap (λ (v : Ratio). not (nat_eq (unsigned_abs v.num) 0)) (ap (numbers_of new) e ∙ put_own) ∙ is_number x.value.numer nonzero))
        (λ d. others c d ∙ is.marked c ∙ ap (λ (v : Ratio). not (nat_eq (unsigned_abs v.num) 0)) (sym (put_other c d)));
    inside = λ c h. by_eq c x.col (λ e. omega arith) (λ d. is.inside c (sym (others c d) ∙ h));
    empty = λ c h. rw numers (by_eq c x.col (λ e. absurd (false≢true (sym h ∙ ap (is_marked new.marks) e ∙ own))) (λ d. is.empty c (sym (others c d) ∙ h)));
    within = λ c. rw numers (rw size (is.within c));
    ascending = λ h. subst (λ (xs : List Item). IsSparseRow xs) (sym items) (from_high 0 (x.col + 1) (2 ^ 32) (entries_of row.fractions ++ x ∷ []) (omega arith) (from_append 0 x.col (entries_of row.fractions) x (omega arith) nonzero (from_below 0 (2 ^ 32) (entries_of row.fractions) x.col (is.ascending apart) (omega arith) below)));
    room = room ∙ is.room;
  }

-- a row that was cleared has no marks and no numbers
pub cleared_unmarked : {L : _} {G : _} (row : Row L G) (k n : ℕ) → IsCleared k n row → (c : ℕ) → is_marked row.marks c ≡ false
cleared_unmarked row k n h c = let r = h.is in r.marked c ∙ ap (λ (v : Ratio). not (nat_eq (unsigned_abs v.num) 0)) (h.none c)

pub cleared_zero : {L : _} {G : _} (row : Row L G) (k n : ℕ) → IsCleared k n row → (c : ℕ) → slice_index_or row.numers.items c (pos 0) ≡ pos 0
cleared_zero row k n h c = let r = h.is in r.empty c (cleared_unmarked row k n h c)

-- a row that begins as fractions
module _ {L : _} {G : _} (new : Row L G) (apart : new.is_common ≡ false) (empty : entries_of new.fractions ≡ []) where
  pub fresh_none : (c : ℕ) → numbers_of new c ≡ none
  fresh_none c = fraction_number new apart c ∙ ap (λ (xs : List Item). number_in xs c) empty

  pub fresh_row : (k n : ℕ) → length new.numers.items ≡ k → size_of new.marks ≡ words_over k → new.size < 2 ^ 63 → ((c : ℕ) → is_marked new.marks c ≡ false) → ((c : ℕ) → slice_index_or new.numers.items c (pos 0) ≡ pos 0) → room_of new.fractions ≡ n → IsRow k n new
  fresh_row k n count columns small unmarked zeros room = record {
    count = count;
    columns = columns;
    small = small;
    marked = λ c. unmarked c ∙ sym (ap (λ (v : Ratio). not (nat_eq (unsigned_abs v.num) 0)) (fresh_none c));
    inside = λ c h. absurd (false≢true (sym (unmarked c) ∙ h));
    empty = λ c h. zeros c;
    within = λ c. subst (λ (z : ℤ). unsigned_abs z ≤ new.size) (sym (zeros c)) (omega arith);
    ascending = λ h. subst (λ (xs : List Item). IsSparseRow xs) (sym empty) (omega arith);
    room = room;
  }
