-- Columns that are given values, one after another.
use Rattle.std.proofs.Common.{◌≡◌, ℕ, ◌+◌, ◌<◌, ◌≤◌, ◌⊎◌, inr, pos, ◌*ℤ◌, Bool, true, false, cond, arith, refl, sym, ◌∙◌, ap, subst}
use Rattle.std.proofs.Math.IntN.{zero-*ℤ, *ℤ_comm}
use Rattle.rational.specs.Ratio.{Ratio, sum, product, IsNumber, IsSame}
use Rattle.rational.specs.Width.{ReducedFits}
use Rattle.fraction.specs.Frac.{ratio}
use Rattle.fraction.specs.declared.frac.Frac.{Frac}
use Rattle.evidence.specs.Sums.{none}
use Rattle.evidence.specs.Width.{TermFits}
use Rattle.evidence.proofs.Columns.{by_eq, by_lt, none-number}
use Rattle.evidence.proofs.Numbers.{product-number}
use Rattle.instance.proofs.Terms.{nothing_added}
use Rattle.marks.specs.Marks.{is_marked}
use Rattle.marks.specs.Words.{IsFirst, HasNone}
use Rattle.dictionary.specs.declared.row.Row.{Row}
use Rattle.dictionary.specs.declared.scratch.Scratch.{Scratch}
use Rattle.dictionary.specs.Numbers.{HasNumber}
use Rattle.dictionary.specs.Rows.{numbers_of, either_at, entries_at, IsRow, IsReplacedBy, ReplacementFits, HasRoomFor}
use Rattle.dictionary.specs.Scratch.{found_at, AreFound}
use Rattle.dictionary.specs.Steps.{nonzeros}
use Rattle.dictionary.proofs.Rows.{made_fits, term_none, zero_fit}
use Rattle.dictionary.proofs.RowForms.{marked_has, none_unmarked}
use Rattle.dictionary.proofs.RowValues.{no_product}
use Rattle.dictionary.proofs.Changes.{either_false}

-- up to a column each that passes a test has the value that it is to have, and others none
pub record IsFilled (s : Scratch) (test : ℕ → Bool) (P : ℕ → Ratio → Type 0) (from : ℕ) : Type 0 where
  pub found : AreFound s
  pub done : (c : ℕ) → c < from → P c (found_at s c)
  pub rest : (c : ℕ) → from ≤ c → found_at s c ≡ none
  pub stands : (c : ℕ) → HasNumber (found_at s) c → test c ≡ true

pub filled_none : (s : Scratch) (test : ℕ → Bool) (P : ℕ → Ratio → Type 0) → ((c : ℕ) → found_at s c ≡ none) → AreFound s → IsFilled s test P 0
filled_none s test P empty found = record {
  found = found;
  done = λ c l. absurd (omega arith);
  rest = λ c l. empty c;
  stands = λ c h. absurd (h (ap (λ (v : Ratio). v.num) (empty c)));
}

module _ (s : Scratch) (test : ℕ → Bool) (P : ℕ → Ratio → Type 0) (from : ℕ) (i : IsFilled s test P from) (passed : (c : ℕ) → test c ≡ false → P c none) where
  skipped : (c : ℕ) → from ≤ c → test c ≡ false → P c (found_at s c)
  skipped c l e = subst (P c) (sym (i.rest c l)) (passed c e)

  pub filled_next : (t : Scratch) (c : ℕ) (v : Ratio) → IsFirst test from c → found_at t c ≡ v → ((j : ℕ) → (j ≡ c → ⊥) → found_at t j ≡ found_at s j) → (AreFound s → AreFound t) → P c v → IsFilled t test P (c + 1)
  filled_next t c v first own others found told = record {
    found = found i.found;
    done = λ j l. by_eq j c
        (λ e. subst (λ k. P k (found_at t k)) (sym e) (subst (P c) (sym own) told))
        (λ d. subst (P j) (sym (others j d)) (by_lt j from (λ h. i.done j h) (λ h. skipped j h (first.first j h (omega arith)))));
    rest = λ j l. others j (λ e. omega arith) ∙ i.rest j (let h = first.later in omega arith);
    stands = λ j h. by_eq j c
        (λ e. ap test e ∙ first.is)
        (λ d. i.stands j (λ z. h (ap (λ (w : Ratio). w.num) (others j d) ∙ z)));
  }

  pub filled_all : HasNone test from → (c : ℕ) → P c (found_at s c)
  filled_all none_left c = by_lt c from (λ h. i.done c h) (λ h. skipped c h (none_left c h))

-- the value at a column of a row's values
pub spread_value : {L : _} {G : _} (row : Row L G) (k n c : ℕ) (x v w : Ratio) → IsRow k n row → x ≡ cond (is_marked row.marks c) v none → v ≡ w → (HasNumber (numbers_of row) c → w ≡ numbers_of row c) → x ≡ numbers_of row c
unfolding entries_at
spread_value row k n c x v w is e kept told = by (is_marked row.marks c) refl
  where
    by : (b : Bool) → is_marked row.marks c ≡ b → x ≡ numbers_of row c
    by true t = e ∙ ap (λ (b : Bool). cond b v none) t ∙ kept ∙ told (marked_has row k n is c t)
    by false t = e ∙ ap (λ (b : Bool). cond b v none) t ∙ sym (none_unmarked row k n is c t)

-- a product, and a sum with one, but for a column
abbrev pub IsProductAt : (ℕ → Ratio) → Ratio → ℕ → ℕ → Ratio → Type 0
IsProductAt row f skip c x = (c ≡ skip → x ≡ none) × ((c ≡ skip → ⊥) → IsSame x (product f (row c)) × ReducedFits (product f (row c)))

abbrev pub IsSumAt : (ℕ → Ratio) → (ℕ → Ratio) → Ratio → ℕ → ℕ → Ratio → Type 0
IsSumAt row by f skip c x = (c ≡ skip → x ≡ none) × ((c ≡ skip → ⊥) → IsSame x (sum (row c) (product f (by c))) × TermFits (row c) f (by c))

zero_product : (f : Ratio) → (product f none).num ≡ pos 0
zero_product f = *ℤ_comm f.num (pos 0) ∙ zero-*ℤ f.num

pub product_none : {L : _} {G : _} (row : Row L G) (k n : ℕ) → IsRow k n row → (f : Ratio) → IsNumber f → (skip c : ℕ) → is_marked row.marks c ≡ false → IsProductAt (numbers_of row) f skip c none
unfolding entries_at
product_none row k n is f number skip c e = subst (λ (v : Ratio). (c ≡ skip → none ≡ none) × ((c ≡ skip → ⊥) → IsSame none (product f v) × ReducedFits (product f v))) (sym (none_unmarked row k n is c e))
    (λ h. refl, λ h. (zero-*ℤ (pos (product f none).den) ∙ sym (ap (λ z. z *ℤ pos 1) (zero_product f) ∙ zero-*ℤ (pos 1)), zero_fit (product f none) (product-number f none number none-number) (zero_product f)))

pub sum_none : {L : _} {G : _} (row by : Row L G) (k n : ℕ) → IsRow k n row → IsRow k n by → (f : Ratio) → (skip c : ℕ) → either_at row by c ≡ false → IsSumAt (numbers_of row) (numbers_of by) f skip c none
unfolding entries_at
sum_none row by k n is is_by f skip c e =
    let both = either_false (is_marked row.marks c) (is_marked by.marks c) e in
    subst (λ (v : Ratio). (c ≡ skip → none ≡ none) × ((c ≡ skip → ⊥) → IsSame none (sum v (product f (numbers_of by c))) × TermFits v f (numbers_of by c))) (sym (none_unmarked row k n is c both.0))
    (subst (λ (v : Ratio). (c ≡ skip → none ≡ none) × ((c ≡ skip → ⊥) → IsSame none (sum none (product f v)) × TermFits none f v)) (sym (none_unmarked by k n is_by c both.1))
    (λ h. refl, λ h. (nothing_added none f none (inr refl), term_none none f)))

-- what was taken of one column
pub product_told : (row : ℕ → Ratio) (f v x : Frac) (skip c : ℕ) → ratio x ≡ row c → (c ≡ skip → ratio v ≡ none) → ((c ≡ skip → ⊥) → IsSame (ratio v) (product (ratio f) (ratio x))) → IsProductAt row (ratio f) skip c (ratio v)
product_told row f v x skip c e gone is = (
  gone,
  λ d.
      let number : IsNumber (product (ratio f) (row c)) = subst (λ (y : Ratio). IsNumber (product (ratio f) y)) e (product-number (ratio f) (ratio x) f.above x.above) in
      let same : IsSame (ratio v) (product (ratio f) (row c)) = subst (λ (y : Ratio). IsSame (ratio v) (product (ratio f) y)) e (is d) in
      (same, made_fits v (product (ratio f) (row c)) number same),
)

pub sum_told : (row by : ℕ → Ratio) (f v x y : Frac) (skip c : ℕ) → ratio x ≡ row c → ratio y ≡ by c → (c ≡ skip → ratio v ≡ none) → ((c ≡ skip → ⊥) → IsSame (ratio v) (sum (ratio x) (product (ratio f) (ratio y)))) → ((c ≡ skip → ⊥) → TermFits (ratio x) (ratio f) (ratio y)) → IsSumAt row by (ratio f) skip c (ratio v)
sum_told row by f v x y skip c ex ey gone is fits =
    subst (λ (p : Ratio). (c ≡ skip → ratio v ≡ none) × ((c ≡ skip → ⊥) → IsSame (ratio v) (sum p (product (ratio f) (by c))) × TermFits p (ratio f) (by c))) ex
    (subst (λ (q : Ratio). (c ≡ skip → ratio v ≡ none) × ((c ≡ skip → ⊥) → IsSame (ratio v) (sum (ratio x) (product (ratio f) q)) × TermFits (ratio x) (ratio f) q)) ey
    (gone, λ d. (is d, fits d)))

-- a row replaced by the values found
module _ (row by found out : ℕ → Ratio) (skip : ℕ) (f : Frac) (is_f : ratio f ≡ row skip) (none_in : (by skip).num ≡ pos 0) where
  pub found_replaced : found skip ≡ none → ((c : ℕ) → (c ≡ skip → ⊥) → IsSame (found c) (sum (row c) (product (ratio f) (by c)))) → ((c : ℕ) → out c ≡ found c) → IsReplacedBy row by skip out
  found_replaced gone is same = record {
    gone = same skip ∙ gone;
    others = λ c d. subst (λ (v : Ratio). IsSame v (sum (row c) (product (row skip) (by c)))) (sym (same c)) (subst (λ (v : Ratio). IsSame (found c) (sum (row c) (product v (by c)))) is_f (is c d));
  }

  pub found_fit : ((c : ℕ) → (c ≡ skip → ⊥) → TermFits (row c) (ratio f) (by c)) → ReplacementFits row by skip
  found_fit fits = record {
    terms = λ c. by_eq c skip
        (λ e. subst (λ j. TermFits (row j) (row skip) (by j)) (sym e) (no_product (row skip) (row skip) (by skip) (inr none_in)))
        (λ d. subst (λ (v : Ratio). TermFits (row c) v (by c)) is_f (fits c d));
  }

  pub found_wide : (((c : ℕ) → (c ≡ skip → ⊥) → TermFits (row c) (ratio f) (by c)) → ⊥) → ReplacementFits row by skip → ⊥
  found_wide wide fits = wide (λ c d. subst (λ (v : Ratio). TermFits (row c) v (by c)) (sym is_f) (fits.terms c))

-- values that were found only where one of two rows has one, and not at a column, have room where the rows' replacement has
pub found_room : (k n skip : ℕ) (row by found : ℕ → Ratio) → found skip ≡ none → ((c : ℕ) → HasNumber found c → HasNumber row c ⊎ HasNumber by c) → HasRoomFor k row by skip n → nonzeros k found ≤ n
found_room k n skip row by found gone stands room = room found (λ c h. ((λ e. h (ap (λ (v : Ratio). v.num) (ap found e ∙ gone))), stands c h))
