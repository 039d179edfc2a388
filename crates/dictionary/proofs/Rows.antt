-- Rows by ascending columns.
use Rattle.std.proofs.Common.{◌≡◌, ℕ, ◌+◌, ◌*◌, ◌/◌, ◌<◌, ◌≤◌, ◌⊎◌, inl, inr, zero, suc, ℤ, pos, negsuc, ◌+ℤ◌, ◌*ℤ◌, List, [], ◌∷◌, ◌++◌, arith, refl, sym, ◌∙◌, ap, ap₂, subst}
use Rattle.std.specs.Prelude.{unsigned_abs}
use Rattle.std.specs.Int.{IsGcd, ◌∣◌}
use Rattle.std.proofs.Math.Nat.{eq-one_of_dvd-one}
use Rattle.std.proofs.Math.IntN.{zero-*ℤ, *ℤ_comm}
use Rattle.std.proofs.lemmas.Bool.{eq-eqb, ne_eqb}
use Rattle.std.proofs.lemmas.Int.{ints}
use Rattle.rational.specs.Ratio.{Ratio, whole, sum, product, IsNumber, IsSame}
use Rattle.rational.specs.Width.{most, IsWithin, ReducedFits, SumFits, AreFourWithin}
use Rattle.rational.proofs.Scaling.{IsSame-trans}
use Rattle.rational.proofs.ReducedForms.{same_reduced}
use Rattle.fraction.specs.Frac.{ratio}
use Rattle.fraction.specs.declared.frac.Frac.{Frac}
use Rattle.evidence.specs.Sums.{none}
use Rattle.evidence.specs.Width.{TermFits}
use Rattle.evidence.proofs.Columns.{none-number, by_eq}
use Rattle.evidence.proofs.Fits.{whole-reduced}
use Rattle.evidence.proofs.Numbers.{sum-none, none-sum, product-number}
use Rattle.dictionary.specs.declared.fractions.Item.{Item}
use Rattle.dictionary.specs.Row.{item_at, number_in, IsFrom, HasColumn}

-- a fraction's number fits, in each of its forms
pub made_fits : (f : Frac) (x : Ratio) → IsNumber x → IsSame (ratio f) x → ReducedFits x
made_fits f x p e = record { number = p; form = ratio f; same = e; reduced = (f.above, f.reduced); within = (f.numer_within, f.denom_within) }

zero_four : (q : Ratio) (g h : ℕ) → IsWithin q → g ≡ 1 → h ≡ 1 → AreFourWithin (whole (pos 0)) q g h
zero_four q g h w eg eh = rw eg (rw eh (record {
  left = subst (λ (z : ℤ). unsigned_abs z ≤ most) (sym (zero-*ℤ (pos (q.den / 1)))) (omega arith);
  right = subst (λ (z : ℤ). unsigned_abs z ≤ most) one w.0;
  total = subst (λ (z : ℤ). unsigned_abs z ≤ most) both w.0;
  below = subst (λ k. k ≤ most) den w.1;
}))
  where
    one : q.num ≡ q.num *ℤ pos (1 / 1)
    one = omega (arith, ints)

    both : q.num ≡ pos 0 *ℤ pos (q.den / 1) +ℤ q.num *ℤ pos (1 / 1)
    both = let z = zero-*ℤ (pos (q.den / 1)) in omega (arith, ints)

    den : q.den ≡ 1 / 1 * (q.den / 1)
    den = omega arith

-- 0 and a number that fits have a sum that fits
pub zero_fits : (x : Ratio) → ReducedFits x → SumFits none x
zero_fits x fits = record {
  left = none-number;
  right = fits.number;
  by = λ p q rp rq sp sq g h eg eh.
      let ep : p ≡ whole (pos 0) = same_reduced p (whole (pos 0)) rp (whole-reduced (pos 0)) sp in
      let eq : fits.form ≡ q = sym (same_reduced q fits.form rq fits.reduced (IsSame-trans q x fits.form fits.number sq (sym fits.same))) in
      let w : IsWithin q = subst (λ (r : Ratio). IsWithin r) eq fits.within in
      let g1 : g ≡ 1 = eq-one_of_dvd-one (subst (λ (r : Ratio). IsGcd r.den q.den g) ep eg).0 in
      let h1 : h ≡ 1 = eq-one_of_dvd-one (subst (λ k. h ∣ k) g1 eh.1) in
      subst (λ (r : Ratio). AreFourWithin r q g h) (sym ep) (zero_four q g h w g1 h1);
}

-- no product is made where the other row has nothing
pub term_none : (s f : Ratio) → TermFits s f none
term_none s f = record { term = λ a b. absurd (b refl); sum = λ a b. absurd (b refl) }

-- where the row has nothing, the product alone has to fit
pub term_first : (f x : Ratio) → ReducedFits (product f x) → TermFits none f x
term_first f x fits = record { term = λ a b. fits; sum = λ a b. zero_fits (product f x) fits }

pub from_order : (low high : ℕ) (xs : List Item) → IsFrom low high xs → low ≤ high
from_order low high [] h = h
from_order low high (x ∷ xs) h = let g = from_order (x.col + 1) high xs h.2 in let k = h.0 in omega arith

pub from_low : (low less high : ℕ) (xs : List Item) → less ≤ low → IsFrom low high xs → IsFrom less high xs
from_low low less high [] l h = omega arith
from_low low less high (x ∷ xs) l h = (let k = h.0 in omega arith, h.1, h.2)

pub from_high : (low high more : ℕ) (xs : List Item) → high ≤ more → IsFrom low high xs → IsFrom low more xs
from_high low high more [] l h = omega arith
from_high low high more (x ∷ xs) l h = (h.0, h.1, from_high (x.col + 1) high more xs l h.2)

pub from_append : (low mid : ℕ) (xs : List Item) (z : Item) → mid ≤ z.col → (z.value.numer ≡ pos 0 → ⊥) → IsFrom low mid xs → IsFrom low (z.col + 1) (xs ++ z ∷ [])
from_append low mid [] z l n h = (omega arith, n, omega arith)
from_append low mid (x ∷ xs) z l n h = (h.0, h.1, from_append (x.col + 1) mid xs z l n h.2)

pub no_item : (x : Item) (c : ℕ) → (x.col ≡ c → ⊥) → item_at x c ≡ none
no_item x c h = rw (ne_eqb x.col c h) refl

pub own_item : (x : Item) (c : ℕ) → x.col ≡ c → item_at x c ≡ ratio x.value
own_item x c h = rw (eq-eqb x.col c h) refl

-- another column's number is that of the rest
pub number_rest : (x : Item) (xs : List Item) (c : ℕ) → (x.col ≡ c → ⊥) → number_in (x ∷ xs) c ≡ number_in xs c
number_rest x xs c h = ap (λ v. sum v (number_in xs c)) (no_item x c h) ∙ none-sum (number_in xs c)

pub none_below : (c low high : ℕ) (xs : List Item) → c < low → IsFrom low high xs → number_in xs c ≡ none
none_below c low high [] l h = refl
none_below c low high (x ∷ xs) l h = let k = h.0 in number_rest x xs c (λ e. omega arith) ∙ none_below c (x.col + 1) high xs (omega arith) h.2

-- the first entry's number is the row's at its column
pub number_head : (x : Item) (xs : List Item) (low high : ℕ) → IsFrom low high (x ∷ xs) → number_in (x ∷ xs) x.col ≡ ratio x.value
number_head x xs low high h = ap₂ (λ v w. sum v w) (own_item x x.col refl) (none_below x.col (x.col + 1) high xs (omega arith) h.2) ∙ sum-none (ratio x.value)

pub has_append : (xs ys : List Item) (c : ℕ) → HasColumn (xs ++ ys) c → HasColumn xs c ⊎ HasColumn ys c
has_append [] ys c h = inr h
has_append (x ∷ xs) ys c (inl e) = inl (inl e)
has_append (x ∷ xs) ys c (inr h) = in_rest (has_append xs ys c h)
  where
    in_rest : HasColumn xs c ⊎ HasColumn ys c → HasColumn (x ∷ xs) c ⊎ HasColumn ys c
    in_rest (inl a) = inl (inr a)
    in_rest (inr b) = inr b

pub has_above : (low high : ℕ) (xs : List Item) (c : ℕ) → IsFrom low high xs → HasColumn xs c → low ≤ c
has_above low high [] c h g = elim g [ ]
has_above low high (x ∷ xs) c h (inl e) = let k = h.0 in omega arith
has_above low high (x ∷ xs) c h (inr g) = let k = h.0 in let l = has_above (x.col + 1) high xs c h.2 g in omega arith

-- a column has an entry, or the number 0
pub has_or_none : (xs : List Item) (c : ℕ) → HasColumn xs c ⊎ (number_in xs c ≡ none)
has_or_none [] c = inr refl
has_or_none (x ∷ xs) c = by_eq x.col c (λ e. inl (inl e)) (λ d. further d (has_or_none xs c))
  where
    further : (x.col ≡ c → ⊥) → HasColumn xs c ⊎ (number_in xs c ≡ none) → HasColumn (x ∷ xs) c ⊎ (number_in (x ∷ xs) c ≡ none)
    further d (inl h) = inl (inr h)
    further d (inr e) = inr (number_rest x xs c d ∙ e)

pub none_there : (xs : List Item) (c : ℕ) → (HasColumn xs c → ⊥) → number_in xs c ≡ none
none_there xs c h = which (has_or_none xs c)
  where
    which : HasColumn xs c ⊎ (number_in xs c ≡ none) → number_in xs c ≡ none
    which (inl a) = absurd (h a)
    which (inr e) = e

-- 0 fits, in whatever form
pub zero_fit : (x : Ratio) → IsNumber x → x.num ≡ pos 0 → ReducedFits x
zero_fit x p e = record {
  number = p;
  form = none;
  same = zero-*ℤ (pos x.den) ∙ sym (ap (λ (z : ℤ). z *ℤ pos 1) e ∙ zero-*ℤ (pos 1));
  reduced = whole-reduced (pos 0);
  within = (omega arith, omega arith);
}

pub zero_or : (z : ℤ) → (z ≡ pos 0) ⊎ (z ≡ pos 0 → ⊥)
zero_or (pos zero) = inl refl
zero_or (pos (suc n)) = inr (λ e. omega (arith, ints))
zero_or (negsuc n) = inr (λ e. omega (arith, ints))

-- a product that fits where the second factor isn't 0 fits
pub term_fits : (f x : Ratio) → IsNumber f → IsNumber x → ((x.num ≡ pos 0 → ⊥) → ReducedFits (product f x)) → ReducedFits (product f x)
term_fits f x pf px t = which (zero_or x.num)
  where
    which : (x.num ≡ pos 0) ⊎ (x.num ≡ pos 0 → ⊥) → ReducedFits (product f x)
    which (inl e) = zero_fit (product f x) (product-number f x pf px) (ap (λ (z : ℤ). f.num *ℤ z) e ∙ *ℤ_comm f.num (pos 0) ∙ zero-*ℤ f.num)
    which (inr d) = t d
