-- A row solved by its fractions: 1/pivot at the column that comes in, and the row times -1/pivot.
use Rattle.std.proofs.Common.{◌≡◌, ℕ, pos, arith, lit<, refl, sym, ◌∙◌, ap, subst}
use Rattle.rational.specs.Ratio.{Ratio, whole, product, quotient, negative, inverse, IsNumber, IsSame}
use Rattle.rational.specs.Width.{ReducedFits}
use Rattle.rational.proofs.Integers.{neg-times}
use Rattle.rational.proofs.ReducedForms.{one_number}
use Rattle.fraction.specs.Frac.{ratio}
use Rattle.fraction.specs.declared.frac.Frac.{Frac}
use Rattle.evidence.specs.Sums.{none}
use Rattle.evidence.proofs.Columns.{by_eq}
use Rattle.evidence.proofs.Fits.{whole-reduced, reduced_same}
use Rattle.evidence.proofs.Numbers.{◌≈◌, ≈-refl, ≈-from, ≈-sym, ◌⊙◌, ◌▹◌, product-≈, product-number, product-one, product_swap}
use Rattle.evidence.proofs.Inverses.{inverse-number, product-inverse, negative-≈, negative-negative}
use Rattle.dictionary.specs.Numbers.{HasNumber}
use Rattle.dictionary.specs.Rows.{IsSolvedFor, SolutionFits}
use Rattle.dictionary.proofs.Rows.{made_fits}
use Rattle.dictionary.proofs.SolvedNumbers.{neg_fits}

-- one fits
one_fits : ReducedFits (whole (pos 1))
one_fits = record { number = lit< tt; form = whole (pos 1); same = refl; reduced = whole-reduced (pos 1); within = (omega arith, omega arith) }

-- a number divided by itself does
pub own_fits : (t : Ratio) → IsNumber t → (t.num ≡ pos 0 → ⊥) → ReducedFits (quotient t t)
own_fits t number nonzero = let one = ≈-sym (product-inverse t number nonzero) in reduced_same (whole (pos 1)) (quotient t t) one.right one.is one_fits

-- i is one over the row's number at e, and f its negative
module _ (row : ℕ → Ratio) (e : ℕ) (number : (c : ℕ) → IsNumber (row c)) (stands : HasNumber row e) (i f : Frac) (inverse_is : IsSame (ratio i) (quotient (whole (pos 1)) (row e))) (factor_is : ratio f ≡ negative (ratio i)) where
  near : ratio i ≈ inverse (row e)
  near = record { left = i.above; right = inverse-number (row e) stands; is = subst (λ (v : Ratio). IsSame (ratio i) v) (product-one (inverse (row e))) inverse_is }

  scaled : (x : Ratio) → IsNumber x → product (ratio f) x ≈ negative (quotient x (row e))
  scaled x px =
      let same : product (ratio f) x ≡ negative (product (ratio i) x) = ap (λ (v : Ratio). product v x) factor_is ∙ one_number (product (negative (ratio i)) x) (negative (product (ratio i) x)) (neg-times i.numer x.num) refl in
      ≈-from (product-number (ratio f) x f.above px) same ⊙ negative-≈ (product-≈ near (≈-refl px)) ▹ ap negative (product_swap (inverse (row e)) x)

  to_quotient : (x : Ratio) → IsNumber x → ReducedFits (product (ratio f) x) → ReducedFits (quotient x (row e))
  to_quotient x px fits =
      let s = scaled x px in
      subst (λ (v : Ratio). ReducedFits v) (negative-negative (quotient x (row e))) (neg_fits (negative (quotient x (row e))) (reduced_same (product (ratio f) x) (negative (quotient x (row e))) s.right s.is fits))

  to_product : (x : Ratio) → IsNumber x → ReducedFits (quotient x (row e)) → ReducedFits (product (ratio f) x)
  to_product x px fits =
      let s = scaled x px in
      let b = ≈-sym s in
      reduced_same (negative (quotient x (row e))) (product (ratio f) x) s.left b.is (neg_fits (quotient x (row e)) fits)

  pub fractions_solved : (out : ℕ → Ratio) (b : ℕ) → ((c : ℕ) → IsNumber (out c)) → out e ≡ none → out b ≡ ratio i → ((c : ℕ) → (c ≡ e → ⊥) → (c ≡ b → ⊥) → IsSame (out c) (product (ratio f) (row c))) → IsSolvedFor row b e out
  fractions_solved out b numbers gone own others = record {
    gone = gone;
    own = subst (λ (v : Ratio). IsSame v (quotient (whole (pos 1)) (row e))) (sym own) inverse_is;
    others = λ c d n.
        let here : out c ≈ product (ratio f) (row c) = record { left = numbers c; right = product-number (ratio f) (row c) f.above (number c); is = others c d n } in
        let all = here ⊙ scaled (row c) (number c) in
        all.is;
  }

  pub fractions_fit : ((c : ℕ) → (c ≡ e → ⊥) → ReducedFits (product (ratio f) (row c))) → SolutionFits row e
  fractions_fit fits = record {
    lead = made_fits i (quotient (whole (pos 1)) (row e)) (product-number (whole (pos 1)) (inverse (row e)) (lit< tt) (inverse-number (row e) stands)) inverse_is;
    terms = λ c. by_eq c e
        (λ h. subst (λ j. ReducedFits (quotient (row j) (row e))) (sym h) (own_fits (row e) (number e) stands))
        (λ d. to_quotient (row c) (number c) (fits c d));
  }

  pub fractions_wide : (((c : ℕ) → (c ≡ e → ⊥) → ReducedFits (product (ratio f) (row c))) → ⊥) → SolutionFits row e → ⊥
  fractions_wide wide fits = wide (λ c d. to_product (row c) (number c) (fits.terms c))
