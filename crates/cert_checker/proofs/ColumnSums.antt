-- Sums of multiplied columns, one multiplier after the other.
use Rattle.std.proofs.Common.{◌≡◌, ℕ, ◌+◌, Option, None, Some, List, length, slice_index_or, arith, refl, sym, subst}
use Rattle.std.proofs.lemmas.List.Elements.{All-map}
use Rattle.std.proofs.lemmas.List.{length-map}
use Rattle.rational.specs.Ratio.{Ratio, IsNumber, IsSame, product}
use Rattle.rational.proofs.Scaling.{IsSame-trans}
use Rattle.fraction.specs.Frac.{ratio}
use Rattle.fraction.specs.declared.frac.Frac.{Frac}
use Rattle.evidence.specs.Sums.{none}
use Rattle.evidence.specs.Instance.{Instance, IsInstance, coefficient_at}
use Rattle.evidence.specs.Cases.{multiplier_at, form}
use Rattle.evidence.specs.Width.{StatedFits, FormFits}
use Rattle.evidence.proofs.Columns.{All-anywhere, none-number, coefficient-number}
use Rattle.evidence.proofs.Numbers.{product-number}
use Rattle.evidence.proofs.Totals.{total-number}
use Rattle.evidence.proofs.Steps.{no_term, more, wide}
use Rattle.certificate.specs.declared.lists.Mult.{Mult}
use Rattle.certificate.specs.Meanings.{multiplier, multipliers}
use Rattle.cert_checker.specs.Slots.{IsStep, HoldsTotal, HoldsSum}
use Rattle.cert_checker.specs.Leaves.{wanted, HasForm}

pub factors-number : (ms : List Mult) (k : ℕ) → IsNumber (multiplier_at (multipliers ms) k).by
factors-number ms k = All-anywhere (λ m. IsNumber m.by) (multipliers ms) (record { column = 0; by = none }) none-number (All-map (λ m. IsNumber m.by) multiplier ms (λ k d h. (slice_index_or ms k d).value.above)) k

-- a sum, and one more product
module _ (s : Ratio) (a x : ℕ → Ratio) (ps : IsNumber s) (pa : (j : ℕ) → IsNumber (a j)) (px : (j : ℕ) → IsNumber (x j)) where
  pub total_next : (k : ℕ) (old new : Option Frac) → HoldsTotal s k a x old → IsStep old (a k) (x k) new → HoldsTotal s (k + 1) a x new
  total_next k None new unfit e = subst (λ o. HoldsTotal s (k + 1) a x o) (sym e) (λ f. unfit (record { steps = λ i h. f.steps i (omega arith) }))
  total_next k (Some o) None so unfit = wide s a x ps pa px k (k + 1) (ratio o) (a k) (x k) refl refl (omega arith) o.above (record { is = so.1; fits = so.0 }) unfit
  total_next k (Some o) (Some t) so step =
      let all = more s a x ps pa px k (ratio o) (ratio t) (a k) (x k) refl refl o.above t.above (record { is = so.1; fits = so.0 }) step.1 step.0 in
      (all.fits, all.is)

module _ (I : Instance) (good : IsInstance I) (ms : List Mult) (j : ℕ) where
  abbrev by_at : ℕ → Ratio
  by_at k = (multiplier_at (multipliers ms) k).by

  abbrev coefficient : ℕ → Ratio
  coefficient k = coefficient_at I (multiplier_at (multipliers ms) k).column j

  coefficients-number : (k : ℕ) → IsNumber (coefficient k)
  coefficients-number k = coefficient-number I good (multiplier_at (multipliers ms) k).column j

  pub holds_first : (s : Option Frac) (f : Frac) → s ≡ Some f → ratio f ≡ none → HoldsSum I (multipliers ms) j 0 s
  holds_first s f e z = subst (λ s. HoldsSum I (multipliers ms) j 0 s) (sym e) (let t = no_term none by_at coefficient in (t.fits, subst (λ r. IsSame r none) (sym z) refl))

  pub holds_next : (k : ℕ) (old new : Option Frac) → HoldsSum I (multipliers ms) j k old → IsStep old (by_at k) (coefficient k) new → HoldsSum I (multipliers ms) j (k + 1) new
  holds_next = total_next none by_at coefficient none-number (factors-number ms) coefficients-number

  pub form-number : IsNumber (form I (multipliers ms) j)
  form-number = total-number none (length (multipliers ms)) (λ k. product (by_at k) (coefficient k)) none-number (λ k. product-number (by_at k) (coefficient k) (factors-number ms k) (coefficients-number k))

  all_are : length ms ≡ length (multipliers ms)
  all_are = sym (length-map ms multiplier)

  -- all multipliers
  pub unfit_form : (s : Option Frac) → s ≡ None → HoldsSum I (multipliers ms) j (length ms) s → FormFits I (multipliers ms) j → ⊥
  unfit_form s e h f = (subst (λ s. HoldsSum I (multipliers ms) j (length ms) s) e h) (subst (λ n. StatedFits none n by_at coefficient) (sym all_are) f)

  module _ (s : Option Frac) (f : Frac) (e : s ≡ Some f) (h : HoldsSum I (multipliers ms) j (length ms) s) where
    here : HoldsSum I (multipliers ms) j (length (multipliers ms)) (Some f)
    here = subst (λ n. HoldsSum I (multipliers ms) j n (Some f)) all_are (subst (λ s. HoldsSum I (multipliers ms) j (length ms) s) e h)

    pub fits_form : FormFits I (multipliers ms) j
    fits_form = (here).0

    pub is_form : IsSame (ratio f) (form I (multipliers ms) j)
    is_form = (here).1

    module _ (z : Option Ratio) (w : Frac) (ew : ratio w ≡ wanted I z j) where
      pub has_form : IsSame (ratio f) (ratio w) → HasForm I (multipliers ms) z j
      has_form q = record {
        fits = fits_form;
        is = subst (λ t. IsSame (form I (multipliers ms) j) t) ew (IsSame-trans (form I (multipliers ms) j) (ratio f) (ratio w) f.above (sym (here).1) q);
      }

      pub other_form : (IsSame (ratio f) (ratio w) → ⊥) → IsSame (form I (multipliers ms) j) (wanted I z j) → ⊥
      other_form ne q = ne (IsSame-trans (ratio f) (form I (multipliers ms) j) (ratio w) form-number (here).1 (subst (λ t. IsSame (form I (multipliers ms) j) t) (sym ew) q))
