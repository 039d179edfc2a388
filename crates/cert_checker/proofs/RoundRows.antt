-- A round's sums are the coefficients of its row, and its low sum, rounded up, is the lower end.
use Rattle.std.proofs.Common.{◌≡◌, ℕ, ◌<◌, ℤ, pos, negsuc, neg_ℤ, ◌+ℤ◌, ◌≤ℤ◌, IsTrue, Option, None, Some, List, length, slice_index_or, arith, refl, sym, ◌∙◌, ap, subst}
use Rattle.std.proofs.lemmas.Int.{ints}
use Rattle.std.proofs.lemmas.List.{length-map, get_or-map}
use Rattle.std.proofs.Math.ListN as ListN
use Rattle.rational.specs.Ratio.{Ratio, whole, IsNumber, IsSame}
use Rattle.rational.specs.Width.{most}
use Rattle.rational.proofs.Scaling.{IsSame-trans}
use Rattle.fraction.specs.Frac.{ratio}
use Rattle.fraction.specs.declared.frac.Frac.{Frac}
use Rattle.evidence.specs.Sums.{none, IsWhole}
use Rattle.evidence.specs.OneDenominator.{number_at}
use Rattle.evidence.specs.Instance.{Instance, IsInstance, Variable, no_variable, width, variable_at}
use Rattle.evidence.specs.Cases.{AreLegal, form, low_sum}
use Rattle.evidence.specs.Width.{LowFits}
use Rattle.evidence.specs.Rounds.{IsCeiling}
use Rattle.evidence.proofs.Numbers.{◌≈◌, ◌≲◌, ◌⋖◌, ≈-sym, ≲-from, ≲-trans, ⋖-≲, one_times}
use Rattle.std.proofs.Math.IntN.{*ℤ_comm, zero-*ℤ}
use Rattle.evidence.proofs.RoundingCuts.{whole-number}
use Rattle.evidence.proofs.UniqueRows.{form_number, low-number}
use Rattle.evidence.proofs.Fits.{whole_over_one}
use Rattle.certificate.specs.declared.lists.Mult.{Mult}
use Rattle.certificate.specs.Meanings.{multipliers}
use Rattle.case_tree.specs.declared.cuts.Cut.{Cut}
use Rattle.case_tree.specs.Cuts.{cut, cut_variable}
use Rattle.cert_checker.specs.Slots.{slot_at, HoldsSum}
use Rattle.cert_checker.specs.Programs.{MakesRound, numerator, numerators}
use Rattle.cert_checker.specs.RoundRefusals.{IsWholeForm, WholeFormsBelow}
use Rattle.cert_checker.proofs.ColumnSums.{unfit_form, is_form, form-number}
use Rattle.cert_checker.proofs.Widths.{cut-instance}

none_from : (x : Ratio) → IsSame x none → x.num ≡ pos 0
none_from x e = sym (one_times x.num) ∙ *ℤ_comm (pos 1) x.num ∙ e ∙ zero-*ℤ (pos x.den)

-- the same number is rounded to the same
pub ceiling_same : (x y : Ratio) (k : ℤ) → x ≈ y → IsCeiling x k → IsCeiling y k
ceiling_same x y k e c =
    let low = c.low in
    let high = c.high in
    let under : whole (k +ℤ negsuc 0) ⋖ x = record { left = whole-number (k +ℤ negsuc 0); right = e.left; is = omega (arith, ints) } in
    let over : x ≲ whole k = record { left = e.left; right = whole-number k; is = omega (arith, ints) } in
    let below = ⋖-≲ under (≲-from e) in
    let above = ≲-trans (≲-from (≈-sym e)) over in
    let b = below.is in
    let a = above.is in
    record { low = omega (arith, ints); high = omega (arith, ints) }

pub numerator_at : (slots : List (Option Frac)) (j : ℕ) (f : Frac) → slot_at slots j ≡ Some f → number_at (numerators slots) j ≡ f.numer
numerator_at slots j f e = ListN.get_or-map numerator slots j None ∙ ap numerator e

whole_is : (f : Frac) → IsWhole (ratio f) → ratio f ≡ whole f.numer
whole_is f w = ap (λ n. let r : Ratio = record { num = f.numer; den = n } in r) (whole_over_one (ratio f) (f.above, f.reduced) w)

whole_same : (x y : Ratio) → IsNumber x → IsSame x y → IsWhole x → IsWhole y
whole_same x y p e w = record { number = w.number; same = IsSame-trans y x (whole w.number) p (sym e) w.same }

-- a sum is as a round's must be exactly where the form is
module _ (I : Instance) (good : IsInstance I) (cs : List Cut) (ms : List Mult) (j : ℕ) (c : Cut) (h : j < length cs) (is : c ≡ slice_index_or cs j c) (f : Frac) (same : IsSame (ratio f) (form (cut I cs) (multipliers ms) j)) where
  abbrev here : Ratio
  here = form (cut I cs) (multipliers ms) j

  here-number : IsNumber here
  here-number = form-number (cut I cs) (cut-instance I good cs) ms j

  whole_is_so : (variable_at (cut I cs) j).whole ≡ c.var.whole
  whole_is_so = ap (λ (v : Variable). v.whole) (get_or-map cut_variable cs j c no_variable h ∙ sym (ap cut_variable is))

  pub part_to : IsWhole (ratio f) × ((IsTrue c.var.whole → ⊥) → IsSame (ratio f) none) → IsWholeForm (cut I cs) (multipliers ms) j
  part_to (w, z) = (
    whole_same (ratio f) here f.above same w,
    λ differs. IsSame-trans here (ratio f) none f.above (sym same) (z (λ t. differs (subst IsTrue (sym whole_is_so) t))),
  )

  pub part_from : IsWholeForm (cut I cs) (multipliers ms) j → IsWhole (ratio f) × ((IsTrue c.var.whole → ⊥) → IsSame (ratio f) none)
  part_from (w, z) = (
    whole_same here (ratio f) here-number (sym same) w,
    λ differs. IsSame-trans (ratio f) here none here-number same (z (λ t. differs (subst IsTrue whole_is_so t))),
  )

module _ (I : Instance) (good : IsInstance I) (ms : List Mult) (slots : List (Option Frac)) (legal : AreLegal I (multipliers ms)) (long : length slots ≡ width I)
    (sums : (j : ℕ) → j < width I → HoldsSum I (multipliers ms) j (length ms) (slot_at slots j)) (parts : WholeFormsBelow I (multipliers ms) (width I)) where
  -- the sum at a variable, a whole number
  record IsSlot (j : ℕ) : Type 0 where
    sum : Frac
    at : slot_at slots j ≡ Some sum
    is : IsSame (ratio sum) (form I (multipliers ms) j)
    whole_sum : IsWhole (ratio sum)

  slot_from : (j : ℕ) → j < width I → (s : Option Frac) → slot_at slots j ≡ s → IsSlot j
  slot_from j h None e = absurd (unfit_form I good ms j (slot_at slots j) e (sums j h) (parts j h).fits)
  slot_from j h (Some f) e =
      let p = parts j h in
      let w = p.is.0 in
      let is = is_form I good ms j (slot_at slots j) f e (sums j h) in
      let back : IsSame (ratio f) (whole w.number) = IsSame-trans (ratio f) (form I (multipliers ms) j) (whole w.number) (form_number I good (multipliers ms) legal j) is w.same in
      record { sum = f; at = e; is = is; whole_sum = record { number = w.number; same = back } }

  pub round_made : (s : Frac) (k : ℤ) → LowFits I none (multipliers ms) → IsSame (ratio s) (low_sum I none (multipliers ms)) → IsCeiling (ratio s) k → neg_ℤ (pos most) ≤ℤ k → MakesRound I (multipliers ms) slots k
  round_made s k fits is ceiling low = record {
    cut = record {
      legal = legal;
      count = length-map slots numerator ∙ long;
      forms = λ j h. let q = slot_from j h (slot_at slots j) refl in
          subst (λ x. IsSame (form I (multipliers ms) j) x) (whole_is q.sum q.whole_sum ∙ ap whole (sym (numerator_at slots j q.sum q.at))) (sym q.is);
      others = λ j h differs.
          let q = slot_from j h (slot_at slots j) refl in
          let p = parts j h in
          numerator_at slots j q.sum q.at ∙ none_from (ratio q.sum) (IsSame-trans (ratio q.sum) (form I (multipliers ms) j) none (form_number I good (multipliers ms) legal j) q.is (p.is.1 differs));
      rounded = ceiling_same (ratio s) (low_sum I none (multipliers ms)) k (record { left = s.above; right = low-number I good (multipliers ms) legal; is = is }) ceiling;
    };
    fits = record { forms = λ j h. (parts j h).fits; low = fits };
    low = low;
    row = record { number = λ j h. let q = slot_from j h (slot_at slots j) refl in (q.sum, q.at, whole_is q.sum q.whole_sum ∙ ap whole (sym (numerator_at slots j q.sum q.at))) };
  }
