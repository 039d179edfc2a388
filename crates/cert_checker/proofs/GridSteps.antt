-- A bound on the goal's grid: steps, multiples of them, and the low sum rounded up.
use Rattle.std.proofs.Common.{◌≡◌, ◌↔◌, ℕ, suc, ◌*◌, ◌/◌, ◌%◌, ◌<◌, true, false, nat_eq, ℤ, pos, negsuc, ◌*ℤ◌, ◌<ℤ◌, neg_ℤ, IsTrue, List, length, slice_index_or, lit<, arith, refl, sym, ◌∙◌, ap, ap₂, subst, mul_comm, mul_assoc}
use Rattle.std.specs.Prelude.{unsigned_abs, Result, Ok, Err, OnOk}
use Rattle.std.specs.Int.{IsGcd, ◌∣◌}
use Rattle.std.proofs.Math.Nat.{dvd-mul_left, dvd-mul_right, div-mul_cancel}
use Rattle.std.proofs.lemmas.Bool.{eq-eqb, eqb-true, false≢true}
use Rattle.std.proofs.lemmas.Nat.Gcd.{dvd_of_mod-eq-zero, mod-eq-zero_of_dvd}
use Rattle.std.proofs.Math.IntN.{*ℤ_comm, zero-*ℤ}
use Rattle.std.proofs.lemmas.Int.{ints, unsigned_abs-mul}
use Rattle.rational.specs.Ratio.{Ratio, whole, sum, product, quotient, inverse, IsSame, IsNumber, IsBelow, IsAtMost}
use Rattle.rational.specs.Width.{ReducedFits}
use Rattle.rational.proofs.Integers.{neg-times, times_turn}
use Rattle.rational.proofs.Scaling.{times-times}
use Rattle.rational.proofs.CommonDivisors.{coprime_from_IsGcd, coprime_swap, divides_other}
use Rattle.fraction.specs.Frac.{ratio}
use Rattle.fraction.specs.declared.frac.Frac.{Frac}
use Rattle.evidence.specs.Sums.{none, IsCeiling, IsMultiple}
use Rattle.evidence.specs.Instance.{Instance, IsInstance, Variable, no_variable, variable_at, cost_at, minimising}
use Rattle.evidence.specs.Cases.{Multiplier, low_sum, AreLegal, IsGrid}
use Rattle.evidence.specs.Width.{TermFits, LowFits, LeafFits, StepsFit}
use Rattle.evidence.proofs.Numbers.{◌≈◌, ◌≲◌, ≈-refl, ≈-sym, ◌⊙◌, ≲-from, ≲-trans, product-≈, product-number, sum-number}
use Rattle.evidence.proofs.Columns.{none-number}
use Rattle.evidence.proofs.Inverses.{inverse-number}
use Rattle.evidence.proofs.UniqueRows.{low-number, one_ceiling}
use Rattle.evidence.proofs.Fits.{reduced_same}
use Rattle.std.proofs.lemmas.List.{get_or-map}
use Rattle.evidence.proofs.Numbers.{one_times}
use Rattle.case_tree.specs.declared.cuts.Cut.{Cut}
use Rattle.case_tree.specs.Cuts.{cut, cut_variable}
use Rattle.cert_checker.proofs.RoundRows.{ceiling_same}
use Rattle.cert_checker.specs.Grids.{IsLow, GoesInSteps, GridFits, ReachesInSteps, GridHolds}

pub step-some : (z : ℤ) → pos 0 <ℤ z → z ≡ pos 0 → ⊥
step-some z h e = omega (arith, ints)

-- a whole number is that many times a divisor of its size
whole_times : (a : ℤ) (p : ℕ) → p ∣ unsigned_abs a → (n : ℤ) × (a ≡ n *ℤ pos p)
whole_times (pos m) p d = (pos (m / p), ap pos (sym (div-mul_cancel p d)))
whole_times (negsuc m) p d = (neg_ℤ (pos (suc m / p)), ap neg_ℤ (ap pos (sym (div-mul_cancel p d))) ∙ sym (neg-times (pos (suc m / p)) (pos p)))

size : (z : ℤ) → pos 0 <ℤ z → z ≡ pos (unsigned_abs z)
size (pos n) h = refl
size (negsuc n) h = absurd (omega (arith, ints))

multiple : (a : ℤ) (b p q : ℕ) → p ∣ unsigned_abs a → b ∣ q → IsMultiple (record { num = pos p; den = q }) (record { num = a; den = b })
multiple a b p q d e =
    let n = whole_times a p d in
    let l : ℕ = q / b in
    let f : q ≡ l * b = sym (div-mul_cancel b e) in
    let one : 1 * q ≡ q = omega arith in
    record { number = n.0 *ℤ pos l; same = ap₂ (λ x y. x *ℤ pos y) n.1 (one ∙ f) ∙ cross n.0 (pos p) l b }
  where
    cross : (n p : ℤ) (l b : ℕ) → (n *ℤ p) *ℤ pos (l * b) ≡ ((n *ℤ pos l) *ℤ p) *ℤ pos b
    cross n p l b = sym (times-times (n *ℤ p) l b) ∙ ap (λ z. z *ℤ pos b) (times_turn n p (pos l))

divides : (a : ℤ) (b p q : ℕ) → IsGcd (unsigned_abs a) b 1 → IsGcd p q 1 → IsMultiple (record { num = pos p; den = q }) (record { num = a; den = b }) → (p ∣ unsigned_abs a) × (b ∣ q)
divides a b p q r s m =
    let sizes : unsigned_abs a * q ≡ unsigned_abs m.number * p * b =
    ap (λ k. unsigned_abs a * k) (let f : q ≡ 1 * q = omega arith in f) ∙ sym (unsigned_abs-mul a (pos (1 * q))) ∙ ap unsigned_abs m.same ∙ unsigned_abs-mul (m.number *ℤ pos p) (pos b) ∙ ap (λ k. k * b) (unsigned_abs-mul m.number (pos p)) in
    let left : p ∣ unsigned_abs m.number * p * b = subst (λ x. p ∣ x) (let f : p * (unsigned_abs m.number * b) ≡ unsigned_abs m.number * p * b = sym (mul_assoc p (unsigned_abs m.number) b) ∙ ap (λ k. k * b) (mul_comm p (unsigned_abs m.number)) in f) (dvd-mul_right p (unsigned_abs m.number * b)) in (
      divides_other p q (unsigned_abs a) (coprime_from_IsGcd p q s) (subst (λ x. p ∣ x) (sym sizes ∙ mul_comm (unsigned_abs a) q) left),
      divides_other b (unsigned_abs a) q (coprime_swap (unsigned_abs a) b (coprime_from_IsGcd (unsigned_abs a) b r)) (subst (λ x. b ∣ x) (sym sizes) (dvd-mul_left b (unsigned_abs m.number * p))),
    )

-- both are in lowest terms
module _ (cost step : Frac) (up : pos 0 <ℤ step.numer) where
  same_step : ratio step ≡ record { num = pos (unsigned_abs step.numer); den = step.denom }
  same_step = ap (λ z. record { num = z; den = step.denom }) (size step.numer up)

  pub multiple_from : unsigned_abs step.numer ∣ unsigned_abs cost.numer → cost.denom ∣ step.denom → IsMultiple (ratio step) (ratio cost)
  multiple_from d e = subst (λ (g : Ratio). IsMultiple g (ratio cost)) (sym same_step) (multiple cost.numer cost.denom (unsigned_abs step.numer) step.denom d e)

  pub multiple_to : IsMultiple (ratio step) (ratio cost) → (unsigned_abs step.numer ∣ unsigned_abs cost.numer) × (cost.denom ∣ step.denom)
  multiple_to m = divides cost.numer cost.denom (unsigned_abs step.numer) step.denom cost.reduced step.reduced (subst (λ (g : Ratio). IsMultiple g (ratio cost)) same_step m)

  module _ (u s : ℕ) (eu : u ≡ unsigned_abs cost.numer) (es : s ≡ unsigned_abs step.numer) where
    of_sizes : nat_eq (u % s) 0 ≡ true → unsigned_abs step.numer ∣ unsigned_abs cost.numer
    of_sizes t = let e : u % s ≡ 0 = eqb-true (u % s) 0 t in dvd_of_mod-eq-zero (unsigned_abs step.numer) (subst (λ n. n % unsigned_abs step.numer ≡ 0) eu (subst (λ n. u % n ≡ 0) es e))

    to_sizes : unsigned_abs step.numer ∣ unsigned_abs cost.numer → nat_eq (u % s) 0 ≡ true
    to_sizes d = eq-eqb (u % s) 0 (subst (λ n. u % n ≡ 0) (sym es) (subst (λ n. n % unsigned_abs step.numer ≡ 0) (sym eu) (mod-eq-zero_of_dvd (unsigned_abs step.numer) d)))

    pub both_tests : nat_eq (u % s) 0 ≡ true → (nat_eq (step.denom % cost.denom) 0 ≡ true → IsMultiple (ratio step) (ratio cost)) × (IsMultiple (ratio step) (ratio cost) → nat_eq (step.denom % cost.denom) 0 ≡ true)
    both_tests t = (
      λ h. multiple_from (of_sizes t) (dvd_of_mod-eq-zero cost.denom (eqb-true (step.denom % cost.denom) 0 h)),
      λ m. eq-eqb (step.denom % cost.denom) 0 (mod-eq-zero_of_dvd cost.denom (multiple_to m).1),
    )

    pub first_test : nat_eq (u % s) 0 ≡ false → (nat_eq (u % s) 0 ≡ true → IsMultiple (ratio step) (ratio cost)) × (IsMultiple (ratio step) (ratio cost) → nat_eq (u % s) 0 ≡ true)
    first_test f = (λ t. absurd (false≢true (sym f ∙ t)), λ m. to_sizes (multiple_to m).0)

-- the sums of the ends, of the steps and of the value
module _ (I : Instance) (step : Frac) (up : pos 0 <ℤ step.numer) (ms : List Multiplier) (pl : IsNumber (low_sum I none ms)) (fits : LowFits I none ms) (low : Frac) (is : IsSame (ratio low) (low_sum I none ms)) where
  near : ratio low ≈ low_sum I none ms
  near = record { left = low.above; right = pl; is = is }

  i-number : IsNumber (inverse (ratio step))
  i-number = inverse-number (ratio step) (step-some step.numer up)

  near_steps : quotient (ratio low) (ratio step) ≈ quotient (low_sum I none ms) (ratio step)
  near_steps = product-≈ near (≈-refl i-number)

  pub wide_steps : (ReducedFits (quotient (ratio low) (ratio step)) → ⊥) → GridFits I (ratio step) ms → ⊥
  wide_steps w f =
      let e = near_steps in
      let back = ≈-sym near_steps in
      w (reduced_same (quotient (low_sum I none ms) (ratio step)) (quotient (ratio low) (ratio step)) e.left back.is f.steps.steps)

  module _ (steps : Frac) (qs : IsSame (ratio steps) (quotient (ratio low) (ratio step))) where
    near_quotient : ratio steps ≈ quotient (low_sum I none ms) (ratio step)
    near_quotient = let e = near_steps in (record { left = steps.above; right = e.left; is = qs }) ⊙ near_steps

    pub steps-fit : ReducedFits (quotient (low_sum I none ms) (ratio step))
    steps-fit = let e = near_quotient in record { number = e.right; form = ratio steps; same = e.is; reduced = (steps.above, steps.reduced); within = (steps.numer_within, steps.denom_within) }

    pub ceiling_of : (k : ℤ) → IsCeiling (ratio steps) k → IsCeiling (quotient (low_sum I none ms) (ratio step)) k
    ceiling_of k c = ceiling_same (ratio steps) (quotient (low_sum I none ms) (ratio step)) k near_quotient c

    module _ (k : ℤ) (ck : IsCeiling (ratio steps) k) (constant : Frac) (ec : ratio constant ≡ minimising I I.goal.constant) where
      abbrev q : Ratio
      q = quotient (low_sum I none ms) (ratio step)

      pub grid-fits : TermFits (ratio constant) (whole k) (ratio step) → GridFits I (ratio step) ms
      grid-fits t = record {
        low = fits;
        steps = record {
          steps = steps-fit;
          value = λ l c. subst (λ n. TermFits (minimising I I.goal.constant) (whole n) (ratio step)) (one_ceiling q k l (ceiling_of k ck) c) (subst (λ (s : Ratio). TermFits s (whole k) (ratio step)) ec t);
        };
      }

      pub wide_value : (TermFits (ratio constant) (whole k) (ratio step) → ⊥) → GridFits I (ratio step) ms → ⊥
      wide_value w f = w (subst (λ (s : Ratio). TermFits s (whole k) (ratio step)) (sym ec) (f.steps.value k (ceiling_of k ck)))

      module _ (value aim : Frac) (vs : IsSame (ratio value) (sum (ratio constant) (product (whole k) (ratio step)))) where
        near_value : ratio value ≈ sum (minimising I I.goal.constant) (product (whole k) (ratio step))
        near_value = subst (λ (s : Ratio). ratio value ≈ sum s (product (whole k) (ratio step))) ec (record { left = value.above; right = sum-number (ratio constant) (product (whole k) (ratio step)) constant.above (product-number (whole k) (ratio step) (lit< tt) step.above); is = vs })

        pub reaches : IsAtMost (ratio aim) (ratio value) → ReachesInSteps I (ratio step) ms (ratio aim)
        reaches h =
            let a : ratio aim ≲ ratio value = record { left = aim.above; right = value.above; is = h } in
            let b = ≲-trans a (≲-from near_value) in
            record { steps = k; rounded = ceiling_of k ck; reaches = b.is }

        pub lacks : (IsAtMost (ratio aim) (ratio value) → ⊥) → ReachesInSteps I (ratio step) ms (ratio aim) → ⊥
        lacks w r =
            let e : r.steps ≡ k = one_ceiling q r.steps k r.rounded (ceiling_of k ck) in
            let near = near_value in
            let a : ratio aim ≲ sum (minimising I I.goal.constant) (product (whole k) (ratio step)) = record { left = aim.above; right = near.right; is = subst (λ n. IsAtMost (ratio aim) (sum (minimising I I.goal.constant) (product (whole n) (ratio step)))) e r.reaches } in
            let b = ≲-trans a (≲-from (≈-sym near_value)) in
            w b.is

-- the low sum of legal multipliers, as it is made
pub is_low : (I : Instance) → IsInstance I → (ms : List Multiplier) → AreLegal I ms → (s : Ratio) → s ≡ none → (low : Frac) → LowFits I s ms → IsSame (ratio low) (low_sum I s ms) → IsLow I ms (ratio low)
is_low I good ms legal s e low fits is = record {
  number = low-number I good ms legal;
  fits = subst (λ t. LowFits I t ms) e fits;
  is = subst (λ t. IsSame (ratio low) (low_sum I t ms)) e is;
}

zero-none : (x : Ratio) → IsNumber x → x.num ≡ pos 0 → x ≈ none
zero-none x p e = record { left = p; right = none-number; is = ap (λ z. z *ℤ pos 1) e ∙ zero-*ℤ (pos 1) ∙ sym (zero-*ℤ (pos x.den)) }

none_num : (x : Ratio) → IsSame x none → x.num ≡ pos 0
none_num x e = sym (one_times x.num) ∙ *ℤ_comm (pos 1) x.num ∙ e ∙ zero-*ℤ (pos x.den)

-- a cost, as a fraction
module _ (cost : Frac) (c : Ratio) (e : ratio cost ≡ c) where
  pub zero_from : cost.numer ≡ pos 0 → IsSame c none
  zero_from z = let n = zero-none (ratio cost) cost.above z in subst (λ (x : Ratio). IsSame x none) e n.is

  pub zero_to : IsSame c none → cost.numer ≡ pos 0
  zero_to z = none_num (ratio cost) (subst (λ (x : Ratio). IsSame x none) (sym e) z)

-- the variable of a cut
pub step_at : (I : Instance) (cs : List Cut) (g : Ratio) (j : ℕ) (c : Cut) → j < length cs → c ≡ slice_index_or cs j c
    → ((IsTrue c.var.whole → IsMultiple g (minimising I (cost_at I j))) × ((IsTrue c.var.whole → ⊥) → IsSame (minimising I (cost_at I j)) none)) ↔ GoesInSteps (cut I cs) g j
step_at I cs g j c h is =
    let w : (variable_at (cut I cs) j).whole ≡ c.var.whole = ap (λ (v : Variable). v.whole) (get_or-map cut_variable cs j c no_variable h ∙ sym (ap cut_variable is)) in (
      λ (m, z). record { multiple = λ t. m (subst IsTrue w t); other = λ d. z (λ t. d (subst IsTrue (sym w) t)) },
      λ s. (λ t. s.multiple (subst IsTrue (sym w) t), λ d. s.other (λ t. d (subst IsTrue w t))),
    )

pub above_to : (g : Ratio) → pos 0 <ℤ g.num → IsBelow none g
above_to g h = omega (arith, ints)

pub above_from : (g : Ratio) → IsBelow none g → pos 0 <ℤ g.num
above_from g h = omega (arith, ints)

pub both_ok : {T E : Type 0} (r : Result T E) (A B C : Type 0) → (A → B → C) → OnOk r A → OnOk r B → OnOk r C
both_ok (Ok x) A B C f a b = f a b
both_ok (Err e) A B C f a b = a

pub grid_is : (I : Instance) (g : Ratio) (ms : List Multiplier) (z : Ratio) → IsNumber g → GridHolds I g ms z ↔ (IsGrid I g ms z × LeafFits I none ms × StepsFit I g ms)
grid_is I g ms z p = (
  λ h. (
    record {
      legal = h.legal;
      costs = λ j l. (h.forms j l).is;
      step = record { number = p; above = h.above; multiples = λ j l t. (h.costs j l).multiple t; others = λ j l d. (h.costs j l).other d };
      steps = h.reaches.steps;
      rounded = h.reaches.rounded;
      reaches = h.reaches.reaches;
    },
    record { forms = λ j l. (h.forms j l).fits; low = h.fits.low },
    h.fits.steps,
  ),
  λ (b, w, s). record {
    legal = b.legal;
    forms = λ j l. record { fits = w.forms j l; is = b.costs j l };
    above = b.step.above;
    costs = λ j l. record { multiple = λ t. b.step.multiples j l t; other = λ d. b.step.others j l d };
    fits = record { low = w.low; steps = s };
    reaches = record { steps = b.steps; rounded = b.rounded; reaches = b.reaches };
  },
)
