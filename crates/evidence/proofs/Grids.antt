-- A goal that goes in steps, and a sum of columns rounded up to the next one.
use Rattle.std.proofs.Common.{◌≡◌, ℕ, zero, suc, ◌<◌, ℤ, pos, negsuc, ◌≤ℤ◌, List, arith, lit<, sym, ◌∙◌, ap}
use Rattle.std.proofs.lemmas.Int.{ints}
use Rattle.rational.specs.Ratio.{Ratio, whole, sum, product, inverse, quotient, IsNumber, IsBelow, IsAtMost}
use Rattle.rational.proofs.Integers.{more-times}
use Rattle.evidence.specs.Sums.{none, total, IsWhole, IsCeiling, IsMultiple}
use Rattle.evidence.specs.Instance.{Instance, IsInstance, width, variable_at, cost_at, minimising}
use Rattle.evidence.specs.Point.{value_at, objective, IsFeasible}
use Rattle.evidence.specs.Cases.{Multiplier, form, low_sum, HasStep, IsGrid}
use Rattle.evidence.proofs.Numbers.{◌≈◌, ◌≲◌, ≈-refl, ≈-from, ≈-sym, ◌⊙◌, ◌▹◌, ≲-is, ≲-from, ≲-trans, sum-≈, sum-≲, product-≈, product_up, product-number, product_swap, product_assoc, product-one, none-sum}
use Rattle.evidence.proofs.Totals.{total-number, total-≈, total_times, total-start}
use Rattle.evidence.proofs.Columns.{by_bool, none-number, value-number}
use Rattle.evidence.proofs.Duality.{weak, form-number, minimising-number, minimising_total}
use Rattle.evidence.proofs.Inverses.{inverse-number, product-inverse}
use Rattle.evidence.proofs.WholeSums.{whole-number, near_whole, same-whole, total-whole, product-whole, none_product-whole, at_ceiling}

pub above-some : (z : ℤ) (d : ℕ) → IsBelow none (record { num = z; den = d }) → z ≡ pos 0 → ⊥
above-some z d h e = omega (arith, ints)

-- by a factor above 0
pub times_up : (z : ℤ) (d : ℕ) → 0 < d → IsBelow none (record { num = z; den = d }) → (a b : Ratio) → a ≲ b → product (record { num = z; den = d }) a ≲ product (record { num = z; den = d }) b
times_up (pos n) d up h a b l = product_up n d up l
times_up (negsuc n) d up h a b l = absurd (omega (arith, ints))

-- and by its inverse
pub inverse_up : (z : ℤ) (d : ℕ) → 0 < d → IsBelow none (record { num = z; den = d }) → (a b : Ratio) → a ≲ b → product (inverse (record { num = z; den = d })) a ≲ product (inverse (record { num = z; den = d })) b
inverse_up (pos zero) d up h a b l = absurd (omega (arith, ints))
inverse_up (pos (suc n)) d up h a b l = product_up d (suc n) (omega arith) l
inverse_up (negsuc n) d up h a b l = absurd (omega (arith, ints))

pub whole_most : (k m : ℤ) → k ≤ℤ m → whole k ≲ whole m
whole_most k m h = let e = more-times k m 1 h in record { left = lit< tt; right = lit< tt; is = e }

module _ (I : Instance) (good : IsInstance I) (x : List Ratio) (f : IsFeasible I x) (g : Ratio) (step : HasStep I g) where
  abbrev cost : ℕ → Ratio
  cost j = minimising I (cost_at I j)

  -- the goal's sum without its constant
  abbrev slope : Ratio
  slope = total none (width I) (λ j. product (cost j) (value_at x j))

  abbrev i : Ratio
  i = inverse g

  i-number : IsNumber i
  i-number = inverse-number g (above-some g.num g.den step.above)

  cost-number : (j : ℕ) → IsNumber (cost j)
  cost-number j = minimising-number I (cost_at I j) (value-number I.goal.costs good.costs j)

  x-number : (j : ℕ) → IsNumber (value_at x j)
  x-number j = value-number x f.numbers j

  inner-number : (j : ℕ) → IsNumber (product (cost j) (value_at x j))
  inner-number j = product-number (cost j) (value_at x j) (cost-number j) (x-number j)

  slope-number : IsNumber slope
  slope-number = total-number none (width I) (λ j. product (cost j) (value_at x j)) none-number inner-number

  -- g times its inverse
  ones : product g i ≈ whole (pos 1)
  ones = product-inverse g step.number (above-some g.num g.den step.above)

  -- a whole multiple of g has a whole number of steps
  divided : (n : ℤ) → product i (product (whole n) g) ≈ whole n
  divided n =
      let W : whole n ≈ whole n = ≈-refl (whole-number n) in
      ≈-from (product-number i (product (whole n) g) i-number (product-number (whole n) g (whole-number n) step.number)) (ap (λ r. product i r) (product_swap (whole n) g) ∙ sym (product_assoc i g (whole n)) ∙ ap (λ r. product r (whole n)) (product_swap i g))
      ⊙ product-≈ ones W ▹ product-one (whole n)

  whole_term : (j : ℕ) → j < width I → IsWhole (product i (product (cost j) (value_at x j)))
  whole_term j h =
      by_bool (variable_at I j).whole
      (λ e.
      let m : IsMultiple g (cost j) = step.multiples j h e in
      let C : cost j ≈ product (whole m.number) g = record { left = cost-number j; right = product-number (whole m.number) g (whole-number m.number) step.number; is = m.same } in
      let steps : product i (cost j) ≈ whole m.number = product-≈ (≈-refl i-number) C ⊙ divided m.number in
      let all : product i (product (cost j) (value_at x j)) ≈ product (whole m.number) (value_at x j) =
      ≈-from (product-number i (product (cost j) (value_at x j)) i-number (inner-number j)) (sym (product_assoc i (cost j) (value_at x j))) ⊙ product-≈ steps (≈-refl (x-number j)) in
      same-whole (product i (product (cost j) (value_at x j))) (product (whole m.number) (value_at x j)) all (product-whole m.number (value_at x j) (x-number j) (f.whole j h e)))
      (λ e.
      let zero = none_product-whole (cost j) (value_at x j) (cost-number j) (x-number j) (step.others j h (λ t. cc)) in
      none_steps (cost j) (step.others j h (λ t. cc)) (cost-number j) (value_at x j) (x-number j))
    where
      none_steps : (c : Ratio) → Rattle.rational.specs.Ratio.IsSame c none → IsNumber c → (v : Ratio) → IsNumber v → IsWhole (product i (product c v))
      none_steps c e pc v pv =
          let C : c ≈ none = record { left = pc; right = none-number; is = e } in
          let z : product c v ≈ none = product-≈ C (≈-refl pv) ⊙ Rattle.evidence.proofs.Numbers.product-none v pv in
          let all : product i (product c v) ≈ none = product-≈ (≈-refl i-number) z ⊙ Rattle.evidence.proofs.Numbers.times_none i i-number in
          record { number = pos 0; same = all.is }

  -- so has the goal's sum
  steps-whole : IsWhole (product i slope)
  steps-whole =
      same-whole (product i slope) (total none (width I) (λ j. product i (product (cost j) (value_at x j))))
      (≈-sym (total_times (width I) i (λ j. product (cost j) (value_at x j)) i-number inner-number))
      (total-whole (width I) (λ j. product i (product (cost j) (value_at x j))) (λ j. product-number i (product (cost j) (value_at x j)) i-number (inner-number j)) whole_term)

  -- which is that many steps
  slope_steps : slope ≈ product g (whole steps-whole.number)
  slope_steps =
      let w = near_whole (product i slope) (product-number i slope i-number slope-number) steps-whole in
      let G : g ≈ g = ≈-refl step.number in
      let S : slope ≈ slope = ≈-refl slope-number in
      ≈-sym (≈-sym (product-≈ G w) ▹ sym (product_assoc g i slope) ⊙ product-≈ ones S ▹ product-one slope)

  -- a number below the goal's sum is below the next whole number of steps
  pub rounded_up : (low : Ratio) (k : ℤ) → low ≲ slope → IsCeiling (quotient low g) k → product (whole k) g ≲ slope
  rounded_up low k h c =
      let up : product i low ≲ product i slope = inverse_up g.num g.den step.number step.above low slope h in
      let w = near_whole (product i slope) (product-number i slope i-number slope-number) steps-whole in
      let turned : product low i ≲ whole steps-whole.number = ≲-trans (≲-from (≈-from (product-number low i h.left i-number) (product_swap low i))) (≲-trans up (≲-from w)) in
      let most : k ≤ℤ steps-whole.number = at_ceiling (quotient low g) k steps-whole.number c turned in
      let more : product g (whole k) ≲ product g (whole steps-whole.number) = times_up g.num g.den step.number step.above (whole k) (whole steps-whole.number) (whole_most k steps-whole.number most) in
      ≲-trans (≲-from (≈-from (product-number (whole k) g (whole-number k) step.number) (product_swap (whole k) g))) (≲-trans more (≲-from (≈-sym slope_steps)))

-- a grid bounds the goal
pub stepped : (I : Instance) → IsInstance I → (x : List Ratio) → IsFeasible I x → (g : Ratio) (ms : List Multiplier) (z : Ratio) → IsNumber z → IsGrid I g ms z → z ≲ minimising I (objective I x)
stepped I good x f g ms z p b =
    let start = minimising I I.goal.constant in
    let start-number : IsNumber start = minimising-number I I.goal.constant good.constant in
    let costs : (j : ℕ) → j < width I → product (form I ms j) (value_at x j) ≈ product (minimising I (cost_at I j)) (value_at x j) = λ j h.
    product-≈ (record { left = form-number I good x f ms b.legal j; right = minimising-number I (cost_at I j) (value-number I.goal.costs good.costs j); is = b.costs j h }) (≈-refl (value-number x f.numbers j)) in
    let same = total-≈ (width I) (λ j. product (form I ms j) (value_at x j)) (λ j. product (minimising I (cost_at I j)) (value_at x j)) (≈-refl none-number) costs in
    let low = ≲-trans (≲-is (weak I good x f ms b.legal none none-number) (none-sum (total none (width I) (λ j. product (form I ms j) (value_at x j))))) (≲-from same) in
    let up = rounded_up I good x f g b.step (low_sum I none ms) b.steps low b.rounded in
    let all = sum-≲ (≲-from (≈-refl start-number)) up in
    let reached : z ≲ sum start (product (whole b.steps) g) = record { left = p; right = all.left; is = b.reaches } in
    ≲-is (≲-trans reached all)
    (sym (total-start start (width I) (λ j. product (minimising I (cost_at I j)) (value_at x j))) ∙ minimising_total I.goal.sense I.goal.constant (width I) (cost_at I) (value_at x))
