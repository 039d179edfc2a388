-- What legal multipliers say of each feasible point.
use Rattle.std.proofs.Common.{◌≡◌, ℕ, ◌<◌, ℤ, pos, negsuc, Option, None, Some, IfSome, IsSome, List, length, refl, sym, ◌∙◌, ap}
use Rattle.rational.specs.Ratio.{Ratio, sum, product, negative, IsNumber, IsAtMost}
use Rattle.evidence.specs.Sums.{none, total}
use Rattle.evidence.specs.Instance.{Range, Instance, IsInstance, HasNumbers, Sense, Minimum, Maximum, width, cost_at, coefficient_at, column_at, minimising, minimising_by}
use Rattle.evidence.specs.Point.{value_at, objective, IsBetween, IsFeasible}
use Rattle.evidence.specs.Cases.{Multiplier, multiplier_at, end_by, end_of, or_none, form, low_sum, AreLegal, IsEmpty, IsFarkas, IsBound}
use Rattle.evidence.proofs.Numbers.{◌≈◌, ◌≲◌, ◌⋖◌, ≈-refl, ≈-from, ≈-sym, ◌⊙◌, ◌▹◌, ≲-is, ≲-from, ≲-trans, ⋖-absurd, sum-≈, product-≈, product_up, product_down, product-number, product-none, product_swap, product_assoc, sum-none, negative-product}
use Rattle.evidence.proofs.Totals.{total-number, total-≈, total-≲, total_swap, total-none, product-total, total-start, total-same, total-negative}
use Rattle.evidence.proofs.Columns.{none-number, value-number, All-anywhere, coefficient-number, column-numbers, column_value, column_value-number, between, column_sum}

above_low : (o : Option Ratio) (v : Ratio) → IsSome o → IfSome o IsNumber → IsNumber v → IfSome o (λ l. IsAtMost l v) → or_none o ≲ v
above_low None v p q r s = absurd (cc)
above_low (Some l) v p q r s = record { left = q; right = r; is = s }

below_high : (o : Option Ratio) (v : Ratio) → IsSome o → IfSome o IsNumber → IsNumber v → IfSome o (λ u. IsAtMost v u) → v ≲ or_none o
below_high None v p q r s = absurd (cc)
below_high (Some u) v p q r s = record { left = r; right = q; is = s }

-- a multiplier times its end is at most the multiplier times the column
by_sign : (n : ℤ) (d : ℕ) → 0 < d → (r : Range) → HasNumbers r → (v : Ratio) → IsNumber v → IsBetween r v → IsSome (end_by n r) → product (record { num = n; den = d }) (or_none (end_by n r)) ≲ product (record { num = n; den = d }) v
by_sign (pos n) d up r h v p b s = product_up n d up (above_low r.lb v s h.0 p b.low)
by_sign (negsuc n) d up r h v p b s = product_down n d up (below_high r.ub v s h.1 p b.high)

module _ (I : Instance) (good : IsInstance I) (x : List Ratio) (f : IsFeasible I x) (ms : List Multiplier) (legal : AreLegal I ms) where
  abbrev y : ℕ → Ratio
  y k = (multiplier_at ms k).by

  abbrev c : ℕ → ℕ
  c k = (multiplier_at ms k).column

  y-number : (k : ℕ) → IsNumber (y k)
  y-number k = All-anywhere (λ m. IsNumber m.by) ms (record { column = 0; by = none }) none-number legal.numbers k

  -- a multiplier, a coefficient of its column, and the variable there
  abbrev part : ℕ → ℕ → Ratio
  part k j = product (y k) (product (coefficient_at I (c k) j) (value_at x j))

  part-number : (k j : ℕ) → IsNumber (part k j)
  part-number k j =
      product-number (y k) (product (coefficient_at I (c k) j) (value_at x j)) (y-number k)
      (product-number (coefficient_at I (c k) j) (value_at x j) (coefficient-number I good (c k) j) (value-number x f.numbers j))

  end_term : (k : ℕ) → k < length ms → product (y k) (or_none (end_of I (multiplier_at ms k))) ≲ product (y k) (column_value I x (c k))
  end_term k h =
      by_sign (y k).num (y k).den (y-number k) (column_at I (c k)) (column-numbers I good (c k)) (column_value I x (c k)) (column_value-number I good x f.numbers (c k))
      (between I x f (c k) (legal.columns k (record { column = 0; by = none }) h)) (legal.ends k (record { column = 0; by = none }) h)

  column_term : (k : ℕ) → product (y k) (column_value I x (c k)) ≈ total none (width I) (λ j. part k j)
  column_term k =
      product-≈ (≈-refl (y-number k)) (≈-sym (column_sum I good x f.numbers (c k)))
      ⊙ product-total (y k) none (width I) (λ j. product (coefficient_at I (c k) j) (value_at x j)) (y-number k) none-number (λ j. product-number (coefficient_at I (c k) j) (value_at x j) (coefficient-number I good (c k) j) (value-number x f.numbers j))
      ⊙ total-≈ (width I) (λ j. part k j) (λ j. part k j) (≈-from (product-number (y k) none (y-number k) none-number) (product_swap (y k) none) ⊙ product-none (y k) (y-number k)) (λ j h. ≈-refl (part-number k j))

  form_part-number : (j k : ℕ) → IsNumber (product (y k) (coefficient_at I (c k) j))
  form_part-number j k = product-number (y k) (coefficient_at I (c k) j) (y-number k) (coefficient-number I good (c k) j)

  pub form-number : (j : ℕ) → IsNumber (form I ms j)
  form-number j = total-number none (length ms) (λ k. product (y k) (coefficient_at I (c k) j)) none-number (form_part-number j)

  turned_part : (j k : ℕ) → product (value_at x j) (product (y k) (coefficient_at I (c k) j)) ≡ part k j
  turned_part j k = product_swap (value_at x j) (product (y k) (coefficient_at I (c k) j)) ∙ product_assoc (y k) (coefficient_at I (c k) j) (value_at x j)

  form_term : (j : ℕ) → product (form I ms j) (value_at x j) ≈ total none (length ms) (λ k. part k j)
  form_term j =
      ≈-from (product-number (form I ms j) (value_at x j) (form-number j) (value-number x f.numbers j)) (product_swap (form I ms j) (value_at x j))
      ⊙ product-total (value_at x j) none (length ms) (λ k. product (y k) (coefficient_at I (c k) j)) (value-number x f.numbers j) none-number (form_part-number j)
      ⊙ total-≈ (length ms) (λ k. product (value_at x j) (product (y k) (coefficient_at I (c k) j))) (λ k. part k j)
      (≈-from (product-number (value_at x j) none (value-number x f.numbers j) none-number) (product_swap (value_at x j) none) ⊙ product-none (value_at x j) (value-number x f.numbers j))
      (λ k h. ≈-sym (≈-from (part-number k j) (sym (turned_part j k))))

  -- the sum of the multipliers, each times its column's value, is that of the form's numbers, each times its variable
  exchanged : total none (length ms) (λ k. product (y k) (column_value I x (c k))) ≈ total none (width I) (λ j. product (form I ms j) (value_at x j))
  exchanged =
      total-≈ (length ms) (λ k. product (y k) (column_value I x (c k))) (λ k. total none (width I) (λ j. part k j)) (≈-refl none-number) (λ k h. column_term k)
      ▹ sym (total_swap (width I) (length ms) part)
      ⊙ total-≈ (width I) (λ j. total none (length ms) (λ k. part k j)) (λ j. product (form I ms j) (value_at x j)) (≈-refl none-number) (λ j h. ≈-sym (form_term j))

  -- the legal sum of the ends is at most the sum of the form's numbers, each times its variable
  pub weak : (s : Ratio) → IsNumber s → low_sum I s ms ≲ sum s (total none (width I) (λ j. product (form I ms j) (value_at x j)))
  weak s p =
      ≲-trans
      (≲-is (total-≲ (length ms) (λ k. product (y k) (or_none (end_of I (multiplier_at ms k)))) (λ k. product (y k) (column_value I x (c k))) (≲-from (≈-refl p)) end_term)
      (total-start s (length ms) (λ k. product (y k) (column_value I x (c k)))))
      (≲-from (sum-≈ (≈-refl p) exchanged))

-- the minimising objective is the sum of the minimising costs
pub minimising_total : (s : Sense) (c : Ratio) (n : ℕ) (f g : ℕ → Ratio) → total (minimising_by s c) n (λ j. product (minimising_by s (f j)) (g j)) ≡ minimising_by s (total c n (λ j. product (f j) (g j)))
minimising_total Minimum c n f g = refl
minimising_total Maximum c n f g =
    total-same (negative c) n (λ j. product (negative (f j)) (g j)) (λ j. negative (product (f j) (g j))) (λ j. negative-product (f j) (g j))
    ∙ total-negative c n (λ j. product (f j) (g j))

none_minimised : (s : Sense) → minimising_by s none ≡ none
none_minimised Minimum = refl
none_minimised Maximum = refl

-- and so it is without a constant
pub minimising_slope : (s : Sense) (n : ℕ) (f g : ℕ → Ratio) → total none n (λ j. product (minimising_by s (f j)) (g j)) ≡ minimising_by s (total none n (λ j. product (f j) (g j)))
minimising_slope s n f g = ap (λ z. total z n (λ j. product (minimising_by s (f j)) (g j))) (sym (none_minimised s)) ∙ minimising_total s none n f g

minimising_by-number : (s : Sense) (c : Ratio) → IsNumber c → IsNumber (minimising_by s c)
minimising_by-number Minimum c p = p
minimising_by-number Maximum c p = p

pub minimising-number : (I : Instance) (c : Ratio) → IsNumber c → IsNumber (minimising I c)
minimising-number I c p = minimising_by-number I.goal.sense c p

-- weak duality
pub bounded : (I : Instance) → IsInstance I → (x : List Ratio) → IsFeasible I x → (ms : List Multiplier) (z : Ratio) → IsNumber z → IsBound I ms z → z ≲ minimising I (objective I x)
bounded I good x f ms z p b =
    let start = minimising I I.goal.constant in
    let start-number : IsNumber start = minimising-number I I.goal.constant good.constant in
    let low = weak I good x f ms b.legal start start-number in
    let costs : (j : ℕ) → j < width I → product (form I ms j) (value_at x j) ≈ product (minimising I (cost_at I j)) (value_at x j) = λ j h.
    product-≈ (record { left = form-number I good x f ms b.legal j; right = minimising-number I (cost_at I j) (value-number I.goal.costs good.costs j); is = b.costs j h }) (≈-refl (value-number x f.numbers j)) in
    let same = sum-≈ (≈-refl start-number) (total-≈ (width I) (λ j. product (form I ms j) (value_at x j)) (λ j. product (minimising I (cost_at I j)) (value_at x j)) (≈-refl none-number) costs) in
    let reached : z ≲ low_sum I start ms = record { left = p; right = low.left; is = b.reaches } in
    ≲-is (≲-trans reached (≲-trans low (≲-from same)))
    (sym (total-start start (width I) (λ j. product (minimising I (cost_at I j)) (value_at x j))) ∙ minimising_total I.goal.sense I.goal.constant (width I) (cost_at I) (value_at x))

-- Farkas
pub vanished : (I : Instance) → IsInstance I → (x : List Ratio) → IsFeasible I x → (ms : List Multiplier) → IsFarkas I ms → ⊥
vanished I good x f ms b =
    let low = weak I good x f ms b.legal none none-number in
    let terms : (j : ℕ) → j < width I → product (form I ms j) (value_at x j) ≈ none = λ j h.
    let vanishing : form I ms j ≈ none = record { left = form-number I good x f ms b.legal j; right = none-number; is = b.vanishes j h } in
    let itself : value_at x j ≈ value_at x j = ≈-refl (value-number x f.numbers j) in
    let e : product (form I ms j) (value_at x j) ≈ product none (value_at x j) = product-≈ vanishing itself in
    e ⊙ product-none (value_at x j) (value-number x f.numbers j) in
    let all : total none (width I) (λ j. product (form I ms j) (value_at x j)) ≈ total none (width I) (λ j. none) = total-≈ (width I) (λ j. product (form I ms j) (value_at x j)) (λ j. none) (≈-refl none-number) terms in
    let start : none ≈ none = ≈-refl none-number in
    let same : sum none (total none (width I) (λ j. product (form I ms j) (value_at x j))) ≈ none = sum-≈ start all ▹ ap (λ w. sum none w) (total-none (width I)) ▹ sum-none none in
    let above : none ⋖ low_sum I none ms = record { left = none-number; right = low.left; is = b.above } in
    ⋖-absurd above (≲-trans low (≲-from same))

-- a column whose lower end is above its upper one
pub clashed : (r : Range) → HasNumbers r → (v : Ratio) → IsNumber v → IsBetween r v → IsEmpty r → ⊥
clashed r h v p b (l, u, e, g, below) =
    let low = rw e at b.low in
    let high = rw g at b.high in
    let nl = rw e at h.0 in
    let nu = rw g at h.1 in
    let above : u ⋖ l = record { left = nu; right = nl; is = below } in
    ⋖-absurd above (≲-trans (let k : l ≲ v = record { left = nl; right = p; is = low } in k) (let k : v ≲ u = record { left = p; right = nu; is = high } in k))
