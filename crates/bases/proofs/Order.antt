-- The order of a sum is free.
use Rattle.std.proofs.Common.{◌≡◌, ℕ, ◌<◌, Bool, true, false, pos, lit<, sym, ◌∙◌, ap}
use Rattle.rational.specs.Ratio.{Ratio, whole, product, IsNumber}
use Rattle.evidence.specs.Sums.{none, total, unit_at}
use Rattle.evidence.proofs.Numbers.{◌≈◌, ≈-refl, ≈-from, ≈-sym, ◌⊙◌, ◌▹◌, product-number, product-≈, product-one, product_swap, times_none}
use Rattle.evidence.proofs.Totals.{total-number, total-≈, total_swap, total_times}
use Rattle.evidence.proofs.Columns.{by_eq, by_bool, none-number}
use Rattle.evidence.proofs.Units.{unit-number, unit_own, unit_other, picked_left}
use Rattle.bases.specs.Order.{GoesThrough}

module _ (n k : ℕ) (basic : ℕ → Bool) (at place : ℕ → ℕ) (through : GoesThrough n k basic false at place) where
  abbrev count : ℕ → Ratio
  count c = total none n (λ j. unit_at (at j) c)

  -- a column that isn't basic is met once
  met : (c : ℕ) → c < k → basic c ≡ false → count c ≈ whole (pos 1)
  met c h t =
      total-≈ n (λ j. unit_at (at j) c) (λ j. product (unit_at (place c) j) (whole (pos 1))) (≈-refl none-number)
      (λ j l. ≈-from (unit-number (at j) c)
      (by_eq (at j) c
      (λ e. unit_own (at j) c e ∙ sym (ap (λ x. product x (whole (pos 1))) (unit_own (place c) j (ap place (sym e) ∙ through.place_at j l)) ∙ product-one (whole (pos 1))))
      (λ d. unit_other (at j) c d ∙ sym (ap (λ x. product x (whole (pos 1))) (unit_other (place c) j (λ e. d (ap at (sym e) ∙ through.at_place c h t))) ∙ product_swap none (whole (pos 1)) ∙ product-one none))))
      ⊙ picked_left n (place c) (λ j. whole (pos 1)) (λ j. lit< tt) (through.stands c h t)

  pub order_free : (f : ℕ → Ratio) → ((c : ℕ) → IsNumber (f c)) → ((c : ℕ) → c < k → basic c ≡ true → f c ≈ none) → total none k f ≈ total none n (λ j. f (at j))
  order_free f p zero =
      let counts : (c : ℕ) → IsNumber (count c) = λ c. total-number none n (λ j. unit_at (at j) c) none-number (λ j. unit-number (at j) c) in
      let one : (c : ℕ) → c < k → f c ≈ product (f c) (count c) =
      λ c h. by_bool (basic c)
      (λ t. zero c h t ⊙ ≈-sym (product-≈ (zero c h t) (≈-refl (counts c)) ▹ product_swap none (count c) ⊙ times_none (count c) (counts c)))
      (λ t. ≈-from (p c) (sym (product_swap (f c) (whole (pos 1)) ∙ product-one (f c))) ⊙ product-≈ (≈-refl (p c)) (≈-sym (met c h t))) in
      let each : (c : ℕ) → product (f c) (count c) ≈ total none n (λ j. product (unit_at (at j) c) (f c)) =
      λ c. ≈-sym (total-≈ n (λ j. product (unit_at (at j) c) (f c)) (λ j. product (f c) (unit_at (at j) c)) (≈-refl none-number)
      (λ j l. ≈-from (product-number (unit_at (at j) c) (f c) (unit-number (at j) c) (p c)) (product_swap (unit_at (at j) c) (f c)))
      ⊙ total_times n (f c) (λ j. unit_at (at j) c) (p c) (λ j. unit-number (at j) c)) in
      total-≈ k f (λ c. total none n (λ j. product (unit_at (at j) c) (f c))) (≈-refl none-number) (λ c h. one c h ⊙ each c)
      ▹ total_swap k n (λ j c. product (unit_at (at j) c) (f c))
      ⊙ total-≈ n (λ j. total none k (λ c. product (unit_at (at j) c) (f c))) (λ j. f (at j)) (≈-refl none-number)
      (λ j l. picked_left k (at j) f p (through.inside j l))
