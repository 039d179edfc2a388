-- Numbers as whole ones over a common denominator.
use Rattle.std.proofs.Common.{◌≡◌, inl, inr, ℕ, zero, suc, ◌*◌, ◌/◌, ◌<◌, ℤ, pos, ◌+ℤ◌, ◌*ℤ◌, ◌≤ℤ◌, ◌↔◌, Option, None, Some, IfSome, List, [], ◌∷◌, nat_eq, ◌&&◌, arith, sym, ◌∙◌, ap, ap₂, subst}
use Rattle.std.specs.List.{All}
use Rattle.std.specs.Int.{◌∣◌}
use Rattle.std.proofs.Math.Nat.{mul-pos, div-mul_cancel}
use Rattle.std.proofs.Math.IntN.{*ℤ_comm, zero-*ℤ}
use Rattle.std.proofs.lemmas.Int.{ints}
use Rattle.std.proofs.lemmas.List.Elements.{All-head, All-tail}
use Rattle.rational.specs.Ratio.{Ratio, sum, product, IsSame, IsNumber, IsAtMost}
use Rattle.evidence.specs.Sums.{none, IsWhole, total}
use Rattle.rational.proofs.Scaling.{add-times, times-times, times_swap, same_multiple}
use Rattle.evidence.specs.Instance.{Range, Entry, Instance, IsInstance, HasNumbers, free, no_variable, width, variable_at, row_at, cost_at, entry_at}
use Rattle.evidence.specs.Point.{value_at, activity, objective, IsBetween, IsZeroOr, IsFeasible}
use Rattle.evidence.specs.OneDenominator.{times_of, whole_total, number_at, Divides, IsCommon, IsOverOne, IsBetweenOver, IsZeroOrOver, IsFeasibleOver, objective_over}
use Rattle.rational.proofs.Integers.{times_cross, more-times, most-from_times}
use Rattle.rational.proofs.CommonDivisors.{one_divides}
use Rattle.evidence.proofs.Numbers.{one_times}
use Rattle.evidence.proofs.Totals.{total-start}
use Rattle.evidence.proofs.Columns.{pick, All-anywhere, activity-number, value-number, further-numbers}

-- x is z over E
pub record IsOver (E : ℕ) (x : Ratio) (z : ℤ) : Type 0 where
  pub is : x.num *ℤ pos E ≡ z *ℤ pos x.den

over_times : (S : ℕ) (x : Ratio) → x.den ∣ S → IsOver S x (times_of S x)
over_times S x h = record { is = ap (λ k. x.num *ℤ pos k) (sym (div-mul_cancel x.den h)) ∙ sym (times-times x.num (S / x.den) x.den) }

over-sum : (E : ℕ) (x y : Ratio) (z w : ℤ) → IsOver E x z → IsOver E y w → IsOver E (sum x y) (z +ℤ w)
over-sum E x y z w p q =
    record {
      is = add-times (x.num *ℤ pos y.den) (y.num *ℤ pos x.den) E
          ∙ ap₂ (λ a b. a +ℤ b)
          (times_swap x.num y.den E ∙ ap (λ k. k *ℤ pos y.den) p.is ∙ times-times z x.den y.den)
          (times_swap y.num x.den E ∙ ap (λ k. k *ℤ pos x.den) q.is ∙ times-times w y.den x.den ∙ ap (λ k. w *ℤ pos k) (omega arith))
          ∙ sym (add-times z w (x.den * y.den));
    }

over-product : (E F : ℕ) (x y : Ratio) (z w : ℤ) → IsOver E x z → IsOver F y w → IsOver (E * F) (product x y) (z *ℤ w)
over-product E F x y z w p q =
    record { is = times_cross x.num y.num (pos E) (pos F) ∙ ap₂ (λ a b. a *ℤ b) p.is q.is ∙ times_cross z (pos x.den) w (pos y.den) }

over-total : (E n : ℕ) (f : ℕ → Ratio) (g : ℕ → ℤ) → ((j : ℕ) → j < n → IsOver E (f j) (g j)) → IsOver E (total none n f) (whole_total n g)
over-total E zero f g h = record { is = zero-*ℤ (pos E) ∙ sym (zero-*ℤ (pos 1)) }
over-total E (suc n) f g h = over-sum E (total none n f) (f n) (whole_total n g) (g n) (over-total E n f g (λ j i. h j (omega arith))) (h n (omega arith))

over_wider : (E F : ℕ) (x : Ratio) (z : ℤ) → IsOver E x z → IsOver (E * F) x (z *ℤ pos F)
over_wider E F x z p = record { is = sym (times-times x.num E F) ∙ ap (λ k. k *ℤ pos F) p.is ∙ times_swap z x.den F }

over_wider_left : (E F : ℕ) (x : Ratio) (z : ℤ) → IsOver F x z → IsOver (E * F) x (pos E *ℤ z)
over_wider_left E F x z p =
    record { is = ap (λ k. x.num *ℤ pos k) (omega arith) ∙ sym (times-times x.num F E) ∙ ap (λ k. k *ℤ pos E) p.is ∙ times_swap z x.den E ∙ ap (λ k. k *ℤ pos x.den) (*ℤ_comm z (pos E)) }

crossed : (E : ℕ) (x y : Ratio) (z : ℤ) → IsOver E x z → x.num *ℤ pos y.den *ℤ pos E ≡ z *ℤ pos (x.den * y.den)
crossed E x y z p = times_swap x.num y.den E ∙ ap (λ k. k *ℤ pos y.den) p.is ∙ times-times z x.den y.den

-- the order of numbers is that of the whole ones
over_most : (E : ℕ) (x y : Ratio) (z w : ℤ) → IsNumber x → IsNumber y → IsOver E x z → IsOver E y w → IsAtMost x y → z ≤ℤ w
over_most E x y z w px py p q h =
    let a = more-times (x.num *ℤ pos y.den) (y.num *ℤ pos x.den) E h in
    let e = crossed E x y z p in
    let f = crossed E y x w q ∙ ap (λ k. w *ℤ pos k) (let g : y.den * x.den ≡ x.den * y.den = omega arith in g) in
    most-from_times z w (x.den * y.den) (mul-pos px py) (omega (arith, ints))

most_over : (E : ℕ) (x y : Ratio) (z w : ℤ) → 0 < E → IsOver E x z → IsOver E y w → z ≤ℤ w → IsAtMost x y
most_over E x y z w up p q h =
    let a = more-times z w (x.den * y.den) h in
    let e = crossed E x y z p in
    let f = crossed E y x w q ∙ ap (λ k. w *ℤ pos k) (let g : y.den * x.den ≡ x.den * y.den = omega arith in g) in
    most-from_times (x.num *ℤ pos y.den) (y.num *ℤ pos x.den) E up (omega (arith, ints))

-- a number between two ends, by whole numbers
cleared : (S d : ℕ) (r : Range) (v : Ratio) (z : ℤ) → 0 < S → 0 < d → HasNumbers r → Divides S r → IsNumber v → IsOver (S * d) v z → IsBetween r v ↔ IsBetweenOver S r d z
cleared S d r v z us ud h k p o = (
  λ b. record { low = low_to r.lb h.0 k.0 b.low; high = high_to r.ub h.1 k.1 b.high },
  λ b. record { low = low_from r.lb k.0 b.low; high = high_from r.ub k.1 b.high },
)
  where
    low_to : (e : Option Ratio) → IfSome e IsNumber → IfSome e (λ l. l.den ∣ S) → IfSome e (λ l. IsAtMost l v) → IfSome e (λ l. (times_of S l *ℤ pos d) ≤ℤ z)
    low_to None a b c = c
    low_to (Some l) a b c = over_most (S * d) l v (times_of S l *ℤ pos d) z a p (over_wider S d l (times_of S l) (over_times S l b)) o c

    high_to : (e : Option Ratio) → IfSome e IsNumber → IfSome e (λ l. l.den ∣ S) → IfSome e (λ u. IsAtMost v u) → IfSome e (λ u. z ≤ℤ (times_of S u *ℤ pos d))
    high_to None a b c = c
    high_to (Some u) a b c = over_most (S * d) v u z (times_of S u *ℤ pos d) p a o (over_wider S d u (times_of S u) (over_times S u b)) c

    low_from : (e : Option Ratio) → IfSome e (λ l. l.den ∣ S) → IfSome e (λ l. (times_of S l *ℤ pos d) ≤ℤ z) → IfSome e (λ l. IsAtMost l v)
    low_from None b c = c
    low_from (Some l) b c = most_over (S * d) l v (times_of S l *ℤ pos d) z (mul-pos us ud) (over_wider S d l (times_of S l) (over_times S l b)) o c

    high_from : (e : Option Ratio) → IfSome e (λ l. l.den ∣ S) → IfSome e (λ u. z ≤ℤ (times_of S u *ℤ pos d)) → IfSome e (λ u. IsAtMost v u)
    high_from None b c = c
    high_from (Some u) b c = most_over (S * d) v u z (times_of S u *ℤ pos d) (mul-pos us ud) o (over_wider S d u (times_of S u) (over_times S u b)) c

entry_divides : (S : ℕ) (es : List Entry) → All (λ e. e.value.den ∣ S) es → (i j : ℕ) → (entry_at es i j).den ∣ S
entry_divides S [] p i j = one_divides S
entry_divides S (e ∷ es) p i j =
    pick (λ x. x.den ∣ S) (nat_eq e.row i && nat_eq e.variable j) e.value (entry_at es i j) (All-head (λ f. f.value.den ∣ S) e es p) (entry_divides S es (All-tail (λ f. f.value.den ∣ S) e es p) i j)

cost_divides : (S : ℕ) (cs : List Ratio) → All (λ c. c.den ∣ S) cs → (j : ℕ) → (value_at cs j).den ∣ S
cost_divides S cs p j = All-anywhere (λ c. c.den ∣ S) cs none (one_divides S) p j

-- a whole number over d is d times a whole number
whole_over : (x : Ratio) (n : ℤ) (d : ℕ) → IsNumber x → IsOver d x n → IsWhole x → (q : ℤ) × (n ≡ q *ℤ pos d)
whole_over x n d up o w =
    let e : x.num ≡ w.number *ℤ pos x.den = sym (one_times x.num) ∙ *ℤ_comm (pos 1) x.num ∙ w.same in
    (w.number, same_multiple n (w.number *ℤ pos d) x.den up (sym o.is ∙ ap (λ k. k *ℤ pos d) e ∙ times_swap w.number x.den d))

over_whole : (x : Ratio) (n : ℤ) (d : ℕ) → 0 < d → IsOver d x n → (q : ℤ) × (n ≡ q *ℤ pos d) → IsWhole x
over_whole x n d up o w =
    let e : x.num ≡ w.0 *ℤ pos x.den = same_multiple x.num (w.0 *ℤ pos x.den) d up (o.is ∙ ap (λ k. k *ℤ pos x.den) w.1 ∙ times_swap w.0 d x.den) in
    record { number = w.0; same = *ℤ_comm x.num (pos 1) ∙ one_times x.num ∙ e }

module _ (I : Instance) (S : ℕ) (x : List Ratio) (p : List ℤ) (d : ℕ) (good : IsInstance I) (common : IsCommon I S) (at : IsOverOne x p d) where
  value_over : (j : ℕ) → IsOver d (value_at x j) (number_at p j)
  value_over j = record { is = at.same j }

  value_up : (j : ℕ) → IsNumber (value_at x j)
  value_up j = value-number x at.numbers j

  activity_over : (i : ℕ) → IsOver (S * d) (activity I x i) (whole_total (width I) (λ j. times_of S (entry_at I.entries i j) *ℤ number_at p j))
  activity_over i =
      over-total (S * d) (width I) (λ j. product (entry_at I.entries i j) (value_at x j)) (λ j. times_of S (entry_at I.entries i j) *ℤ number_at p j)
      (λ j h. over-product S d (entry_at I.entries i j) (value_at x j) (times_of S (entry_at I.entries i j)) (number_at p j) (over_times S (entry_at I.entries i j) (entry_divides S I.entries common.entries i j)) (value_over j))

  variable_cleared : (j : ℕ) → IsBetween (variable_at I j).range (value_at x j) ↔ IsBetweenOver S (variable_at I j).range d (pos S *ℤ number_at p j)
  variable_cleared j =
      cleared S d (variable_at I j).range (value_at x j) (pos S *ℤ number_at p j) common.above at.above
      (All-anywhere (λ v. HasNumbers v.range) I.variables no_variable (tt, tt) good.variables j)
      (All-anywhere (λ v. Divides S v.range) I.variables no_variable (tt, tt) common.variables j)
      (value_up j) (over_wider_left S d (value_at x j) (number_at p j) (value_over j))

  row_cleared : (i : ℕ) → IsBetween (row_at I i) (activity I x i) ↔ IsBetweenOver S (row_at I i) d (whole_total (width I) (λ j. times_of S (entry_at I.entries i j) *ℤ number_at p j))
  row_cleared i =
      cleared S d (row_at I i) (activity I x i) (whole_total (width I) (λ j. times_of S (entry_at I.entries i j) *ℤ number_at p j)) common.above at.above
      (All-anywhere HasNumbers I.rows free (tt, tt) good.rows i) (All-anywhere (λ r. Divides S r) I.rows free (tt, tt) common.rows i)
      (activity-number I good x at.numbers i) (activity_over i)

  zero_to : (r : Range) (j : ℕ) → HasNumbers r → Divides S r → IsZeroOr r (value_at x j) → IsZeroOrOver S r d (number_at p j)
  zero_to r j h k (inl e) =
      let a : (value_at x j).num ≡ pos 0 = sym (one_times (value_at x j).num) ∙ *ℤ_comm (pos 1) (value_at x j).num ∙ e ∙ zero-*ℤ (pos (value_at x j).den) in
      let o = value_over j in
      inl (same_multiple (number_at p j) (pos 0) (value_at x j).den (value_up j) (sym o.is ∙ ap (λ n. n *ℤ pos d) a ∙ zero-*ℤ (pos d) ∙ sym (zero-*ℤ (pos (value_at x j).den))))
  zero_to r j h k (inr b) = inr (let c = cleared S d r (value_at x j) (pos S *ℤ number_at p j) common.above at.above h k (value_up j) (over_wider_left S d (value_at x j) (number_at p j) (value_over j)) in c.0 b)

  zero_from : (r : Range) (j : ℕ) → HasNumbers r → Divides S r → IsZeroOrOver S r d (number_at p j) → IsZeroOr r (value_at x j)
  zero_from r j h k (inl e) =
      let o = value_over j in
      let a : (value_at x j).num ≡ pos 0 = same_multiple (value_at x j).num (pos 0) d at.above (o.is ∙ ap (λ n. n *ℤ pos (value_at x j).den) e ∙ zero-*ℤ (pos (value_at x j).den) ∙ sym (zero-*ℤ (pos d))) in
      inl (ap (λ n. n *ℤ pos 1) a ∙ zero-*ℤ (pos 1) ∙ sym (zero-*ℤ (pos (value_at x j).den)))
  zero_from r j h k (inr b) = inr (let c = cleared S d r (value_at x j) (pos S *ℤ number_at p j) common.above at.above h k (value_up j) (over_wider_left S d (value_at x j) (number_at p j) (value_over j)) in c.1 b)

  further_cleared : (o : Option Range) (j : ℕ) → IfSome o HasNumbers → IfSome o (Divides S) → IfSome o (λ r. IsZeroOr r (value_at x j)) ↔ IfSome o (λ r. IsZeroOrOver S r d (number_at p j))
  further_cleared None j h k = (λ b. b, λ b. b)
  further_cleared (Some r) j h k = (zero_to r j h k, zero_from r j h k)

  variable_further : (j : ℕ) → IfSome (variable_at I j).unless_zero (λ r. IsZeroOr r (value_at x j)) ↔ IfSome (variable_at I j).unless_zero (λ r. IsZeroOrOver S r d (number_at p j))
  variable_further j = further_cleared (variable_at I j).unless_zero j (further-numbers I good j) (All-anywhere (λ v. IfSome v.unless_zero (Divides S)) I.variables no_variable tt common.further j)

  pub feasible_cleared : IsFeasible I x ↔ IsFeasibleOver I S p d
  feasible_cleared = (
    λ f. record {
      above = at.above;
      count = at.count ∙ f.count;
      variables = λ j h. (variable_cleared j).0 (f.variables j h);
      rows = λ i h. (row_cleared i).0 (f.rows i h);
      whole = λ j h w. whole_over (value_at x j) (number_at p j) d (value_up j) (value_over j) (f.whole j h w);
      further = λ j h. (variable_further j).0 (f.further j h);
    },
    λ f. record {
      count = sym at.count ∙ f.count;
      numbers = at.numbers;
      variables = λ j h. (variable_cleared j).1 (f.variables j h);
      rows = λ i h. (row_cleared i).1 (f.rows i h);
      whole = λ j h w. over_whole (value_at x j) (number_at p j) d at.above (value_over j) (f.whole j h w);
      further = λ j h. (variable_further j).1 (f.further j h);
    },
  )

  pub objective_cleared : IsSame (objective I x) (objective_over I S p d)
  objective_cleared =
      let start : IsOver (S * d) I.goal.constant (times_of S I.goal.constant *ℤ pos d) = over_wider S d I.goal.constant (times_of S I.goal.constant) (over_times S I.goal.constant common.constant) in
      let rest : IsOver (S * d) (total none (width I) (λ j. product (cost_at I j) (value_at x j))) (whole_total (width I) (λ j. times_of S (cost_at I j) *ℤ number_at p j)) =
      over-total (S * d) (width I) (λ j. product (cost_at I j) (value_at x j)) (λ j. times_of S (cost_at I j) *ℤ number_at p j)
      (λ j h. over-product S d (cost_at I j) (value_at x j) (times_of S (cost_at I j)) (number_at p j) (over_times S (cost_at I j) (cost_divides S I.goal.costs common.costs j)) (value_over j)) in
      let all : IsOver (S * d) (sum I.goal.constant (total none (width I) (λ j. product (cost_at I j) (value_at x j)))) (objective_over I S p d).num = over-sum (S * d) _ _ _ _ start rest in
      let whole : IsOver (S * d) (objective I x) (objective_over I S p d).num = subst (λ v. IsOver (S * d) v (objective_over I S p d).num) (sym (total-start I.goal.constant (width I) (λ j. product (cost_at I j) (value_at x j)))) all in
      whole.is
