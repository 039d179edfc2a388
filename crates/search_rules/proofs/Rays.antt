-- A direction times its factor is a ray, and it has no other one.
use Rattle.std.proofs.Common.{◌≡◌, ℕ, zero, suc, ◌*◌, ◌/◌, ◌<◌, pos, ◌*ℤ◌, ◌<ℤ◌, Bool, true, false, inl, inr, IsTrue, Option, None, Some, IfSome, List, arith, lit<, sym, ◌∙◌, ap, subst}
use Rattle.std.specs.Int.{◌∣◌}
use Rattle.std.specs.List.{All}
use Rattle.std.proofs.lemmas.Int.{ints}
use Rattle.std.proofs.Math.IntN.{zero-*ℤ, *ℤ_comm}
use Rattle.std.proofs.Math.Nat.{div-mul_cancel, dvd-mul_left, dvd-mul_right, pos_of_dvd_of_pos, mul-pos}
use Rattle.std.proofs.lemmas.Nat.Gcd.{dvd_antisymm, dvd_trans}
use Rattle.std.proofs.lemmas.List.{ext_get_or}
use Rattle.std.proofs.lemmas.List.Elements.{All-from_get_or}
use Rattle.rational.specs.Ratio.{Ratio, whole, product, negative, IsNumber, IsBelow, IsAtMost}
use Rattle.rational.proofs.Integers.{above-times}
use Rattle.rational.proofs.Scaling.{IsSame-trans, times-times}
use Rattle.rational.proofs.ReducedForms.{same_reduced}
use Rattle.evidence.specs.Sums.{none, total, IsWhole}
use Rattle.evidence.specs.Instance.{Range, Instance, Sense, Minimum, Maximum, IsInstance, width, variable_at, row_at, cost_at, entry_at, minimising, minimising_by}
use Rattle.evidence.specs.Point.{value_at, activity, NeverLeaves, NeverLeavesZeroOr, IsRay}
use Rattle.evidence.proofs.Numbers.{◌≈◌, ≈-refl, ≈-sym, ◌⊙◌, ◌▹◌, ◌≲◌, ≲-from, ≲-trans, ◌⋖◌, ≲-⋖, product-number, product-≈, product_up, product_swap, product_assoc, negative-product, times_none, one_times}
use Rattle.evidence.proofs.Inverses.{negative-≈}
use Rattle.evidence.proofs.Duality.{minimising-number}
use Rattle.evidence.proofs.Totals.{total-number, total-≈, total_times}
use Rattle.evidence.proofs.Columns.{by_lt, none-number, value-number, entry-number}
use Rattle.simplex_rules.specs.Ends.{IsDirection}
use Rattle.simplex_rules.proofs.Facts.{below_none}
use Rattle.search_rules.specs.Rays.{IsNextFactor, IsFactor, IsMultiple, IsScaled, StaysEither}

module _ (I : Instance) (d : List Ratio) where
  one_next : (b : Bool) (x : Ratio) (e f g : ℕ) → IsNextFactor b x e f → IsNextFactor b x e g → f ≡ g
  one_next true x e f g p q = dvd_antisymm (p.0.2 g q.0.0 q.0.1) (q.0.2 f p.0.0 p.0.1)
  one_next false x e f g p q = p ∙ sym q

  pub one_factor : (n f g : ℕ) → IsFactor I d n f → IsFactor I d n g → f ≡ g
  one_factor zero f g p q = p ∙ sym q
  one_factor (suc j) f g p q =
      one_next (variable_at I j).whole (value_at d j) q.0 f g
      (subst (λ e. IsNextFactor (variable_at I j).whole (value_at d j) e f) (one_factor j p.0 q.0 p.1 q.1) p.2) q.2

  before_divides : (b : Bool) (x : Ratio) (f g : ℕ) → IsNextFactor b x f g → f ∣ g
  before_divides true x f g h = h.0.0
  before_divides false x f g h = rw h (let p = dvd-mul_right f 1 in subst (λ n. f ∣ n) (omega arith) p)

  own_divides : (b : Bool) (x : Ratio) (f g : ℕ) → IsTrue b → IsNextFactor b x f g → x.den ∣ g
  own_divides true x f g w h = h.0.1
  own_divides false x f g w h = absurd (cc)

  -- the factor makes each whole variable's movement whole
  factor_divides : (n f : ℕ) → IsFactor I d n f → (j : ℕ) → j < n → IsTrue (variable_at I j).whole → (value_at d j).den ∣ f
  factor_divides zero f h j low w = absurd (omega arith)
  factor_divides (suc k) f h j low w =
      by_lt j k
      (λ below. dvd_trans _ (factor_divides k h.0 h.1 j below w) (before_divides (variable_at I k).whole (value_at d k) h.0 f h.2))
      (λ up. let e : j ≡ k = omega arith in own_divides (variable_at I j).whole (value_at d j) h.0 f w (subst (λ k. IsNextFactor (variable_at I k).whole (value_at d k) h.0 f) (sym e) h.2))

module _ (I : Instance) (d : List Ratio) (numbers : All IsNumber d) where
  next_above : (b : Bool) (x : Ratio) (f g : ℕ) → IsNumber x → 0 < f → IsNextFactor b x f g → 0 < g
  next_above true x f g n up h = pos_of_dvd_of_pos (h.0.2 (f * x.den) (dvd-mul_right f x.den) (dvd-mul_left x.den f)) (mul-pos up n)
  next_above false x f g n up h = rw h up

  factor_above : (n f : ℕ) → IsFactor I d n f → 0 < f
  factor_above zero f h = rw h (lit< tt)
  factor_above (suc j) f h = next_above (variable_at I j).whole (value_at d j) h.0 f (value-number d numbers j) (factor_above j h.0 h.1) h.2

  one_multiple : (f : ℕ) (x y z : Ratio) → IsNumber x → IsMultiple f x y → IsMultiple f x z → y ≡ z
  one_multiple f x y z n p q = same_reduced y z p.reduced q.reduced (IsSame-trans y (product x (whole (pos f))) z (product-number x (whole (pos f)) n (lit< tt)) p.same (sym q.same))

  pub one_ray : (r s : List Ratio) → IsScaled I d r → IsScaled I d s → r ≡ s
  one_ray r s p q =
      let e : p.factor ≡ q.factor = one_factor I d (width I) p.factor q.factor p.least q.least in
      ext_get_or none r s (p.count ∙ sym q.count)
      (λ j h.
      let k : j < width I = let n = p.count in omega arith in
      one_multiple q.factor (value_at d j) (value_at r j) (value_at s j) (value-number d numbers j) (subst (λ f. IsMultiple f (value_at d j) (value_at r j)) e (p.movements j k)) (q.movements j k))

-- times a factor above 0
module _ (f : ℕ) (up : 0 < f) where
  abbrev F : Ratio
  F = whole (pos f)

  f-number : IsNumber F
  f-number = lit< tt

  low_scaled : (o : Option Ratio) (x y : Ratio) → IsNumber x → y ≈ product F x → IfSome o (λ l. IsAtMost none x) → IfSome o (λ l. IsAtMost none y)
  low_scaled None x y n e h = tt
  low_scaled (Some l) x y n e h =
      let a : none ≲ x = record { left = none-number; right = n; is = h } in
      let b = ≲-trans (≲-from (≈-sym (times_none F f-number))) (≲-trans (product_up f 1 (lit< tt) a) (≲-from (≈-sym e))) in b.is

  high_scaled : (o : Option Ratio) (x y : Ratio) → IsNumber x → y ≈ product F x → IfSome o (λ u. IsAtMost x none) → IfSome o (λ u. IsAtMost y none)
  high_scaled None x y n e h = tt
  high_scaled (Some u) x y n e h =
      let a : x ≲ none = record { left = n; right = none-number; is = h } in
      let b = ≲-trans (≲-from e) (≲-trans (product_up f 1 (lit< tt) a) (≲-from (times_none F f-number))) in b.is

  never_leaves : (r : Range) (x y : Ratio) → IsNumber x → y ≈ product F x → NeverLeaves r x → NeverLeaves r y
  never_leaves r x y n e h = record { low = low_scaled r.lb x y n e h.low; high = high_scaled r.ub x y n e h.high }

  stays_scaled : (o : Option Range) (v x y : Ratio) → IsNumber x → y ≈ product F x → IfSome o (λ e. NeverLeavesZeroOr e v x) → IfSome o (λ e. NeverLeavesZeroOr e v y)
  stays_scaled None v x y n e h = tt
  stays_scaled (Some r) v x y n e (inl s) =
      let z : x ≈ none = record { left = n; right = none-number; is = s } in
      let all : y ≈ none = e ⊙ product-≈ (≈-refl {x = F} f-number) z ⊙ times_none F f-number in inl all.is
  stays_scaled (Some r) v x y n e (inr (b, m)) = inr (b, never_leaves r x y n e m)

  below_scaled : (x y : Ratio) → IsNumber x → y ≈ product F x → IsBelow x none → IsBelow y none
  below_scaled x y n e h =
      let z = zero-*ℤ (pos x.den) in
      let o : x.num *ℤ pos 1 ≡ x.num = *ℤ_comm x.num (pos 1) ∙ one_times x.num in
      let a : x.num <ℤ pos 0 = omega (arith, ints) in
      let b : (x.num *ℤ pos f) <ℤ (pos 0 *ℤ pos f) = above-times x.num (pos 0) f up a in
      let c : (x.num *ℤ pos f) <ℤ pos 0 = subst (λ w. (x.num *ℤ pos f) <ℤ w) (zero-*ℤ (pos f)) b in
      let k : product F x ⋖ none = record { left = product-number F x f-number n; right = none-number; is = subst (λ w. IsBelow w none) (product_swap x F) (below_none (product x F) c) } in
      let g = ≲-⋖ (≲-from e) k in g.is

  turned : (s : Sense) (x y : Ratio) → IsNumber x → y ≈ product F x → minimising_by s y ≈ product F (minimising_by s x)
  turned Minimum x y n e = e
  turned Maximum x y n e = negative-≈ e ▹ (ap negative (product_swap F x) ∙ sym (negative-product x F) ∙ product_swap (negative x) F)

  is_whole : (x y : Ratio) → IsNumber x → y ≈ product F x → x.den ∣ f → IsWhole y
  is_whole x y n e h =
      let q : ℕ = f / x.den in
      let is : q * x.den ≡ f = div-mul_cancel x.den h in
      let same : product x F ≈ whole (x.num *ℤ pos q) = record { left = product-number x F n f-number; right = lit< tt; is = times-times x.num f 1 ∙ ap (λ k. x.num *ℤ pos k) (omega arith) ∙ sym (times-times x.num q (x.den * 1)) } in
      let all : y ≈ whole (x.num *ℤ pos q) = e ▹ product_swap F x ⊙ same in
      record { number = x.num *ℤ pos q; same = all.is }

-- sums over movements
module _ (f n : ℕ) (a x y : ℕ → Ratio) (pa : (j : ℕ) → IsNumber (a j)) (px : (j : ℕ) → IsNumber (x j)) (e : (j : ℕ) → j < n → y j ≈ product (whole (pos f)) (x j)) where
  total_scaled : total none n (λ j. product (a j) (y j)) ≈ product (whole (pos f)) (total none n (λ j. product (a j) (x j)))
  total_scaled =
      let F : Ratio = whole (pos f) in
      total-≈ n (λ j. product (a j) (y j)) (λ j. product F (product (a j) (x j))) (≈-refl none-number)
      (λ j h. product-≈ (≈-refl (pa j)) (e j h) ▹ (sym (product_assoc (a j) F (x j)) ∙ ap (λ w. product w (x j)) (product_swap (a j) F) ∙ product_assoc F (a j) (x j)))
      ⊙ total_times n F (λ j. product (a j) (x j)) (lit< tt) (λ j. product-number (a j) (x j) (pa j) (px j))

pub ray_of : (I : Instance) (x d r : List Ratio) → IsInstance I → StaysEither I x d → IsDirection I d → IsScaled I d r → IsRay I x r
ray_of I x d r good stays h s = record {
  count = s.count;
  numbers = All-from_get_or IsNumber r none (λ j low. number j (let n = s.count in omega arith));
  variables = λ j low. never_leaves f up (variable_at I j).range (value_at d j) (value_at r j) (px j) (scaled j low) (h.variables j low);
  rows = λ i low. never_leaves f up (row_at I i) (activity I d i) (activity I r i) (sum-number (entry_at I.entries i) (entry-number I.entries good.entries i)) (sums (entry_at I.entries i) (entry-number I.entries good.entries i)) (h.rows i low);
  whole = λ j low w. is_whole f up (value_at d j) (value_at r j) (px j) (scaled j low) (factor_divides I d (width I) f s.least j low w);
  further = λ j low. stays_scaled f up (variable_at I j).unless_zero (value_at x j) (value_at d j) (value_at r j) (px j) (scaled j low) (stays j low);
  better =
      let costs = value-number I.goal.costs good.costs in
      let t : Ratio = total none (width I) (λ j. product (cost_at I j) (value_at d j)) in
      let e = turned f up I.goal.sense t (total none (width I) (λ j. product (cost_at I j) (value_at r j))) (sum-number (cost_at I) costs) (sums (cost_at I) costs) in
      below_scaled f up (minimising I t) (minimising I (total none (width I) (λ j. product (cost_at I j) (value_at r j)))) (minimising-number I t (sum-number (cost_at I) costs)) e h.better;
}
  where
    f : ℕ
    f = s.factor

    up : 0 < f
    up = factor_above I d h.numbers (width I) f s.least

    px : (j : ℕ) → IsNumber (value_at d j)
    px = value-number d h.numbers

    number : (j : ℕ) → j < width I → IsNumber (value_at r j)
    number j low = let m = s.movements j low in m.reduced.0

    scaled : (j : ℕ) → j < width I → value_at r j ≈ product (whole (pos f)) (value_at d j)
    scaled j low = let m = s.movements j low in record { left = m.reduced.0; right = product-number (value_at d j) (whole (pos f)) (px j) (lit< tt); is = m.same } ▹ product_swap (value_at d j) (whole (pos f))

    sums : (a : ℕ → Ratio) → ((j : ℕ) → IsNumber (a j)) → total none (width I) (λ j. product (a j) (value_at r j)) ≈ product (whole (pos f)) (total none (width I) (λ j. product (a j) (value_at d j)))
    sums a pa = total_scaled f (width I) a (value_at d) (value_at r) pa px scaled

    sum-number : (a : ℕ → Ratio) → ((j : ℕ) → IsNumber (a j)) → IsNumber (total none (width I) (λ j. product (a j) (value_at d j)))
    sum-number a pa = total-number none (width I) (λ j. product (a j) (value_at d j)) none-number (λ j. product-number (a j) (value_at d j) (pa j) (px j))

-- the factor reads which variables must be whole, and their number, alone
module _ (I J : Instance) (d : List Ratio) (same : (j : ℕ) → (variable_at I j).whole ≡ (variable_at J j).whole) where
  factor_as : (n f : ℕ) → IsFactor I d n f → IsFactor J d n f
  factor_as zero f h = h
  factor_as (suc j) f h = (h.0, factor_as j h.0 h.1, subst (λ b. IsNextFactor b (value_at d j) h.0 f) (same j) h.2)

  pub scaled_as : (r : List Ratio) → width I ≡ width J → IsScaled I d r → IsScaled J d r
  scaled_as r count s = record {
    factor = s.factor;
    least = subst (λ n. IsFactor J d n s.factor) count (factor_as (width I) s.factor s.least);
    count = s.count ∙ count;
    movements = λ j low. s.movements j (subst (λ n. j < n) (sym count) low);
  }
