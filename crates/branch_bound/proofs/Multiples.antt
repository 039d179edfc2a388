-- A direction times its factor, place by place.
use Rattle.std.proofs.Common.{◌≡◌, ℕ, ◌+◌, ◌<◌, ℤ, pos, negsuc, ◌<ℤ◌, List, [], ◌∷◌, ◌++◌, length, arith, refl, sym, ◌∙◌, ap, subst}
use Rattle.std.specs.Prelude.{unsigned_abs}
use Rattle.std.proofs.lemmas.Int.{ints}
use Rattle.std.proofs.lemmas.List.{map-append, length-map}
use Rattle.std.proofs.Math.ListN.{get_or-append}
use Rattle.std.proofs.Math.Seq.{get_or-append_seam}
use Rattle.rational.specs.Ratio.{Ratio, whole, product, IsSame}
use Rattle.rational.specs.Width.{ReducedFits}
use Rattle.fraction.specs.Frac.{ratio, ratios}
use Rattle.fraction.specs.declared.frac.Frac.{Frac}
use Rattle.evidence.specs.Sums.{none}
use Rattle.evidence.specs.Instance.{Instance, width}
use Rattle.evidence.specs.Point.{value_at}
use Rattle.evidence.proofs.Numbers.{product-number}
use Rattle.evidence.proofs.Columns.{by_lt}
use Rattle.search_rules.specs.Rays.{IsFactor, IsMultiple, IsScaled}
use Rattle.search_rules.proofs.Rays.{one_factor}

above_is : (k : ℤ) → pos 0 <ℤ k → k ≡ pos (unsigned_abs k)
above_is (pos n) h = refl
above_is (negsuc n) h = absurd (omega (arith, ints))

-- a whole number above 0, as a fraction
pub factor_is : (b : Frac) (k : ℤ) → ratio b ≡ whole k → pos 0 <ℤ k → ratio b ≡ whole (pos (unsigned_abs b.numer))
factor_is b k e up =
    let n : b.numer ≡ k = ap (λ (r : Ratio). r.num) e in
    e ∙ ap whole (above_is k up ∙ ap (λ z. pos (unsigned_abs z)) (sym n))

pub multiple_of : (f : ℕ) (x : Ratio) (s b m : Frac) → x ≡ ratio s → ratio b ≡ whole (pos f) → IsSame (ratio m) (product (ratio s) (ratio b)) → IsMultiple f x (ratio m)
multiple_of f x s b m ex eb same = record {
  reduced = (m.above, m.reduced);
  within = (m.numer_within, m.denom_within);
  same = subst (λ y. IsSame (ratio m) (product y (whole (pos f)))) (sym ex) (subst (λ y. IsSame (ratio m) (product (ratio s) y)) eb same);
}

-- what holds of each number of a list, and of one more
pub ratios_more : (Q : ℕ → Ratio → Type 0) (xs : List Frac) (j : ℕ) (m : Frac) → length xs ≡ j → ((i : ℕ) → i < j → Q i (value_at (ratios xs) i)) → Q j (ratio m) → (i : ℕ) → i < j + 1 → Q i (value_at (ratios (xs ++ m ∷ [])) i)
ratios_more Q xs j m long before own i h =
    let n = length-map xs ratio in
    let appended : ratios (xs ++ m ∷ []) ≡ ratios xs ++ ratio m ∷ [] = map-append ratio xs (m ∷ []) in
    by_lt i j
    (λ l. subst (Q i) (sym (ap (λ ys. value_at ys i) appended ∙ get_or-append (ratios xs) (ratio m ∷ []) none i (omega arith))) (before i l))
    (λ l.
    let e : i ≡ length (ratios xs) = omega arith in
    let q : j ≡ i = omega arith in
    let read : value_at (ratios (xs ++ m ∷ [])) i ≡ ratio m = ap (λ ys. value_at ys i) appended ∙ ap (value_at (ratios xs ++ ratio m ∷ [])) e ∙ get_or-append_seam (ratios xs) (ratio m) [] none in
    subst (Q i) (sym read) (subst (λ k. Q k (ratio m)) q own))

-- where one movement times the factor doesn't fit, there is no ray
pub no_ray : (I : Instance) (d : List Ratio) (f j : ℕ) (s b : Frac) → IsFactor I d (width I) f → j < width I → value_at d j ≡ ratio s → ratio b ≡ whole (pos f) → (ReducedFits (product (ratio s) (ratio b)) → ⊥) → (r : List Ratio) → IsScaled I d r → ⊥
no_ray I d f j s b least low es eb wide r scaled =
    let e : scaled.factor ≡ f = one_factor I d (width I) scaled.factor f scaled.least least in
    let m : IsMultiple f (value_at d j) (value_at r j) = subst (λ g. IsMultiple g (value_at d j) (value_at r j)) e (scaled.movements j low) in
    let same : IsSame (value_at r j) (product (ratio s) (ratio b)) = subst (λ y. IsSame (value_at r j) (product (ratio s) y)) (sym eb) (subst (λ y. IsSame (value_at r j) (product y (whole (pos f)))) es m.same) in
    wide (record { number = product-number (ratio s) (ratio b) s.above b.above; form = value_at r j; same = same; reduced = m.reduced; within = m.within })
