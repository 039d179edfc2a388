-- Numbers, ends and places: what single columns need.
use Rattle.std.proofs.Common.{◌≡◌, zero, suc, ℤ, pos, negsuc, ◌+ℤ◌, ◌*ℤ◌, neg_ℤ, ◌<ℤ◌, ◌≤ℤ◌, false, Option, None, Some, IfSome, IsSome, refl, sym, ◌∙◌, ap, subst, arith}
use Rattle.std.proofs.Math.IntN.{zero-*ℤ}
use Rattle.std.proofs.lemmas.Int.{ints, by_lt_z}
use Rattle.std.specs.Prelude.{int_lt}
use Rattle.rational.specs.Ratio.{Ratio, sum, product, negative, IsNumber, IsSame, IsBelow, IsAtMost}
use Rattle.rational.proofs.Integers.{neg-times}
use Rattle.evidence.specs.Sums.{none, is_below}
use Rattle.evidence.specs.Instance.{Range, HasNumbers}
use Rattle.evidence.specs.Cases.{IsEmpty, end_by, or_none}
use Rattle.evidence.specs.Point.{IsBetween}
use Rattle.evidence.proofs.Numbers.{◌≈◌, ≈-refl, ◌⊙◌, product-≈, product-none, ≲-from}
use Rattle.evidence.proofs.Columns.{by_bool, none-number}
use Rattle.simplex_rules.specs.declared.columns.Status.{Status}
use Rattle.simplex_rules.specs.declared.columns.Status.TheVariants.{Basic, Lower, Upper, Zero}
use Rattle.simplex_rules.specs.declared.columns.Way.{Way}
use Rattle.simplex_rules.specs.declared.columns.Way.TheVariants.{Rise, Fall}
use Rattle.simplex_rules.specs.Statuses.{is_basic, rest_at, has_width, less, HasPlace}
use Rattle.simplex_rules.specs.Turns.{rate, MovesIn, Can, Misses}
use Rattle.simplex_rules.specs.Reports.{against}
use Rattle.evidence.proofs.Examples.{times_one}
use Rattle.evidence.proofs.UniqueRows.{or_none-number}

pub if_some : (o : Option Ratio) (P : Ratio → Type 0) → ((l : Ratio) → o ≡ Some l → P l) → IfSome o P
if_some None P f = tt
if_some (Some l) P f = f l refl

pub some_is : {o : Option Ratio} {l : Ratio} → o ≡ Some l → IsSome o
some_is {o} {l} e = rw e refl

pub or_is : (o : Option Ratio) (l : Ratio) → o ≡ Some l → or_none o ≡ l
or_is None l e = absurd (cc)
or_is (Some k) l e = cc

pub has_number : (o : Option Ratio) (l : Ratio) → IfSome o IsNumber → o ≡ Some l → IsNumber l
has_number None l p e = absurd (cc)
has_number (Some k) l p e = subst IsNumber (let h : k ≡ l = cc in h) p

pub rest-number : (r : Range) (s : Status) → HasNumbers r → IsNumber (rest_at r s)
rest-number r Basic h = none-number
rest-number r Lower h = or_none-number r.lb h.0
rest-number r Upper h = or_none-number r.ub h.1
rest-number r Zero h = none-number

pub zero_number : (x : Ratio) → IsNumber x → x.num ≡ pos 0 → x ≈ none
zero_number x p e = record { left = p; right = none-number; is = ap (λ z. z *ℤ pos 1) e ∙ zero-*ℤ (pos 1) ∙ sym (zero-*ℤ (pos x.den)) }

pub zero_times : (x y : Ratio) → IsNumber x → IsNumber y → x.num ≡ pos 0 → product x y ≈ none
zero_times x y p q e = product-≈ (zero_number x p e) (≈-refl q) ⊙ product-none y q

pub above_none : (x : Ratio) → pos 0 <ℤ x.num → IsBelow none x
above_none x h = let e = zero-*ℤ (pos x.den) in let f = times_one x.num in omega (arith, ints)

pub below_none : (x : Ratio) → x.num <ℤ pos 0 → IsBelow x none
below_none x h = let e = zero-*ℤ (pos x.den) in let f = times_one x.num in omega (arith, ints)

pub at_least_none : (x : Ratio) → pos 0 ≤ℤ x.num → IsAtMost none x
at_least_none x h = let e = zero-*ℤ (pos x.den) in let f = times_one x.num in omega (arith, ints)

pub at_most_none : (x : Ratio) → x.num ≤ℤ pos 0 → IsAtMost x none
at_most_none x h = let e = zero-*ℤ (pos x.den) in let f = times_one x.num in omega (arith, ints)

-- the distance from the lesser to the greater is above 0
pub above_difference : (a b : Ratio) → IsBelow a b → IsBelow none (sum (negative a) b)
above_difference a b h =
    let e = neg-times a.num (pos b.den) in
    let x : pos 0 <ℤ (neg_ℤ a.num *ℤ pos b.den +ℤ b.num *ℤ pos a.den) = omega (arith, ints) in
    above_none (sum (negative a) b) x

pub below_difference : (a b : Ratio) → IsBelow b a → IsBelow none (negative (sum (negative a) b))
below_difference a b h =
    let e = neg-times a.num (pos b.den) in
    let x : pos 0 <ℤ neg_ℤ (neg_ℤ a.num *ℤ pos b.den +ℤ b.num *ℤ pos a.den) = omega (arith, ints) in
    above_none (negative (sum (negative a) b)) x

pub not_below : (x y : Ratio) → (IsBelow x y → ⊥) → IsAtMost y x
not_below x y h = by_lt_z (x.num *ℤ pos y.den) (y.num *ℤ pos x.den) (λ p. absurd (h p)) (λ p. p)

pub below_no : (x y : Ratio) → is_below x y ≡ false → IsBelow x y → ⊥
below_no x y e h = decide (x.num *ℤ pos y.den) (y.num *ℤ pos x.den) e h
  where
    decide : (a b : ℤ) → int_lt a b ≡ false → a <ℤ b → ⊥
    decide a b e h = grind (arith, ints)

-- both ends, where they don't differ
no_room : (lo hi : Option Ratio) → IfSome lo IsNumber → IfSome hi IsNumber → ((l h : Ratio) → lo ≡ Some l → hi ≡ Some h → IsBelow h l → ⊥) → IsSome lo → less lo hi ≡ false → IsSome hi × (or_none hi ≈ or_none lo)
no_room None hi p q r s e = absurd (cc)
no_room (Some l) None p q r s e = absurd (cc)
no_room (Some l) (Some h) p q r s e =
    let a : IsAtMost h l = not_below l h (below_no l h e) in
    let b : IsAtMost l h = not_below h l (r l h refl refl) in
    (refl, record { left = q; right = p; is = let z : IsSame h l = omega (arith, ints) in z })

falls : (w : Way) (x : Ratio) → pos 0 <ℤ (against w x).num → MovesIn w (rate Fall x)
falls Rise x h = h
falls Fall x h = let z : neg_ℤ x.num <ℤ pos 0 = omega (arith, ints) in z

rises : (w : Way) (x : Ratio) → (against w x).num <ℤ pos 0 → MovesIn w (rate Rise x)
rises Rise x h = let k : neg_ℤ x.num <ℤ pos 0 = h in let z : pos 0 <ℤ x.num = omega (arith, ints) in z
rises Fall x h = h

-- where a column doesn't help, its multiplier has an end on its side, and the column stands there
pub met : (w : Way) (r : Range) (s : Status) (x : Ratio) → HasNumbers r → (IsEmpty r → ⊥) → HasPlace r s → is_basic s ≡ false → ((v : Way) → Can v r s → MovesIn w (rate v x) → ⊥) → ((against w x).num ≡ pos 0 → ⊥) → IsSome (end_by (against w x).num r) × (or_none (end_by (against w x).num r) ≈ rest_at r s)
met w r s x hn room place nb off nz = by (against w x).num refl s place nb off
  where
    up : (s : Status) → HasPlace r s → is_basic s ≡ false → ((v : Way) → Can v r s → MovesIn w (rate v x) → ⊥) → pos 0 <ℤ (against w x).num → IsSome r.lb × (or_none r.lb ≈ rest_at r s)
    up Basic place nb off h = absurd (cc)
    up Lower place nb off h = (place, ≈-refl (or_none-number r.lb hn.0))
    up Upper place nb off h = absurd (off Fall tt (falls w x h))
    up Zero place nb off h = absurd (off Fall tt (falls w x h))

    down : (s : Status) → HasPlace r s → is_basic s ≡ false → ((v : Way) → Can v r s → MovesIn w (rate v x) → ⊥) → (against w x).num <ℤ pos 0 → IsSome r.ub × (or_none r.ub ≈ rest_at r s)
    down Basic place nb off h = absurd (cc)
    down Lower place nb off h =
        by_bool (has_width r) (λ e. absurd (off Rise e (rises w x h)))
        (λ e. no_room r.lb r.ub hn.0 hn.1 (λ l k p q b. room (l, k, p, q, b)) place e)
    down Upper place nb off h = (place.0, ≈-refl (or_none-number r.ub hn.1))
    down Zero place nb off h = absurd (off Rise tt (rises w x h))

    by : (z : ℤ) → (against w x).num ≡ z → (s : Status) → HasPlace r s → is_basic s ≡ false → ((v : Way) → Can v r s → MovesIn w (rate v x) → ⊥) → IsSome (end_by z r) × (or_none (end_by z r) ≈ rest_at r s)
    by (pos zero) e s place nb off = absurd (nz e)
    by (pos (suc n)) e s place nb off = up s place nb off (let h : pos 0 <ℤ (against w x).num = omega (arith, ints) in h)
    by (negsuc n) e s place nb off = down s place nb off (let h : (against w x).num <ℤ pos 0 = omega (arith, ints) in h)

-- a column that isn't basic is within its ends
pub rest_between : (r : Range) (s : Status) → HasNumbers r → (IsEmpty r → ⊥) → HasPlace r s → is_basic s ≡ false → IsBetween r (rest_at r s)
rest_between r Basic hn room place nb = absurd (cc)
rest_between r Lower hn room place nb = record {
  low = if_some r.lb (λ l. IsAtMost l (or_none r.lb)) (λ l e. let f = or_is r.lb l e in rw f (let a = ≲-from (≈-refl (has_number r.lb l hn.0 e)) in a.is));
  high = if_some r.ub (λ h. IsAtMost (or_none r.lb) h) (λ h e. low_high r.lb h place (λ l f b. room (l, h, f, e, b)));
}
  where
    low_high : (o : Option Ratio) (h : Ratio) → IsSome o → ((l : Ratio) → o ≡ Some l → IsBelow h l → ⊥) → IsAtMost (or_none o) h
    low_high None h s f = absurd (cc)
    low_high (Some l) h s f = not_below h l (f l refl)
rest_between r Upper hn room place nb = record {
  low = if_some r.lb (λ l. IsAtMost l (or_none r.ub)) (λ l e. high_low r.ub l place.0 (λ h f b. room (l, h, e, f, b)));
  high = if_some r.ub (λ h. IsAtMost (or_none r.ub) h) (λ h e. let f = or_is r.ub h e in rw f (let a = ≲-from (≈-refl (has_number r.ub h hn.1 e)) in a.is));
}
  where
    high_low : (o : Option Ratio) (l : Ratio) → IsSome o → ((h : Ratio) → o ≡ Some h → IsBelow h l → ⊥) → IsAtMost l (or_none o)
    high_low None l s f = absurd (cc)
    high_low (Some h) l s f = not_below h l (f h refl)
rest_between r Zero hn room place nb = record {
  low = if_some r.lb (λ l. IsAtMost l none) (λ l e. absurd (let f = place.0 in cc));
  high = if_some r.ub (λ h. IsAtMost none h) (λ h e. absurd (let f = place.1 in cc));
}

-- a basic column that isn't out is within its ends
pub kept_between : (r : Range) (x : Ratio) → ((v : Way) → Misses v r x → ⊥) → IsBetween r x
kept_between r x h = record {
  low = if_some r.lb (λ l. IsAtMost l x) (λ l e. not_below x l (λ b. h Rise (l, e, b)));
  high = if_some r.ub (λ k. IsAtMost x k) (λ k e. not_below k x (λ b. h Fall (k, e, b)));
}
