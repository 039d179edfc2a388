-- Numbers over one denominator, divided by one of them.
use Rattle.std.proofs.Common.{◌≡◌, ℕ, zero, suc, ◌*◌, ◌^◌, ◌<◌, ◌≤◌, ℤ, pos, negsuc, neg_ℤ, ◌+ℤ◌, ◌*ℤ◌, ◌<ℤ◌, w64, arith, lit<, refl, sym, ◌∙◌, ap, subst}
use mir.Val.{to_z, of_z}
use Rattle.std.specs.Prelude.{unsigned_abs}
use Rattle.std.specs.Int.{IsGcd}
use Rattle.std.proofs.lemmas.Int.{ints}
use Rattle.rational.specs.Ratio.{Ratio, whole, negative, inverse, quotient, IsNumber, IsSame}
use Rattle.rational.specs.Width.{most, ReducedFits}
use Rattle.rational.proofs.Integers.{neg-neg, neg-times, times-neg}
use Rattle.rational.proofs.Scaling.{times-times}
use Rattle.evidence.proofs.Numbers.{◌≈◌, ≈-refl, ≈-sym, ◌⊙◌, product-≈, one_times}
use Rattle.evidence.proofs.Inverses.{inverse-number, negative-≈}
use Rattle.evidence.proofs.Fits.{reduced_same}
use Rattle.common_rows.specs.Row.{over}
use Rattle.common_rows.proofs.Fitting.{reduced_fits}
use Rattle.dictionary.specs.Lowest.{lowest}
use Rattle.dictionary.specs.Numbers.{turned}
use Rattle.dictionary.proofs.Lowest.{lowest-≈}
use Rattle.dictionary.proofs.RowForms.{lowest_alike}

-- the inverse of a number in another form
cross : (a b c d : ℕ) → pos a *ℤ pos b ≡ pos c *ℤ pos d → pos d *ℤ pos c ≡ pos b *ℤ pos a
cross a b c d e = omega (arith, ints, e)

pub inverse_same : (x y : Ratio) → IsNumber x → IsNumber y → (x.num ≡ pos 0 → ⊥) → IsSame x y → IsSame (inverse x) (inverse y)
inverse_same x y px py h e = by x.num y.num x.den y.den px py h e
  where
    by : (a b : ℤ) (c d : ℕ) → 0 < c → 0 < d → (a ≡ pos 0 → ⊥) → a *ℤ pos d ≡ b *ℤ pos c → IsSame (inverse (record { num = a; den = c })) (inverse (record { num = b; den = d }))
    by (pos zero) b c d pc pd h e = absurd (h refl)
    by (pos (suc m)) (pos n) c d pc pd h e = cross (suc m) d n c e
    by (pos (suc m)) (negsuc n) zero d pc pd h e = absurd (omega arith)
    by (pos (suc m)) (negsuc n) (suc c) zero pc pd h e = absurd (omega arith)
    by (pos (suc m)) (negsuc n) (suc c) (suc d) pc pd h e = absurd (omega (arith, ints, e))
    by (negsuc m) (pos n) zero d pc pd h e = absurd (omega arith)
    by (negsuc m) (pos n) (suc c) zero pc pd h e = absurd (omega arith)
    by (negsuc m) (pos n) (suc c) (suc d) pc pd h e = absurd (omega (arith, ints, e))
    by (negsuc m) (negsuc n) c d pc pd h e =
        let turned_e : neg_ℤ (pos (suc m) *ℤ pos d) ≡ neg_ℤ (pos (suc n) *ℤ pos c) = sym (neg-times (pos (suc m)) (pos d)) ∙ e ∙ neg-times (pos (suc n)) (pos c) in
        let sizes : pos (suc m) *ℤ pos d ≡ pos (suc n) *ℤ pos c = sym (neg-neg (pos (suc m) *ℤ pos d)) ∙ ap neg_ℤ turned_e ∙ neg-neg (pos (suc n) *ℤ pos c) in
        neg-times (pos c) (pos (suc n)) ∙ ap neg_ℤ (cross (suc m) d (suc n) c sizes) ∙ sym (neg-times (pos d) (pos (suc m)))

pub inverse-≈ : (x y : Ratio) → (x.num ≡ pos 0 → ⊥) → (y.num ≡ pos 0 → ⊥) → x ≈ y → inverse x ≈ inverse y
inverse-≈ x y hx hy e = record { left = inverse-number x hx; right = inverse-number y hy; is = inverse_same x y e.left e.right hx e.is }

pub abs_neg : (z : ℤ) → unsigned_abs (neg_ℤ z) ≡ unsigned_abs z
abs_neg (pos zero) = refl
abs_neg (pos (suc n)) = refl
abs_neg (negsuc n) = refl

-- a word whose sign is turned
pub neg_word : (z : ℤ) → unsigned_abs z < 2 ^ 63 → to_z w64 (of_z w64 (pos 0 +ℤ neg_ℤ z)) ≡ neg_ℤ z
neg_word (pos zero) h = refl
neg_word (pos (suc n)) h = omega (arith, ints)
neg_word (negsuc n) h = omega (arith, ints)

pub neg_fits : (x : Ratio) → ReducedFits x → ReducedFits (negative x)
neg_fits x fits =
    let near : fits.form ≈ x = record { left = fits.reduced.0; right = fits.number; is = fits.same } in
    let far = negative-≈ near in
    record {
      number = fits.number;
      form = negative fits.form;
      same = far.is;
      reduced = (fits.reduced.0, subst (λ k. IsGcd k fits.form.den 1) (sym (abs_neg fits.form.num)) fits.reduced.1);
      within = (subst (λ k. k ≤ most) (sym (abs_neg fits.form.num)) fits.within.0, fits.within.1);
    }

module _ (f : ℤ) (d : ℕ) (up : 0 < d) (stands : f ≡ pos 0 → ⊥) where
  lowest_stands : (lowest f d).num ≡ pos 0 → ⊥
  lowest_stands z = let a = lowest_alike f d up in stands (a.zero.0 z)

  -- a number over d divided by f over d
  pub quotient_near : (x : Ratio) (n : ℤ) → x ≈ over n d → quotient x (lowest f d) ≈ quotient (over n d) (over f d)
  quotient_near x n e = product-≈ e (inverse-≈ (lowest f d) (over f d) lowest_stands stands (lowest-≈ f d up))

pub turned_up : (p z : ℤ) → pos 0 <ℤ p → turned p z ≡ z
turned_up (pos m) z h = refl
turned_up (negsuc m) z h = absurd (omega (arith, ints))

pub turned_down : (p z : ℤ) → p <ℤ pos 0 → turned p z ≡ neg_ℤ z
turned_down (pos m) z h = absurd (omega (arith, ints))
turned_down (negsuc m) z h = refl

pub turned_none : (p : ℤ) → neg_ℤ (turned p (pos 0)) ≡ pos 0
turned_none (pos m) = refl
turned_none (negsuc m) = refl

turned_size : (f z : ℤ) → unsigned_abs (turned f z) ≡ unsigned_abs z
turned_size (pos m) z = refl
turned_size (negsuc m) z = abs_neg z

inverse_over : (f : ℤ) (d : ℕ) → inverse (over f d) ≡ over (turned f (pos d)) (unsigned_abs f)
inverse_over (pos m) d = refl
inverse_over (negsuc m) d = refl

size_above : (f : ℤ) → (f ≡ pos 0 → ⊥) → 0 < unsigned_abs f
size_above (pos zero) h = absurd (h refl)
size_above (pos (suc m)) h = omega arith
size_above (negsuc m) h = omega arith

divided : (f n : ℤ) (d : ℕ) → n *ℤ turned f (pos d) *ℤ pos (unsigned_abs f) ≡ turned f n *ℤ pos (d * unsigned_abs f)
divided (pos m) n d = times-times n d m
divided (negsuc m) n d =
    ap (λ z. z *ℤ pos (suc m)) (times-neg n (pos d)) ∙ neg-times (n *ℤ pos d) (pos (suc m)) ∙ ap neg_ℤ (times-times n d (suc m)) ∙ sym (neg-times n (pos (d * suc m)))

led : (f : ℤ) (d : ℕ) → pos 1 *ℤ turned f (pos d) *ℤ pos (unsigned_abs f) ≡ turned f (pos d) *ℤ pos (1 * unsigned_abs f)
led f d = ap (λ z. z *ℤ pos (unsigned_abs f)) (one_times (turned f (pos d))) ∙ ap (λ k. turned f (pos d) *ℤ pos k) (let e : unsigned_abs f ≡ 1 * unsigned_abs f = omega arith in e)

module _ (f : ℤ) (d : ℕ) (up : 0 < d) (stands : f ≡ pos 0 → ⊥) where
  pub quotient_is : (n : ℤ) → quotient (lowest n d) (lowest f d) ≈ over (turned f n) (unsigned_abs f)
  quotient_is n =
      let near = quotient_near f d up stands (lowest n d) n (lowest-≈ n d up) in
      let forms : quotient (over n d) (over f d) ≈ over (turned f n) (unsigned_abs f) = record {
        left = near.right;
        right = size_above f stands;
        is = ap (λ (y : Ratio). n *ℤ y.num *ℤ pos (unsigned_abs f)) (inverse_over f d) ∙ divided f n d ∙ ap (λ (y : Ratio). turned f n *ℤ pos (d * y.den)) (sym (inverse_over f d));
      } in
      near ⊙ forms

  pub lead_is : quotient (whole (pos 1)) (lowest f d) ≈ over (turned f (pos d)) (unsigned_abs f)
  lead_is =
      let one : whole (pos 1) ≈ whole (pos 1) = ≈-refl (lit< tt) in
      let near = product-≈ one (inverse-≈ (lowest f d) (over f d) (lowest_stands f d up stands) stands (lowest-≈ f d up)) in
      let forms : quotient (whole (pos 1)) (over f d) ≈ over (turned f (pos d)) (unsigned_abs f) = record {
        left = near.right;
        right = size_above f stands;
        is = ap (λ (y : Ratio). pos 1 *ℤ y.num *ℤ pos (unsigned_abs f)) (inverse_over f d) ∙ led f d ∙ ap (λ (y : Ratio). turned f (pos d) *ℤ pos (1 * y.den)) (sym (inverse_over f d));
      } in
      near ⊙ forms

  fits_by : (x : Ratio) (z : ℤ) → x ≈ over z (unsigned_abs f) → unsigned_abs z ≤ most → unsigned_abs f ≤ most → ReducedFits x
  fits_by x z e lz lf = let b = ≈-sym e in reduced_same (over z (unsigned_abs f)) x e.left b.is (reduced_fits (over z (unsigned_abs f)) (size_above f stands) lz lf)

  pub quotient_fit : (n : ℤ) → unsigned_abs n ≤ most → unsigned_abs f ≤ most → ReducedFits (quotient (lowest n d) (lowest f d))
  quotient_fit n ln lf = fits_by (quotient (lowest n d) (lowest f d)) (turned f n) (quotient_is n) (subst (λ k. k ≤ most) (sym (turned_size f n)) ln) lf

  pub lead_fit : d ≤ most → unsigned_abs f ≤ most → ReducedFits (quotient (whole (pos 1)) (lowest f d))
  lead_fit ld lf = fits_by (quotient (whole (pos 1)) (lowest f d)) (turned f (pos d)) lead_is (subst (λ k. k ≤ most) (sym (turned_size f (pos d))) ld) lf

  -- what is written for the column that comes in, and for others
  pub own_solved : IsSame (lowest (turned f (pos d)) (unsigned_abs f)) (quotient (whole (pos 1)) (lowest f d))
  own_solved = let a = lowest-≈ (turned f (pos d)) (unsigned_abs f) (size_above f stands) ⊙ ≈-sym lead_is in a.is

  pub other_solved : (n : ℤ) → IsSame (lowest (neg_ℤ (turned f n)) (unsigned_abs f)) (negative (quotient (lowest n d) (lowest f d)))
  other_solved n = let a = lowest-≈ (neg_ℤ (turned f n)) (unsigned_abs f) (size_above f stands) ⊙ ≈-sym (negative-≈ (quotient_is n)) in a.is
