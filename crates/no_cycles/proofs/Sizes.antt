-- Numbers of a form whose numerator fits: sums that fit, the values of a basis that fit, and the floor of such a number.
use Rattle.std.proofs.Common.{◌≡◌, ℕ, zero, suc, ◌+◌, ◌*◌, ◌/◌, ◌<◌, ◌≤◌, ℤ, pos, negsuc, neg_ℤ, ◌+ℤ◌, ◌*ℤ◌, ◌<ℤ◌, ◌≤ℤ◌, refl, sym, ◌∙◌, ap, subst, arith}
use Rattle.std.specs.Prelude.{unsigned_abs}
use Rattle.std.proofs.Math.Nat.{div-mul-le_self, le-div_iff_mul-le, pos_of_dvd_of_pos}
use Rattle.std.proofs.lemmas.Int.{ints}
use Rattle.rational.specs.Ratio.{Ratio, sum, product, IsNumber, IsSame, IsFloor}
use Rattle.rational.specs.Whole.{signed}
use Rattle.rational.specs.Width.{most, left_term, right_term, IsWithin, SumFits}
use Rattle.rational.proofs.CommonDivisors.{has_gcd}
use Rattle.rational.proofs.Forms.{sums_alike}
use Rattle.rational.proofs.Integers.{more-times, above-times, most-from_times, below-from_times, neg-times}
use Rattle.rational.proofs.ReducedForms.{reduce}
use Rattle.rational.proofs.Scaling.{times_swap, IsSame-trans}
use Rattle.rational.proofs.Signs.{as_signed}
use Rattle.evidence.specs.Sums.{none, IsWhole, IsCeiling}
use Rattle.evidence.specs.Width.{TermFits, StatedFits}
use Rattle.evidence.proofs.Numbers.{◌≈◌, ≈-refl, ≈-sym, ◌▹◌, ◌⊙◌, sum-≈, sum-none, sum-number, product-number, product_swap, ≈-from}
use Rattle.evidence.proofs.Totals.{total-number}
use Rattle.evidence.proofs.Columns.{by_lt, none-number}
use Rattle.fraction.proofs.Sums.{made_sum}
use Rattle.bases.specs.Dictionary.{value_by}
use Rattle.simplex_rules.proofs.Facts.{zero_times}
use Rattle.no_cycles.proofs.Floors.{floor_within}

pub by_zero : {P : Type 0} (z : ℤ) → (z ≡ pos 0 → P) → ((z ≡ pos 0 → ⊥) → P) → P
by_zero (pos zero) f g = f refl
by_zero (pos (suc n)) f g = g (λ e. cc)
by_zero (negsuc n) f g = g (λ e. cc)

-- x has a form whose numerator is within the greatest size
pub record IsSized (x : Ratio) : Type 0 where
  pub form : Ratio
  pub number : IsNumber form
  pub small : unsigned_abs form.num ≤ most
  pub same : IsSame form x

pub sized_within : (x : Ratio) → IsNumber x → IsWithin x → IsSized x
sized_within x p h = record { form = x; number = p; small = h.0; same = refl }

pub sized_none : IsSized none
sized_none = record { form = none; number = none-number; small = omega arith; same = refl }

pub sized_alike : (x y : Ratio) → IsNumber x → IsSame x y → IsSized x → IsSized y
sized_alike x y p h s = record { form = s.form; number = s.number; small = s.small; same = IsSame-trans s.form x y p s.same h }

-- a sum that fits (Knuth, The Art of Computer Programming, volume 2, section 4.5.1)
sized_sum : (s p : Ratio) → SumFits s p → IsSized (sum s p)
sized_sum s p fits =
    let x = reduce s fits.left in
    let y = reduce p fits.right in
    let nx : 0 < x.form.den = let r = x.reduced in r.0 in
    let ny : 0 < y.form.den = let r = y.reduced in r.0 in
    let g = has_gcd x.form.den y.form.den in
    let all : ℤ = left_term x.form y.form g.0 +ℤ right_term x.form y.form g.0 in
    let h = has_gcd (unsigned_abs all) g.0 in
    let g_up : 0 < g.0 = pos_of_dvd_of_pos g.1.1 ny in
    let h_up : 0 < h.0 = pos_of_dvd_of_pos h.1.1 g_up in
    let sign = as_signed all in
    let n : ℤ = signed sign.0 (unsigned_abs all / h.0) in
    let four = fits.by x.form y.form x.reduced y.reduced x.same y.same g.0 h.0 g.1 h.1 in
    let made = made_sum x.form y.form all n g.0 h.0 x.reduced y.reduced g_up h_up g.1 h.1 refl (sign.0, sign.1, refl) in
    let least = made.small in
    let within = four.total in
    record {
      form = record { num = n; den = x.form.den / g.0 * (y.form.den / h.0) };
      number = made.above;
      small = omega arith;
      same = IsSame-trans _ (sum x.form y.form) (sum s p) (sum-number x.form y.form nx ny) made.same (sums_alike x.form y.form s p ny fits.left fits.right x.same y.same);
    }

-- a term that isn't 0 is added by a sum that fits
sized_more : (s a x : Ratio) → IsNumber s → IsNumber a → IsNumber x → TermFits s a x → IsSized s → IsSized (sum s (product a x))
sized_more s a x ps pa px fits old =
    by_zero a.num
    (λ e. gone (zero_times a x pa px e))
    (λ d. by_zero x.num
    (λ e. gone (≈-from (product-number a x pa px) (product_swap a x) ⊙ zero_times x a px pa e))
    (λ f. sized_sum s (product a x) (fits.sum d f)))
  where
    gone : product a x ≈ none → IsSized (sum s (product a x))
    gone e =
        let same : sum s (product a x) ≈ s = sum-≈ (≈-refl ps) e ▹ sum-none s in
        let back = ≈-sym same in
        sized_alike s (sum s (product a x)) ps back.is old

pub sized_value : (k : ℕ) (row w : ℕ → Ratio) → ((c : ℕ) → IsNumber (row c)) → ((c : ℕ) → IsNumber (w c)) → StatedFits none k row w → IsSized (value_by k row w)
sized_value zero row w p q fits = sized_none
sized_value (suc n) row w p q fits =
    sized_more (value_by n row w) (row n) (w n) (total-number none n (λ c. product (row c) (w c)) none-number (λ c. product-number (row c) (w c) (p c) (q c))) (p n) (q n) (fits.steps n (omega arith))
    (sized_value n row w p q (record { steps = λ j h. fits.steps j (omega arith) }))

-- ---- floors

abbrev IsFloorOf : ℤ → ℕ → ℤ → Type 0
IsFloorOf n d k = ((k *ℤ pos d) ≤ℤ n) × (n <ℤ ((k +ℤ pos 1) *ℤ pos d))

high_of : (n d : ℕ) → 0 < d → n < (n / d + 1) * d
high_of n d up = by_lt n ((n / d + 1) * d) (λ l. l) (λ l. let least : n / d + 1 ≤ n / d = (le-div_iff_mul-le up).1 l in absurd (omega arith))

floor_at : (n : ℤ) (d : ℕ) → 0 < d → (k : ℤ) × IsFloorOf n d k
floor_at (pos n) d up =
    let low = div-mul-le_self n d in
    let high = high_of n d up in
    (pos (n / d), (omega (arith, ints), omega (arith, ints)))
floor_at (negsuc n) d up =
    let low : n < (n / d + 1) * d = high_of n d up in
    let high : n / d * d ≤ n = div-mul-le_self n d in
    let own : negsuc (n / d) ≡ neg_ℤ (pos (n / d + 1)) = omega (arith, ints) in
    let least : neg_ℤ (pos (n / d + 1)) *ℤ pos d ≡ neg_ℤ (pos ((n / d + 1) * d)) = neg-times (pos (n / d + 1)) (pos d) in
    let next : negsuc (n / d) +ℤ pos 1 ≡ neg_ℤ (pos (n / d)) = omega (arith, ints) in
    let most_of : neg_ℤ (pos (n / d)) *ℤ pos d ≡ neg_ℤ (pos (n / d * d)) = neg-times (pos (n / d)) (pos d) in
    (negsuc (n / d), (subst (λ (z : ℤ). (z *ℤ pos d) ≤ℤ negsuc n) (sym own) (omega (arith, ints)), subst (λ (z : ℤ). negsuc n <ℤ (z *ℤ pos d)) (sym next) (omega (arith, ints))))

pub floor_of : (x : Ratio) → IsNumber x → (k : ℤ) × IsFloor x k
floor_of x p = let (k, f) = floor_at x.num x.den p in (k, record { low = f.0; high = f.1 })

pub ceiling_of : (x : Ratio) → IsNumber x → (k : ℤ) × IsCeiling x k
ceiling_of x p =
    let (m, f) = floor_at (neg_ℤ x.num) x.den p in
    let low = f.0 in
    let high = f.1 in
    let own : neg_ℤ m *ℤ pos x.den ≡ neg_ℤ (m *ℤ pos x.den) = neg-times m (pos x.den) in
    let next : neg_ℤ m +ℤ negsuc 0 ≡ neg_ℤ (m +ℤ pos 1) = omega (arith, ints) in
    let below : neg_ℤ (m +ℤ pos 1) *ℤ pos x.den ≡ neg_ℤ ((m +ℤ pos 1) *ℤ pos x.den) = neg-times (m +ℤ pos 1) (pos x.den) in
    (neg_ℤ m, record { low = subst (λ (z : ℤ). (z *ℤ pos x.den) <ℤ x.num) (sym next) (omega (arith, ints)); high = omega (arith, ints) })

-- the floor of a number of such a form that isn't whole fits, and its next one too
pub sized_floor : (x : Ratio) (k : ℤ) → IsNumber x → IsSized x → (IsWhole x → ⊥) → IsFloor x k → (neg_ℤ (pos most) ≤ℤ k) × (k <ℤ pos most)
sized_floor x k p s part f = floor_within z k two s.small floor
  where
    z : Ratio
    z = s.form

    two : 2 ≤ s.form.den
    two = by_lt s.form.den 2
        (λ l.
        let up = s.number in
        let one : s.form.den ≡ 1 = omega arith in
        let same : x.num *ℤ pos 1 ≡ s.form.num *ℤ pos x.den = ap (λ d. x.num *ℤ pos d) (sym one) ∙ sym s.same in
        absurd (part (record { number = s.form.num; same = same })))
        (λ l. l)

    floor : IsFloor s.form k
    floor =
        let n = s.form.num in
        let d = s.form.den in
        let same : n *ℤ pos x.den ≡ x.num *ℤ pos d = s.same in
        let low = more-times (k *ℤ pos x.den) x.num d f.low in
        let high = above-times x.num ((k +ℤ pos 1) *ℤ pos x.den) d s.number f.high in
        let turn = times_swap k x.den d in
        let turn_next = times_swap (k +ℤ pos 1) x.den d in
        record { low = most-from_times (k *ℤ pos d) n x.den p (omega (arith, ints)); high = below-from_times n ((k +ℤ pos 1) *ℤ pos d) x.den (omega (arith, ints)) }
