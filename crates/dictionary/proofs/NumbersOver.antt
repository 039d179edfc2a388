-- Numbers of fractions over a denominator.
use Rattle.std.proofs.Common.{◌≡◌, ℕ, ◌*◌, ◌/◌, ◌%◌, ◌^◌, ◌<◌, ◌≤◌, Option, None, Some, IfSome, ℤ, pos, ◌*ℤ◌, arith, sym, ◌∙◌, ap, subst}
use Rattle.std.specs.Prelude.{unsigned_abs}
use Rattle.std.specs.Int.{◌∣◌}
use Rattle.std.proofs.Math.Nat.{div-add-mod', mul-mod_left, eq_of_mul-eq-mul_right, div-mul_cancel, dvd-mul_right, pos_of_dvd_of_pos, mul-le-mul, mul-le-mul_left}
use Rattle.std.proofs.lemmas.Nat.Gcd.{le_of_dvd}
use Rattle.std.proofs.lemmas.Int.{unsigned_abs-mul}
use Rattle.rational.specs.Ratio.{Ratio}
use Rattle.rational.specs.Whole.{IsLcm}
use Rattle.fraction.proofs.Multiples.{lcm_by_gcd}
use Rattle.dictionary.specs.Lowest.{divisor_of}
use Rattle.dictionary.specs.Numbers.{IsOver, IsNumberOver}
use Rattle.dictionary.proofs.Lowest.{is_divisor}

module _ (v : Ratio) (d w : ℕ) (whole : w ≡ d) (k m : ℤ) (ek : k ≡ v.num) (em : m ≡ k *ℤ pos (w / v.den)) where
  size : unsigned_abs m ≡ unsigned_abs v.num * (w / v.den)
  size = ap unsigned_abs em ∙ unsigned_abs-mul k (pos (w / v.den)) ∙ ap (λ z. unsigned_abs z * (w / v.den)) ek

  pub made_over : (r : Option ℤ) → w % v.den ≡ 0 → IfSome r (λ z. (z ≡ m) × (unsigned_abs m < 2 ^ 63)) → IfSome r (λ n. IsNumberOver d v n)
  made_over None rest h = tt
  made_over (Some z) rest h = record {
    over = record {
      times = w / v.den;
      is = let e = div-add-mod' w v.den in omega (arith, e, rest, whole);
      fits = subst (λ j. j < 2 ^ 63) size h.1;
    };
    is = h.0 ∙ em ∙ ap (λ y. y *ℤ pos (w / v.den)) ek;
    fits = subst (λ y. unsigned_abs y < 2 ^ 63) (sym h.0) h.1;
  }

  -- how often a denominator goes is told by it
  often : 0 < v.den → (t : ℕ) → t * v.den ≡ d → w / v.den ≡ t
  often up t e =
      let z : w % v.den ≡ 0 = ap (λ j. j % v.den) (whole ∙ sym e) ∙ mul-mod_left t v.den in
      eq_of_mul-eq-mul_right v.den up (w / v.den) t (let a = div-add-mod' w v.den in omega (arith, a, z, e, whole))

  pub none_over : 0 < v.den → 2 ^ 63 ≤ unsigned_abs m → IsOver d v → ⊥
  none_over up big o =
      let t = often up o.times o.is in
      let f = o.fits in
      let s = size ∙ ap (λ j. unsigned_abs v.num * j) t in
      omega (arith, big, f, s)

-- a least common multiple that isn't below 2^63 leaves no lesser common one
pub none_joined : (a b : ℕ) → 0 < a → ((l : ℕ) → IsLcm a b l → 2 ^ 63 ≤ l) → (m : ℕ) → 0 < m → a ∣ m → b ∣ m → 2 ^ 63 ≤ m
none_joined a b up wide m some ha hb =
    let g = is_divisor a b in
    let is = lcm_by_gcd a b (divisor_of a b) (pos_of_dvd_of_pos g.0 up) g in
    let low = wide (a / divisor_of a b * b) is in
    let le = le_of_dvd some (is.2 m ha hb) in
    omega arith

-- a number over a denominator is one over a lesser one that its own divides
pub over_less : (v : Ratio) (l d : ℕ) → 0 < v.den → 0 < d → v.den ∣ l → l ∣ d → IsOver d v → IsOver l v
over_less v l d up some own part o =
    let t : ℕ = l / v.den in
    let q : ℕ = d / l in
    let e : t * v.den ≡ l = div-mul_cancel v.den own in
    let f : q * l ≡ d = div-mul_cancel l part in
    let turn : q * t * v.den ≡ q * (t * v.den) = omega arith in
    let same : q * t ≡ o.times = eq_of_mul-eq-mul_right v.den up (q * t) o.times (turn ∙ ap (λ x. q * x) e ∙ f ∙ sym o.is) in
    let one : 0 < q = pos_of_dvd_of_pos (subst (λ x. q ∣ x) f (dvd-mul_right q l)) some in
    let more : 1 * t ≤ q * t = mul-le-mul (omega arith) (omega arith) in
    let less : t ≤ o.times = omega arith in
    let size : unsigned_abs v.num * t ≤ unsigned_abs v.num * o.times = mul-le-mul_left (unsigned_abs v.num) less in
    let low = o.fits in
    record { times = t; is = e; fits = omega arith }
