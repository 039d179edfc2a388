-- Ratios that are decimals.
use Rattle.std.proofs.Common.{◌≡◌, ◌≢◌, ℕ, zero, suc, ◌+◌, ◌*◌, ◌/◌, ◌%◌, ◌^◌, ◌<◌, ◌≤◌, ◌⊎◌, inl, inr, Option, Some, None, true, false, is_some, refl, ap, sym, ◌∙◌, subst, arith}
use Rattle.std.specs.Int.{IsGcd, ◌∣◌}
use Rattle.std.proofs.Math.Nat.{dvd-mul_left, le_of_mul-le-mul_right, mul-le-mul_left, pow-le-pow_right}
use Rattle.std.proofs.lemmas.Nat.{div-add-mod'}
use Rattle.std.proofs.lemmas.Nat.Gcd.{mod-eq-zero_of_dvd}
use Rattle.std.proofs.lemmas.Bool.Decides.{leb_tells}
use Rattle.rational.specs.Width.{most}
use Rattle.rational.proofs.CommonDivisors.{coprime_from_IsGcd, coprime_swap, divides_other}
use Rattle.decimal_text.specs.Parts.{IsKeptSize}
use Rattle.decimal_text.specs.Places.{HasPlaces}
use Rattle.decimal_text.proofs.Powers.{far, ten_more}

-- the denominator of a decimal in lowest terms divides its power of ten
pub power_divided : (size denom n j : ℕ) → IsGcd size denom 1 → size * 10 ^ j ≡ n * denom → 10 ^ j % denom ≡ 0
power_divided size denom n j g e =
    let swapped = coprime_swap size denom (coprime_from_IsGcd size denom g) in
    mod-eq-zero_of_dvd denom (divides_other denom size (10 ^ j) swapped (subst (λ m. denom ∣ m) (sym e) (dvd-mul_left denom n)))

whole_power : (denom p : ℕ) → 10 ^ p % denom ≡ 0 → 10 ^ p / denom * denom ≡ 10 ^ p
whole_power denom p h = omega (arith, div-add-mod' (10 ^ p) denom, h)

numerator : (size denom p : ℕ) → 10 ^ p % denom ≡ 0 → size * 10 ^ p ≡ size * (10 ^ p / denom) * denom
numerator size denom p h = omega (arith, ap (λ x. size * x) (whole_power denom p h))

least_short : (size denom p n : ℕ) → IsGcd size denom 1 → ((j : ℕ) → j < p → 10 ^ j % denom ≡ 0 → ⊥) → size * 10 ^ p ≡ n * denom → (p ≡ 0) ⊎ (n % 10 ≢ 0)
least_short size denom zero n g before e = inl refl
least_short size denom (suc q) n g before e =
    inr (λ h.
    let tens : n / 10 * 10 + n % 10 ≡ n = div-add-mod' n 10 in
    let exact : n ≡ n / 10 * 10 = omega (arith, tens, h) in
    let less : size * 10 ^ q ≡ n / 10 * denom = omega (arith, e, ap (λ x. x * denom) exact, ap (λ x. size * x) (ten_more q), ap (λ k. size * 10 ^ k) (let s : suc q ≡ q + 1 = omega arith in s)) in
    before q (omega arith) (power_divided size denom (n / 10) q g less))

pub found_places : (size denom p : ℕ) (kept : Option ℕ) → IsGcd size denom 1 → p ≤ 38 → ((j : ℕ) → j < p → 10 ^ j % denom ≡ 0 → ⊥) → 10 ^ p % denom ≡ 0 → IsKeptSize (size * (10 ^ p / denom)) kept → is_some kept ≡ true → HasPlaces size denom
found_places size denom p None g near before h k s = cc
found_places size denom p (Some m) g near before h k s =
    let same : size * 10 ^ p ≡ m * denom = numerator size denom p h ∙ ap (λ x. x * denom) (sym k.0) in
    record { places = p; n = m; near = near; same = same; small = k.1; least = least_short size denom p m g before same }

pub not_before : (size denom p : ℕ) → IsGcd size denom 1 → ((j : ℕ) → j < p → 10 ^ j % denom ≡ 0 → ⊥) → (n j : ℕ) → size * 10 ^ j ≡ n * denom → j < p → ⊥
not_before size denom p g before n j e h = before j h (power_divided size denom n j g e)

pub too_great : (size denom p : ℕ) (kept : Option ℕ) → IsGcd size denom 1 → 0 < denom → ((j : ℕ) → j < p → 10 ^ j % denom ≡ 0 → ⊥) → 10 ^ p % denom ≡ 0 → IsKeptSize (size * (10 ^ p / denom)) kept → is_some kept ≡ false → (n j : ℕ) → n ≤ most → size * 10 ^ j ≡ n * denom → ⊥
too_great size denom p (Some m) g up before h k s n j small e = cc
too_great size denom p None g up before h k s n j small e =
    elim (leb_tells p j) [
      | inl le ↦
          let power : 10 ^ p ≤ 10 ^ j = pow-le-pow_right {n = 10} (omega arith) {i = p} {j = j} le.1 in
          let sizes : size * 10 ^ p ≤ size * 10 ^ j = mul-le-mul_left {m = 10 ^ p} {n = 10 ^ j} size power in
          let cross : size * (10 ^ p / denom) * denom ≤ n * denom = omega (arith, sizes, e, numerator size denom p h) in
          let below : size * (10 ^ p / denom) ≤ n = le_of_mul-le-mul_right {m = size * (10 ^ p / denom)} {n = n} {k = denom} cross up in
          omega (arith, below, k, small)
      | inr gt ↦ not_before size denom p g before n j e (let k = gt.1 in omega (arith, k))
    ]

pub none_near : (size denom : ℕ) → IsGcd size denom 1 → ((j : ℕ) → j < 39 → 10 ^ j % denom ≡ 0 → ⊥) → (n j : ℕ) → 10 ^ j ≤ most → size * 10 ^ j ≡ n * denom → ⊥
none_near size denom g before n j small e =
    elim (leb_tells 39 j) [
      | inl le ↦ omega (arith, small, far j (let k = le.1 in omega (arith, k)))
      | inr gt ↦ not_before size denom 39 g before n j e (let k = gt.1 in omega (arith, k))
    ]
