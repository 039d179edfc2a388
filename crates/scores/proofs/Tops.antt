-- A number of at most 128 bits moved so that 31 binary digits are left of it.
use Rattle.std.proofs.Common.{◌≡◌, ℕ, suc, ◌+◌, ◌-◌, ◌*◌, ◌/◌, ◌^◌, ◌<◌, ◌≤◌, ℤ, pos, ◌+ℤ◌, unsigned_abs, sym, ◌∙◌, ap, subst, pow_pos, pow_mono, pow-add, arith}
use Rattle.std.proofs.Math.Nat.{mul-le-mul_left}
use Rattle.std.proofs.lemmas.Int.{ints}
use Rattle.std.proofs.lemmas.Nat.{le-div, shr_below, shr_split, mod_below, leading_top}
use Rattle.std.specs.Int.Count.{count_leading_zeros}
use Rattle.rational.specs.Ratio.{Ratio}
use Rattle.evidence.proofs.Columns.{by_lt, by_eq}
use Rattle.scores.specs.Scores.{IsLeading, HasDigits}
use Rattle.scores.specs.Scores.HasDigits.{exactly, without_rest}
use Rattle.scores.proofs.Cuts.{Cuts}
use Rattle.scores.proofs.Leads.{leads}

-- a number of 31 digits and k more, without the k
pub drop_cuts : (n k : ℕ) → 2 ^ (30 + k) ≤ n → n < 2 ^ (31 + k) → Cuts n 1 (n / 2 ^ k) k
drop_cuts n k low high =
    let power : 2 ^ (30 + k) ≡ 2 ^ 30 * 2 ^ k = pow-add 2 30 k in
    let parts = shr_split n k in
    let rest = mod_below n (2 ^ k) (pow_pos k) in
    record {
      many = le-div (2 ^ 30) n (2 ^ k) (pow_pos k) (omega (arith, low, power));
      few = shr_below n 31 k high;
      low = omega (arith, parts);
      high = omega (arith, parts, rest);
    }

-- one of more than 31 digits: how many it has more, and its cut
pub long_cuts : (n : ℕ) → 0 < n → n < 2 ^ 128 → 31 < 128 - count_leading_zeros 128 n → Cuts n 1 (n / 2 ^ (128 - count_leading_zeros 128 n - 31)) (128 - count_leading_zeros 128 n - 31)
long_cuts n some fits more =
    let t = leading_top 128 n some fits in
    let k = 128 - count_leading_zeros 128 n - 31 in
    let place : t.0 ≡ 30 + k = omega (arith, t.1, more) in
    let next : suc t.0 ≡ 31 + k = omega (arith, t.1, more) in
    drop_cuts n k (subst (λ (m : ℕ). 2 ^ m ≤ n) place t.2) (subst (λ (m : ℕ). n < 2 ^ m) next t.3)

-- one of at most 31 digits, moved up
pub short_digits : (n : ℕ) → 0 < n → n < 2 ^ 128 → 128 - count_leading_zeros 128 n ≤ 31
    → (2 ^ 30 ≤ n * 2 ^ (31 - (128 - count_leading_zeros 128 n))) × (n * 2 ^ (31 - (128 - count_leading_zeros 128 n)) < 2 ^ 31)
short_digits n some fits few =
    let t = leading_top 128 n some fits in
    let j = 31 - (128 - count_leading_zeros 128 n) in
    let low : 2 ^ 30 ≡ 2 ^ t.0 * 2 ^ j = ap (λ (m : ℕ). 2 ^ m) (let e : 30 ≡ t.0 + j = omega (arith, t.1, few) in e) ∙ pow-add 2 t.0 j in
    let high : 2 ^ 31 ≡ 2 ^ suc t.0 * 2 ^ j = ap (λ (m : ℕ). 2 ^ m) (let e : 31 ≡ suc t.0 + j = omega (arith, t.1, few) in e) ∙ pow-add 2 (suc t.0) j in
    let a : 2 ^ j * 2 ^ t.0 ≤ 2 ^ j * n = mul-le-mul_left (2 ^ j) t.2 in
    let b : 2 ^ j * suc n ≤ 2 ^ j * 2 ^ suc t.0 = mul-le-mul_left (2 ^ j) (let h : suc n ≤ 2 ^ suc t.0 = t.3 in h) in
    let p = pow_pos j in
    (omega (arith, low, a), omega (arith, high, b, p))

-- 31 digits moved up by j are n, so that those of a number are those of x
pub drop_leads : (n k d : ℕ) (p q : ℤ) → Cuts n 1 d k → q ≡ p +ℤ pos k → (x : Ratio) → 0 < x.den → HasDigits x n p → IsLeading x (record { digits = d; power = q })
drop_leads n k d p q c e x above h =
    let y = unsigned_abs x.num in
    let led : (a b : ℕ) → p +ℤ pos b ≡ pos a → n * 2 ^ a * x.den ≤ y * 2 ^ b → y * 2 ^ b < (n + 1) * 2 ^ a * x.den → IsLeading x (record { digits = d; power = q }) =
    λ a b o low high.
    let power : d * 2 ^ (a + k) * x.den ≡ d * (2 ^ a * 2 ^ k) * x.den = ap (λ (m : ℕ). d * m * x.den) (pow-add 2 a k) in
    let next : (d + 1) * 2 ^ (a + k) * x.den ≡ (d + 1) * (2 ^ a * 2 ^ k) * x.den = ap (λ (m : ℕ). (d + 1) * m * x.den) (pow-add 2 a k) in
    let under : 2 ^ a * x.den * (d * 2 ^ k) ≤ 2 ^ a * x.den * n = mul-le-mul_left (2 ^ a * x.den) (let g : d * 2 ^ k ≤ n = let l = c.low in omega (arith, l) in g) in
    let over : 2 ^ a * x.den * (n + 1) ≤ 2 ^ a * x.den * ((d + 1) * 2 ^ k) = mul-le-mul_left (2 ^ a * x.den) (let g : n + 1 ≤ (d + 1) * 2 ^ k = let l = c.high in omega (arith, l) in g) in
    leads x above d (a + k) b q (omega (arith, ints, e, o)) (record { many = c.many; few = c.few; low = omega (arith, power, under, low); high = omega (arith, next, over, high) }) in
    elim h [
      | exactly a b o s ↦
          let one : 2 ^ a * 1 ≤ 2 ^ a * x.den = mul-le-mul_left (2 ^ a) (let g : 1 ≤ x.den = above in g) in
          let some = pow_pos a in
          led a b o (omega (arith, s)) (omega (arith, s, one, some))
      | without_rest a b o many low high ↦ led a b o low high
    ]

-- one of 31 digits isn't moved
pub none_added : (n j : ℕ) → 2 ^ 30 ≤ n → n * 2 ^ j < 2 ^ 31 → j ≡ 0
none_added n j long few =
    by_eq j 0 (λ g. g)
    (λ g.
    let two : 2 ^ 1 ≤ 2 ^ j = pow_mono (let k : 1 ≤ j = omega (arith, g) in k) in
    let t : n * 2 ^ 1 ≤ n * 2 ^ j = mul-le-mul_left n two in
    absurd (omega (arith, t, long, few)))

-- a number of at most 31 digits is what it is moved up: one of 31 has none behind it
moved_leads : (n j : ℕ) (p q : ℤ) → 2 ^ 30 ≤ n * 2 ^ j → n * 2 ^ j < 2 ^ 31 → q +ℤ pos j ≡ p → (x : Ratio) → 0 < x.den → HasDigits x n p → IsLeading x (record { digits = n * 2 ^ j; power = q })
moved_leads n j p q many few e x above h =
    let y = unsigned_abs x.num in
    elim h [
      | exactly a b o s ↦
          let power : y * 2 ^ (b + j) ≡ y * (2 ^ b * 2 ^ j) = ap (λ (m : ℕ). y * m) (pow-add 2 b j) in
          let moved : y * 2 ^ b * 2 ^ j ≡ n * 2 ^ a * x.den * 2 ^ j = ap (λ (m : ℕ). m * 2 ^ j) s in
          let one : 2 ^ a * 1 ≤ 2 ^ a * x.den = mul-le-mul_left (2 ^ a) (let g : 1 ≤ x.den = above in g) in
          let some = pow_pos a in
          leads x above (n * 2 ^ j) a (b + j) q (omega (arith, ints, e, o)) (record { many = many; few = few; low = omega (arith, power, moved); high = omega (arith, power, moved, one, some) })
      | without_rest a b o long low high ↦
          let g : j ≡ 0 = none_added n j long few in
          let same : n * 2 ^ j ≡ n = let t : n * 2 ^ j ≡ n * 2 ^ 0 = ap (λ (m : ℕ). n * 2 ^ m) g in omega (arith, t) in
          let k : Cuts n 1 n 0 = record { many = long; few = (let f : n < 2 ^ 31 = omega (arith, same, few) in f); low = omega arith; high = omega arith } in
          subst (λ (m : ℕ). IsLeading x (record { digits = m; power = q })) (sym same) (drop_leads n 0 n p q k (omega (arith, ints, e, g)) x above (without_rest a b o long low high))
    ]

pub add_leads : (n j d : ℕ) (p q : ℤ) → d ≡ n * 2 ^ j → 2 ^ 30 ≤ n * 2 ^ j → n * 2 ^ j < 2 ^ 31 → q +ℤ pos j ≡ p → (x : Ratio) → 0 < x.den → HasDigits x n p → IsLeading x (record { digits = d; power = q })
add_leads n j d p q g many few e x above h = subst (λ (m : ℕ). IsLeading x (record { digits = m; power = q })) (sym g) (moved_leads n j p q many few e x above h)

-- how long a number is that is cut
pub cuts_length : (n d k : ℕ) → Cuts n 1 d k → (2 ^ 30 * 2 ^ k ≤ n) × (n < 2 ^ 31 * 2 ^ k)
cuts_length n d k c =
    let few : d + 1 ≤ 2 ^ 31 = let f = c.few in omega (arith, f) in
    let a : 2 ^ k * 2 ^ 30 ≤ 2 ^ k * d = mul-le-mul_left (2 ^ k) c.many in
    let b : 2 ^ k * (d + 1) ≤ 2 ^ k * 2 ^ 31 = mul-le-mul_left (2 ^ k) few in
    let low = c.low in
    let high = c.high in
    (omega (arith, a, low), omega (arith, b, high))

-- a number moved up until its first digit is the last one of the width
pub raised : (k w n : ℕ) → w ≡ k + 1 → 0 < n → n < 2 ^ w → (2 ^ k ≤ n * 2 ^ count_leading_zeros w n) × (n * 2 ^ count_leading_zeros w n < 2 ^ w)
raised k w n e some fits =
    let t = leading_top w n some fits in
    let z = count_leading_zeros w n in
    let low : 2 ^ k ≡ 2 ^ t.0 * 2 ^ z = ap (λ (m : ℕ). 2 ^ m) (let g : k ≡ t.0 + z = omega (arith, t.1, e) in g) ∙ pow-add 2 t.0 z in
    let high : 2 ^ w ≡ 2 ^ suc t.0 * 2 ^ z = ap (λ (m : ℕ). 2 ^ m) (let g : w ≡ suc t.0 + z = omega (arith, t.1) in g) ∙ pow-add 2 (suc t.0) z in
    let a : 2 ^ z * 2 ^ t.0 ≤ 2 ^ z * n = mul-le-mul_left (2 ^ z) t.2 in
    let b : 2 ^ z * suc n ≤ 2 ^ z * 2 ^ suc t.0 = mul-le-mul_left (2 ^ z) (let h : suc n ≤ 2 ^ suc t.0 = t.3 in h) in
    let p = pow_pos z in
    (omega (arith, low, a), omega (arith, high, b, p))

-- a power of 2 within 30 digits
pub few_more : (m q : ℕ) → 2 ^ m ≤ q → q < 2 ^ 30 → m < 30
few_more m q low high =
    by_lt m 30 (λ h. h) (λ h. let f : 2 ^ 30 ≤ 2 ^ m = pow_mono h in absurd (omega (arith, f, low, high)))

-- the whole part of n 2^z by d, of 31 digits or more
pub whole_digits : (n d w z : ℕ) (r : ℤ) → r +ℤ pos z ≡ pos 0 → 2 ^ 30 ≤ w → w * d ≤ n * 2 ^ z → n * 2 ^ z < (w + 1) * d → HasDigits (record { num = pos n; den = d }) w r
whole_digits n d w z r e many low high = without_rest 0 z e many (omega (arith, low)) (omega (arith, high))
