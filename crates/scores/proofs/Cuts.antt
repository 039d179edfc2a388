-- A number cut to 31 binary digits: so many digits times a power of 2, at most the number, and above it with one digit more. There is one such cut.
use Rattle.std.proofs.Common.{◌≡◌, ℕ, suc, ◌+◌, ◌-◌, ◌*◌, ◌/◌, ◌^◌, ◌<◌, ◌≤◌, unsigned_abs, sym, ◌∙◌, ap, subst, pow_pos, pow_mono, pow-add, arith}
use Rattle.std.proofs.Math.Nat.{mul-le-mul_left}
use Rattle.std.proofs.lemmas.Nat.{le-div, shr_below, shr_split, mod_below, div-add-mod'}
use Rattle.rational.specs.Ratio.{Ratio}
use Rattle.evidence.proofs.Columns.{by_lt}
use Rattle.scores.specs.Leading.{digits, shift_of, scaled, dropped}
use Rattle.scores.proofs.Digits.{twice, digits_below, digits_above}

-- d times 2^k is the number y/den, cut
pub record Cuts (y den d k : ℕ) : Type 0 where
  pub many : 2 ^ 30 ≤ d
  pub few : d < 2 ^ 31
  pub low : d * 2 ^ k * den ≤ y
  pub high : y < (d + 1) * 2 ^ k * den

-- a greater power leaves no room for the lesser one
apart : (y den d e k l : ℕ) → Cuts y den d k → Cuts y den e l → k < l → ⊥
apart y den d e k l p q h =
    let more : den * 2 ^ suc k ≤ den * 2 ^ l = mul-le-mul_left den (pow_mono h) in
    let split : den * 2 ^ suc k ≡ den * (2 ^ k * 2) = ap (λ (x : ℕ). den * x) (twice k) in
    let above : d + 1 ≤ 2 ^ 31 = omega (arith, p.few) in
    let a : 2 ^ k * den * (d + 1) ≤ 2 ^ k * den * 2 ^ 31 = mul-le-mul_left (2 ^ k * den) above in
    let b : 2 ^ l * den * 2 ^ 30 ≤ 2 ^ l * den * e = mul-le-mul_left (2 ^ l * den) q.many in
    let c = p.high in
    let f = q.low in
    omega (arith, more, split, a, b, c, f)

-- and one power has one number of digits
not_less : (y den d e k : ℕ) → Cuts y den d k → Cuts y den e k → d < e → ⊥
not_less y den d e k p q h =
    let above : d + 1 ≤ e = omega (arith, h) in
    let a : 2 ^ k * den * (d + 1) ≤ 2 ^ k * den * e = mul-le-mul_left (2 ^ k * den) above in
    let c = p.high in
    let f = q.low in
    omega (arith, a, c, f)

pub one_cut : (y den d e k l : ℕ) → Cuts y den d k → Cuts y den e l → (d ≡ e) × (k ≡ l)
one_cut y den d e k l p q =
    let same : k ≡ l = by_lt k l (λ h. absurd (apart y den d e k l p q h)) (λ n. by_lt l k (λ h. absurd (apart y den e d l k q p h)) (λ o. omega arith)) in
    let r : Cuts y den d l = subst (λ (m : ℕ). Cuts y den d m) same p in
    (by_lt d e (λ h. absurd (not_less y den d e l r q h)) (λ n. by_lt e d (λ h. absurd (not_less y den e d l q r h)) (λ o. omega arith)), same)

-- times a power of 2
pub cuts_more : (y den d k j : ℕ) → Cuts y den d k → Cuts (y * 2 ^ j) den d (k + j)
cuts_more y den d k j p =
    let power : d * 2 ^ (k + j) * den ≡ d * (2 ^ k * 2 ^ j) * den = ap (λ (x : ℕ). d * x * den) (pow-add 2 k j) in
    let next : (d + 1) * 2 ^ (k + j) * den ≡ (d + 1) * (2 ^ k * 2 ^ j) * den = ap (λ (x : ℕ). (d + 1) * x * den) (pow-add 2 k j) in
    let above : suc y ≤ (d + 1) * 2 ^ k * den = p.high in
    let a : 2 ^ j * (d * 2 ^ k * den) ≤ 2 ^ j * y = mul-le-mul_left (2 ^ j) p.low in
    let b : 2 ^ j * suc y ≤ 2 ^ j * ((d + 1) * 2 ^ k * den) = mul-le-mul_left (2 ^ j) above in
    let some = pow_pos j in
    record { many = p.many; few = p.few; low = omega (arith, power, a); high = omega (arith, next, b, some) }

-- the quotient of n by den, cut: n times 2^j by den has at least 32 digits
module _ (n den : ℕ) (some : 0 < n) (above : 0 < den) where
  abbrev j : ℕ
  j = digits den + 31

  abbrev s : ℕ
  s = n * 2 ^ j / den

  abbrev r : ℕ
  r = digits s - 31

  long : 2 ^ 31 ≤ s
  long =
      let one : 1 ≤ n = some in
      let few : den ≤ 2 ^ digits den = let h = digits_below den in omega (arith, h) in
      let a : 2 ^ 31 * den ≤ 2 ^ 31 * 2 ^ digits den = mul-le-mul_left (2 ^ 31) few in
      let b : 2 ^ j * 1 ≤ 2 ^ j * n = mul-le-mul_left (2 ^ j) one in
      let power : 2 ^ j ≡ 2 ^ digits den * 2 ^ 31 = pow-add 2 (digits den) 31 in
      le-div (2 ^ 31) (n * 2 ^ j) den above (omega (arith, a, b, power))

  length_is : 31 + r ≡ digits s
  length_is =
      let up : s < 2 ^ digits s = digits_below s in
      by_lt (digits s) 31
      (λ h. let few : 2 ^ digits s ≤ 2 ^ 31 = pow_mono (let k : digits s ≤ 31 = omega (arith, h) in k) in let l = long in absurd (omega (arith, up, few, l)))
      (λ n. omega (arith, n))

  power_is : 2 ^ digits s ≡ 2 ^ 31 * 2 ^ r
  power_is = ap (λ (m : ℕ). 2 ^ m) (sym length_is) ∙ pow-add 2 31 r

  pub cut_quotient : Cuts (n * 2 ^ j) den (s / 2 ^ r) r
  cut_quotient =
      let l = long in
      let up : s < 2 ^ (31 + r) = subst (λ (m : ℕ). s < 2 ^ m) (sym length_is) (digits_below s) in
      let down = digits_above s (omega (arith, l)) in
      let power = power_is in
      let parts = shr_split s r in
      let rest = mod_below s (2 ^ r) (pow_pos r) in
      let whole = div-add-mod' (n * 2 ^ j) den in
      let left = mod_below (n * 2 ^ j) den above in
      let under : s / 2 ^ r * 2 ^ r ≤ s = omega (arith, parts) in
      let over : s + 1 ≤ (s / 2 ^ r + 1) * 2 ^ r = omega (arith, parts, rest) in
      let a : den * (s / 2 ^ r * 2 ^ r) ≤ den * s = mul-le-mul_left den under in
      let b : den * (s + 1) ≤ den * ((s / 2 ^ r + 1) * 2 ^ r) = mul-le-mul_left den over in
      record {
        many = le-div (2 ^ 30) s (2 ^ r) (pow_pos r) (omega (arith, down, power));
        few = shr_below s 31 r up;
        low = omega (arith, a, whole);
        high = omega (arith, b, whole, left);
      }

pub leading_cuts : (x : Ratio) → 0 < unsigned_abs x.num → 0 < x.den → Cuts (unsigned_abs x.num * 2 ^ shift_of x) x.den (scaled x / 2 ^ dropped x) (dropped x)
leading_cuts x some above = cut_quotient (unsigned_abs x.num) x.den some above
