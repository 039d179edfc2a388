-- Numbers times powers of 2 of either sign: a power is what it is up, less what it is down.
use Rattle.std.proofs.Common.{◌≡◌, ℕ, suc, ◌+◌, ◌*◌, ◌^◌, ◌<◌, ◌≤◌, ◌⊎◌, ◌↔◌, inl, inr, ℤ, pos, negsuc, ◌+ℤ◌, ◌<ℤ◌, unsigned_abs, refl, sym, ◌∙◌, ap, subst, pow_pos, pow_mono, pow-add, arith}
use Rattle.std.proofs.Math.Nat.{mul-le-mul_left}
use Rattle.std.proofs.lemmas.Int.{ints}
use borrow.Author.Differences.{up, down}
use Rattle.rational.specs.Ratio.{sum, product, quotient, IsBelow}
use Rattle.evidence.proofs.Columns.{by_lt, by_eq}
use Rattle.scores.specs.declared.score.Score.{Score}
use Rattle.scores.specs.Scores.{times_power, IsLeading, HasDigits, IsCut}
use Rattle.scores.specs.Scores.HasDigits.{exactly, without_rest}
use Rattle.scores.proofs.Digits.{twice}
use Rattle.scores.proofs.Leads.{leads, leads_none, own_leads}

-- its numerator and its denominator, in ℕ
abbrev pub top : ℕ → ℤ → ℕ
top n p = unsigned_abs (times_power n p).num

abbrev pub under : ℕ → ℤ → ℕ
under n p = (times_power n p).den

pub power_parts : (p : ℤ) → p +ℤ pos (down p) ≡ pos (up p)
power_parts (pos k) = ap pos (omega arith)
power_parts (negsuc k) = omega (arith, ints)

pub parts_are : (n : ℕ) (p : ℤ) → top n p * 2 ^ down p ≡ n * 2 ^ up p * under n p
parts_are n (pos k) = omega arith
parts_are n (negsuc k) = omega arith

pub under_above : (n : ℕ) (p : ℤ) → 0 < under n p
under_above n (pos k) = omega arith
under_above n (negsuc k) = pow_pos (suc k)

-- ---- products
pub top_product : (n m : ℕ) (p q : ℤ) → unsigned_abs (product (times_power n p) (times_power m q)).num ≡ top n p * top m q
top_product n m (pos i) (pos j) = refl
top_product n m (pos i) (negsuc j) = refl
top_product n m (negsuc i) (pos j) = refl
top_product n m (negsuc i) (negsuc j) = refl

both_times : (x y d e n m a b c f : ℕ) → x * 2 ^ b ≡ n * 2 ^ a * d → y * 2 ^ f ≡ m * 2 ^ c * e → x * y * 2 ^ (b + f) ≡ n * m * 2 ^ (a + c) * (d * e)
both_times x y d e n m a b c f g h =
    let t : x * 2 ^ b * (y * 2 ^ f) ≡ n * 2 ^ a * d * (m * 2 ^ c * e) = ap (λ (k : ℕ). k * (y * 2 ^ f)) g ∙ ap (λ (k : ℕ). n * 2 ^ a * d * k) h in
    rw (pow-add 2 b f, pow-add 2 a c) (omega (arith, t))

pub product_digits : (n m : ℕ) (p q r : ℤ) → r ≡ p +ℤ q → HasDigits (product (times_power n p) (times_power m q)) (n * m) r
product_digits n m p q r e =
    let t = both_times (top n p) (top m q) (under n p) (under m q) n m (up p) (down p) (up q) (down q) (parts_are n p) (parts_are m q) in
    let a = power_parts p in
    let b = power_parts q in
    exactly (up p + up q) (down p + down q) (omega (arith, ints, e, a, b)) (ap (λ (k : ℕ). k * 2 ^ (down p + down q)) (top_product n m p q) ∙ t)

pub product_above : (n m : ℕ) (p q : ℤ) → 0 < under n p * under m q
product_above n m p q =
    let a = under_above n p in
    let b : under n p * 1 ≤ under n p * under m q = mul-le-mul_left (under n p) (let h : 1 ≤ under m q = under_above m q in h) in
    omega (arith, a, b)

-- ---- sums
pub top_sum : (n m : ℕ) (p q : ℤ) → unsigned_abs (sum (times_power n p) (times_power m q)).num ≡ top n p * under m q + top m q * under n p
top_sum n m (pos i) (pos j) = refl
top_sum n m (pos i) (negsuc j) = refl
top_sum n m (negsuc i) (pos j) = refl
top_sum n m (negsuc i) (negsuc j) = refl

both_plus : (x y d e n m a b c f : ℕ) → x * 2 ^ b ≡ n * 2 ^ a * d → y * 2 ^ f ≡ m * 2 ^ c * e → (x * e + y * d) * 2 ^ (b + f) ≡ (n * 2 ^ (a + f) + m * 2 ^ (c + b)) * (d * e)
both_plus x y d e n m a b c f g h =
    let s : x * 2 ^ b * (e * 2 ^ f) ≡ n * 2 ^ a * d * (e * 2 ^ f) = ap (λ (k : ℕ). k * (e * 2 ^ f)) g in
    let t : y * 2 ^ f * (d * 2 ^ b) ≡ m * 2 ^ c * e * (d * 2 ^ b) = ap (λ (k : ℕ). k * (d * 2 ^ b)) h in
    rw (pow-add 2 b f, pow-add 2 a f, pow-add 2 c b) (omega (arith, s, t))

-- the sum, over both powers down
pub sum_is : (n m : ℕ) (p q : ℤ) → unsigned_abs (sum (times_power n p) (times_power m q)).num * 2 ^ (down p + down q) ≡ (n * 2 ^ (up p + down q) + m * 2 ^ (up q + down p)) * (under n p * under m q)
sum_is n m p q =
    ap (λ (k : ℕ). k * 2 ^ (down p + down q)) (top_sum n m p q) ∙ both_plus (top n p) (top m q) (under n p) (under m q) n m (up p) (down p) (up q) (down q) (parts_are n p) (parts_are m q)

-- one whose greater power is t above the other
pub sum_digits : (n m t : ℕ) (p q : ℤ) → p ≡ q +ℤ pos t → HasDigits (sum (times_power n p) (times_power m q)) (n * 2 ^ t + m) q
sum_digits n m t p q e =
    let a = power_parts p in
    let b = power_parts q in
    let place : up p + down q ≡ t + (up q + down p) = omega (arith, ints, e, a, b) in
    let power : 2 ^ (up p + down q) ≡ 2 ^ t * 2 ^ (up q + down p) = ap (λ (k : ℕ). 2 ^ k) place ∙ pow-add 2 t (up q + down p) in
    let all : (n * 2 ^ (up p + down q) + m * 2 ^ (up q + down p)) * (under n p * under m q) ≡ (n * 2 ^ t + m) * 2 ^ (up q + down p) * (under n p * under m q) =
    ap (λ (k : ℕ). (n * k + m * 2 ^ (up q + down p)) * (under n p * under m q)) power ∙ (let o : (n * (2 ^ t * 2 ^ (up q + down p)) + m * 2 ^ (up q + down p)) * (under n p * under m q) ≡ (n * 2 ^ t + m) * 2 ^ (up q + down p) * (under n p * under m q) = omega arith in o) in
    exactly (up q + down p) (down p + down q) (omega (arith, ints, b)) (sum_is n m p q ∙ all)

pub sum_shifted : (n m t w : ℕ) (p q r : ℤ) → w ≡ n * 2 ^ t + m → r ≡ q → p ≡ q +ℤ pos t → HasDigits (sum (times_power n p) (times_power m q)) w r
sum_shifted n m t w p q r e g h =
    subst (λ (k : ℕ). HasDigits (sum (times_power n p) (times_power m q)) k r) (sym e)
    (subst (λ (k : ℤ). HasDigits (sum (times_power n p) (times_power m q)) (n * 2 ^ t + m) k) (sym g) (sum_digits n m t p q h))

-- of 31 digits moved up by t and 31 below them, t are dropped, or one more
pub sum_length : (n m t k w : ℕ) → 2 ^ 30 ≤ n → n < 2 ^ 31 → m < 2 ^ 31 → w ≡ n * 2 ^ t + m → 2 ^ 30 * 2 ^ k ≤ w → w < 2 ^ 31 * 2 ^ k → (k ≡ t) ⊎ (k ≡ t + 1)
sum_length n m t k w many few small e low high =
    let a : 2 ^ t * 2 ^ 30 ≤ 2 ^ t * n = mul-le-mul_left (2 ^ t) many in
    let b : 2 ^ t * suc n ≤ 2 ^ t * 2 ^ 31 = mul-le-mul_left (2 ^ t) few in
    let some = pow_pos t in
    by_lt k t
    (λ less. let f = pow_mono less in let g = twice k in absurd (omega (arith, a, e, high, f, g)))
    (λ most. by_lt (t + 1) k
    (λ more.
    let f : 2 ^ (2 + t) ≤ 2 ^ k = pow_mono (let h : 2 + t ≤ k = omega (arith, more) in h) in
    let g : 2 ^ (2 + t) ≡ 2 ^ 2 * 2 ^ t = pow-add 2 2 t in
    let h : 2 ^ t * 1 ≤ 2 ^ t * 2 ^ t = mul-le-mul_left (2 ^ t) (let o : 1 ≤ 2 ^ t = some in o) in
    absurd (omega (arith, b, e, low, f, g, some, small)))
    (λ few. by_eq k t inl (λ other. inr (omega (arith, most, few, other)))))

-- with 0
pub sum_leads : (s : Score) → IsCut s → (m : ℕ) (q : ℤ) → m ≡ 0 → IsLeading (sum (times_power s.digits s.power) (times_power m q)) s
sum_leads s c m q e =
    let n = s.digits in
    let p = s.power in
    let a = power_parts p in
    let x = sum_is n m p q in
    let y : (n * 2 ^ (up p + down q) + m * 2 ^ (up q + down p)) * (under n p * under m q) ≡ n * 2 ^ (up p + down q) * (under n p * under m q) =
    ap (λ (k : ℕ). (n * 2 ^ (up p + down q) + k * 2 ^ (up q + down p)) * (under n p * under m q)) e ∙ (let o : (n * 2 ^ (up p + down q) + 0 * 2 ^ (up q + down p)) * (under n p * under m q) ≡ n * 2 ^ (up p + down q) * (under n p * under m q) = omega arith in o) in
    own_leads s c (sum (times_power n p) (times_power m q)) (product_above n m p q) (up p + down q) (down p + down q) (omega (arith, ints, a)) (x ∙ y)

-- with one that begins behind its digits
pub sum_drops : (s : Score) → 2 ^ 30 ≤ s.digits → s.digits < 2 ^ 31 → (m t : ℕ) (q : ℤ) → m < 2 ^ 31 → s.power ≡ q +ℤ pos (32 + t) → IsLeading (sum (times_power s.digits s.power) (times_power m q)) s
sum_drops s many few m t q small e =
    let n = s.digits in
    let p = s.power in
    let a = power_parts p in
    let b = power_parts q in
    let d = under n p * under m q in
    let z = 2 ^ (up q + down p) in
    let place : up p + down q ≡ 32 + t + (up q + down p) = omega (arith, ints, e, a, b) in
    let power : 2 ^ (up p + down q) ≡ 2 ^ 32 * 2 ^ t * z = ap (λ (k : ℕ). 2 ^ k) place ∙ pow-add 2 (32 + t) (up q + down p) ∙ ap (λ (k : ℕ). k * z) (pow-add 2 32 t) in
    let x = sum_is n m p q in
    let above = product_above n m p q in
    let room : suc m ≤ 2 ^ 32 * 2 ^ t = let s = pow_pos t in omega (arith, small, s) in
    let over : d * z * suc m ≤ d * z * (2 ^ 32 * 2 ^ t) = mul-le-mul_left (d * z) room in
    let one : d * 1 ≤ d * z = mul-le-mul_left d (let h : 1 ≤ z = pow_pos (up q + down p) in h) in
    let whole : d * 2 ^ (up p + down q) ≡ d * (2 ^ 32 * 2 ^ t * z) = ap (λ (k : ℕ). d * k) power in
    leads (sum (times_power n p) (times_power m q)) above n (up p + down q) (down p + down q) p (omega (arith, ints, a))
    (record { many = many; few = few; low = omega (arith, x); high = omega (arith, x, over, one, whole, above) })

-- ---- quotients
top_zero : (p : ℤ) (k : ℕ) → top 0 p * k ≡ 0
top_zero (pos i) k = let o : 0 * 2 ^ i * k ≡ 0 = omega arith in o
top_zero (negsuc i) k = let o : 0 * k ≡ 0 = omega arith in o

pub top_quotient : (n m : ℕ) (p q : ℤ) → unsigned_abs (quotient (times_power n p) (times_power m q)).num ≡ top n p * under m q
top_quotient n m (pos i) (pos j) = refl
top_quotient n m (pos i) (negsuc j) = refl
top_quotient n m (negsuc i) (pos j) = refl
top_quotient n m (negsuc i) (negsuc j) = refl

pub under_quotient : (n m : ℕ) (p q : ℤ) → (quotient (times_power n p) (times_power m q)).den ≡ under n p * top m q
under_quotient n m (pos i) (pos j) = refl
under_quotient n m (pos i) (negsuc j) = refl
under_quotient n m (negsuc i) (pos j) = refl
under_quotient n m (negsuc i) (negsuc j) = refl

le_of : (k x y : ℕ) → 0 < k → k * x ≤ k * y → x ≤ y
le_of k x y some h =
    by_lt y x
    (λ less. let t : k * suc y ≤ k * x = mul-le-mul_left k (let g : suc y ≤ x = less in g) in absurd (omega (arith, t, h, some)))
    (λ most. most)

lt_of : (k x y : ℕ) → k * x < k * y → x < y
lt_of k x y h =
    by_lt x y (λ less. less)
    (λ most. let t : k * y ≤ k * x = mul-le-mul_left k most in absurd (omega (arith, t, h)))

-- x y 2^(b+c+32) over d e, which is n m' 2^(a+f+32) over m: its whole part is w
module _ (x y d e n m w a b c f : ℕ) (some : 0 < m) (above : 0 < d * y) (g : x * 2 ^ b ≡ n * 2 ^ a * d) (h : y * 2 ^ f ≡ m * 2 ^ c * e) where
  both : m * (x * e * 2 ^ (b + c + 32)) ≡ 2 ^ a * 2 ^ f * (d * y) * (n * 2 ^ 32)
  both =
      let s : x * 2 ^ b * (m * 2 ^ c * e) ≡ n * 2 ^ a * d * (y * 2 ^ f) = ap (λ (k : ℕ). k * (m * 2 ^ c * e)) g ∙ ap (λ (k : ℕ). n * 2 ^ a * d * k) (sym h) in
      rw (pow-add 2 (b + c) 32, pow-add 2 b c) (omega (arith, s))

  pub whole_low : w * m ≤ n * 2 ^ 32 → w * 2 ^ (a + f) * (d * y) ≤ x * e * 2 ^ (b + c + 32)
  whole_low l =
      let t : 2 ^ a * 2 ^ f * (d * y) * (w * m) ≤ 2 ^ a * 2 ^ f * (d * y) * (n * 2 ^ 32) = mul-le-mul_left (2 ^ a * 2 ^ f * (d * y)) l in
      let u = both in
      le_of m (w * 2 ^ (a + f) * (d * y)) (x * e * 2 ^ (b + c + 32)) some (rw (pow-add 2 a f) (omega (arith, t, u)))

  pub whole_high : n * 2 ^ 32 < (w + 1) * m → x * e * 2 ^ (b + c + 32) < (w + 1) * 2 ^ (a + f) * (d * y)
  whole_high l =
      let k = 2 ^ a * 2 ^ f * (d * y) in
      let t : k * suc (n * 2 ^ 32) ≤ k * ((w + 1) * m) = mul-le-mul_left k l in
      let one : 2 ^ a * 1 ≤ 2 ^ a * 2 ^ f = mul-le-mul_left (2 ^ a) (let q : 1 ≤ 2 ^ f = pow_pos f in q) in
      let more : 2 ^ a * 2 ^ f * 1 ≤ k = mul-le-mul_left (2 ^ a * 2 ^ f) (let q : 1 ≤ d * y = above in q) in
      let p = pow_pos a in
      let u = both in
      lt_of m (x * e * 2 ^ (b + c + 32)) ((w + 1) * 2 ^ (a + f) * (d * y)) (rw (pow-add 2 a f) (omega (arith, t, one, more, p, u)))

top_above : (m : ℕ) (q : ℤ) → 0 < m → 0 < top m q
top_above m (pos j) h = let t : m * 1 ≤ m * 2 ^ j = mul-le-mul_left m (let g : 1 ≤ 2 ^ j = pow_pos j in g) in omega (arith, t, h)
top_above m (negsuc j) h = h

pub quotient_above : (n m : ℕ) (p q : ℤ) → 0 < m → 0 < (quotient (times_power n p) (times_power m q)).den
quotient_above n m p q some =
    let a = under_above n p in
    let t : under n p * 1 ≤ under n p * top m q = mul-le-mul_left (under n p) (let h : 1 ≤ top m q = top_above m q some in h) in
    subst (λ (k : ℕ). 0 < k) (sym (under_quotient n m p q)) (omega (arith, a, t))

pub quotient_digits : (n m w : ℕ) (p q r : ℤ) → 0 < m → 2 ^ 30 ≤ w → w * m ≤ n * 2 ^ 32 → n * 2 ^ 32 < (w + 1) * m → r +ℤ pos 32 +ℤ q ≡ p → HasDigits (quotient (times_power n p) (times_power m q)) w r
quotient_digits n m w p q r some many low high e =
    let a = power_parts p in
    let b = power_parts q in
    let above : 0 < under n p * top m q = subst (λ (k : ℕ). 0 < k) (under_quotient n m p q) (quotient_above n m p q some) in
    let k = 2 ^ (up p + down q) in
    let num = top_quotient n m p q in
    let den = under_quotient n m p q in
    let l = whole_low (top n p) (top m q) (under n p) (under m q) n m w (up p) (down p) (up q) (down q) some above (parts_are n p) (parts_are m q) low in
    let h = whole_high (top n p) (top m q) (under n p) (under m q) n m w (up p) (down p) (up q) (down q) some above (parts_are n p) (parts_are m q) high in
    without_rest (up p + down q) (down p + up q + 32) (omega (arith, ints, e, a, b)) many
    (rw (num, den) l)
    (rw (num, den) h)

-- 0 by another one
pub quotient_none : (n m : ℕ) (p q : ℤ) → n ≡ 0 → 0 < m → IsLeading (quotient (times_power n p) (times_power m q)) (record { digits = 0; power = pos 0 })
quotient_none n m p q e some =
    let z : top n p * under m q ≡ 0 = ap (λ (k : ℕ). top k p * under m q) e ∙ top_zero p (under m q) in
    leads_none (quotient (times_power n p) (times_power m q)) (quotient_above n m p q some) (top_quotient n m p q ∙ z)

-- ---- order
as_far : (n i j k : ℕ) → k ≡ i + j → n * 2 ^ k ≡ n * 2 ^ i * 2 ^ j
as_far n i j k e = ap (λ (l : ℕ). n * 2 ^ l) e ∙ rw (pow-add 2 i j) (omega arith)

pub below_is : (n m : ℕ) (p q : ℤ) → IsBelow (times_power n p) (times_power m q) ↔ n * 2 ^ (up p + down q) < m * 2 ^ (up q + down p)
below_is n m (pos i) (pos j) =
    let a = as_far n i 0 (i + 0) refl in
    let b = as_far m j 0 (j + 0) refl in
    (λ h. omega (arith, ints, h, a, b), λ h. omega (arith, ints, h, a, b))
below_is n m (pos i) (negsuc j) =
    let a = as_far n i (suc j) (i + suc j) refl in
    (λ h. omega (arith, ints, h, a), λ h. omega (arith, ints, h, a))
below_is n m (negsuc i) (pos j) =
    let b = as_far m j (suc i) (j + suc i) refl in
    (λ h. omega (arith, ints, h, b), λ h. omega (arith, ints, h, b))
below_is n m (negsuc i) (negsuc j) =
    let a = as_far n 0 (suc j) (0 + suc j) refl in
    let b = as_far m 0 (suc i) (0 + suc i) refl in
    (λ h. omega (arith, ints, h, a, b), λ h. omega (arith, ints, h, a, b))

-- a lesser power is a lesser number
pub lower_power : (n m : ℕ) (p q : ℤ) → n < 2 ^ 31 → 2 ^ 30 ≤ m → p <ℤ q → IsBelow (times_power n p) (times_power m q)
lower_power n m p q few many h =
    let a = power_parts p in
    let b = power_parts q in
    let x = up p + down q in
    let y = up q + down p in
    let place : suc x ≤ y = omega (arith, ints, h, a, b) in
    let up = pow_mono place in
    let two = twice x in
    let s : 2 ^ x * suc n ≤ 2 ^ x * 2 ^ 31 = mul-le-mul_left (2 ^ x) few in
    let t : 2 ^ y * 2 ^ 30 ≤ 2 ^ y * m = mul-le-mul_left (2 ^ y) many in
    let some = pow_pos x in
    (below_is n m p q).1 (omega (arith, up, two, s, t, some))

-- and no greater one
pub higher_power : (n m : ℕ) (p q : ℤ) → n < 2 ^ 31 → 2 ^ 30 ≤ m → p <ℤ q → IsBelow (times_power m q) (times_power n p) → ⊥
higher_power n m p q few many h b =
    let x = (below_is n m p q).0 (lower_power n m p q few many h) in
    let y = (below_is m n q p).0 b in
    omega (arith, x, y)

-- of one power the digits decide
pub same_power : (n m : ℕ) (p q : ℤ) → p ≡ q → IsBelow (times_power n p) (times_power m q) ↔ n < m
same_power n m p q e =
    let a = power_parts p in
    let b = power_parts q in
    let x = up p + down q in
    let y = up q + down p in
    let place : x ≡ y = omega (arith, ints, e, a, b) in
    let same : m * 2 ^ y ≡ m * 2 ^ x = ap (λ (k : ℕ). m * 2 ^ k) (sym place) in
    let i = below_is n m p q in (
      λ h. let g = i.0 h in lt_of (2 ^ x) n m (omega (arith, g, same)),
      λ h. let t : 2 ^ x * suc n ≤ 2 ^ x * m = mul-le-mul_left (2 ^ x) h in let some = pow_pos x in i.1 (omega (arith, t, same, some)),
    )

-- and 0 is below each other one
pub none_below : (n m : ℕ) (p q : ℤ) → n ≡ 0 → IsBelow (times_power n p) (times_power m q) ↔ n < m
none_below n m p q e =
    let i = below_is n m p q in
    let y = 2 ^ (up q + down p) in
    let z : n * 2 ^ (up p + down q) ≡ 0 = ap (λ (k : ℕ). k * 2 ^ (up p + down q)) e ∙ (let o : 0 * 2 ^ (up p + down q) ≡ 0 = omega arith in o) in (
      λ h. let g = i.0 h in lt_of y n m (let t : y * n ≡ 0 = ap (λ (k : ℕ). y * k) e ∙ (let o : y * 0 ≡ 0 = omega arith in o) in omega (arith, g, z, t)),
      λ h. let t : m * 1 ≤ m * y = mul-le-mul_left m (let o : 1 ≤ y = pow_pos (up q + down p) in o) in i.1 (omega (arith, t, z, h, e)),
    )

pub not_below_none : (n m : ℕ) (p q : ℤ) → m ≡ 0 → IsBelow (times_power n p) (times_power m q) ↔ n < m
not_below_none n m p q e =
    let i = below_is n m p q in
    let z : m * 2 ^ (up q + down p) ≡ 0 = ap (λ (k : ℕ). k * 2 ^ (up q + down p)) e ∙ (let o : 0 * 2 ^ (up q + down p) ≡ 0 = omega arith in o) in
    (λ h. let g = i.0 h in absurd (omega (arith, g, z)), λ h. absurd (omega (arith, h, e)))
