-- A number is written in one way.
use Rattle.std.proofs.Common.{◌≡◌, ◌≢◌, ◌∙◌, ℕ, zero, suc, ◌+◌, ◌-◌, ◌*◌, ◌^◌, ◌<◌, ◌≤◌, Bool, true, false, ℤ, pos, negsuc, ◌*ℤ◌, List, [], ◌∷◌, ◌++◌, length, take, get_or, ap, refl, sym, subst, arith, inl, inr, lit<}
use Rattle.std.specs.Prelude.{unsigned_abs, slice_index}
use Rattle.std.specs.Fmt.{decimal}
use Rattle.std.specs.Char.{digit_value}
use Rattle.std.specs.Str.Parse.{AllDigits, digits_value}
use Rattle.std.proofs.Math.Nat.{mul-le-mul_left, eq_of_mul-eq-mul_right, le-mul_of_pos_right}
use Rattle.std.proofs.lemmas.Bool.Decides.{leb_tells}
use Rattle.std.proofs.lemmas.Int.Digits.{digits_value-lt}
use Rattle.std.proofs.lemmas.List.{take_all}
use Rattle.std.proofs.lemmas.Nat.{pow-add}
use Rattle.std.proofs.lemmas.Str.{digit_value_digit}
use Rattle.std.proofs.lemmas.Str.Parse.{digit_from_value}
use Rattle.rational.specs.Width.{most}
use Rattle.rational.specs.Whole.{signed}
use Rattle.rational.proofs.Signs.{signed-mul, sizes_cross, unsigned_abs-signed}
use Rattle.fraction.specs.declared.frac.Frac.{Frac}
use Rattle.fraction.specs.Frac.{ratio}
use Rattle.decimal_text.specs.Sign.{optional}
use Rattle.decimal_text.specs.Plain.{PlainText, point_text}
use Rattle.decimal_text.proofs.Numerals.{number_more, is_digit}
use Rattle.decimal_text.proofs.Powers.{ten_power, ten_more}
use Rattle.decimal_text.proofs.WholeDecimals.{after_split}

-- a whole part is no greater than the numerator's size
whole_small : (whole power v den size : ℕ) → 0 < power → 0 < den → (whole * power + v) * den ≡ size * power → size ≤ most → whole < 10 ^ 64
whole_small whole power v den size up above cross small =
    let wide : whole * power + v ≤ (whole * power + v) * den = le-mul_of_pos_right (whole * power + v) above in
    let top : most < 10 ^ 64 = lit< tt in
    elim (leb_tells whole size) as (λ _. whole < 10 ^ 64) [
      | inl low ↦ let l = low.1 in omega (arith, l, top, small)
      | inr high ↦
          let h : size + 1 ≤ whole = let g = high.1 in omega (arith, g) in
          let more : power * (size + 1) ≤ power * whole = mul-le-mul_left power h in
          absurd (omega (arith, wide, more, cross, up))
    ]

-- the size that is written of a fraction, over a power of ten
pub plain_cross : (x : Frac) (text : List ℕ) (plain : PlainText text (ratio x)) → (plain.whole * 10 ^ length plain.digits + digits_value 10 plain.digits) * x.denom ≡ unsigned_abs x.numer * 10 ^ length plain.digits
plain_cross x text plain =
    let n = length plain.digits in
    let v = digits_value 10 plain.digits in
    let size = unsigned_abs-signed plain.is_negative (plain.whole * 10 ^ n + v) in
    sym (ap (λ (m : ℕ). m * x.denom) size) ∙ sizes_cross (record { num = signed plain.is_negative (plain.whole * 10 ^ n + v); den = 10 ^ n }) (ratio x) plain.same

-- and its whole part
pub plain_whole : (x : Frac) (text : List ℕ) (plain : PlainText text (ratio x)) → plain.whole < 10 ^ 64
plain_whole x text plain =
    let n = length plain.digits in
    whole_small plain.whole (10 ^ n) (digits_value 10 plain.digits) x.denom (unsigned_abs x.numer) (ten_power n) x.above (plain_cross x text plain) x.numer_within

-- a part below p and a multiple of p are told apart
parts_once : (p a b v w : ℕ) → v < p → w < p → a * p + v ≡ b * p + w → a ≡ b
parts_once p a b v w low high same = elim (leb_tells a b) as (λ _. a ≡ b) [
  | inr above ↦ let h : b + 1 ≤ a = let g = above.1 in omega (arith, g) in let more : p * (b + 1) ≤ p * a = mul-le-mul_left p h in absurd (omega (arith, more, low, high, same))
  | inl below ↦ elim (leb_tells b a) as (λ _. a ≡ b) [
    | inr above ↦ let h : a + 1 ≤ b = let g = above.1 in omega (arith, g) in let more : p * (a + 1) ≤ p * b = mul-le-mul_left p h in absurd (omega (arith, more, low, high, same))
    | inl back ↦ let g = below.1 in let h = back.1 in omega (arith, g, h)
  ]
]

digit_once : (a b : ℕ) → digit_value a < 10 → digit_value b < 10 → digit_value a ≡ digit_value b → a ≡ b
digit_once a b low high same = let r = digit_from_value a low in let s = digit_from_value b high in let x = digit_value_digit a r in let y = digit_value_digit b s in omega (arith, x, y, same)

same_digits : (xs ys : List ℕ) → AllDigits 10 xs → AllDigits 10 ys → length xs ≡ length ys → digits_value 10 xs ≡ digits_value 10 ys → xs ≡ ys
same_digits [] [] all every long same = refl
same_digits [] (b ∷ ys) all every long same = absurd (omega (arith, long))
same_digits (a ∷ xs) [] all every long same = absurd (omega (arith, long))
same_digits (a ∷ xs) (b ∷ ys) all every long same =
    let n : length xs ≡ length ys = omega (arith, long) in
    let power : 10 ^ length ys ≡ 10 ^ length xs = ap (λ (k : ℕ). 10 ^ k) (sym n) in
    let p = 10 ^ length xs in
    let whole : digit_value a * p + digits_value 10 xs ≡ digit_value b * p + digits_value 10 ys = omega (arith, same, after_split (0 * 10 + digit_value a) xs, after_split (0 * 10 + digit_value b) ys, ap (λ (x : ℕ). digit_value b * x) power) in
    let low : digits_value 10 xs < p = digits_value-lt 10 xs all.1 in
    let high : digits_value 10 ys < p = subst (λ (x : ℕ). digits_value 10 ys < x) power (digits_value-lt 10 ys every.1) in
    let first : digit_value a ≡ digit_value b = parts_once p (digit_value a) (digit_value b) (digits_value 10 xs) (digits_value 10 ys) low high whole in
    let rest : digits_value 10 xs ≡ digits_value 10 ys = omega (arith, whole, ap (λ (x : ℕ). x * p) first) in
    let head = digit_once a b all.0 every.0 first in
    let tail = same_digits xs ys all.1 every.1 n rest in
    ap (λ (x : ℕ). x ∷ xs) head ∙ ap (λ (l : List ℕ). b ∷ l) tail

all_at : (ds : List ℕ) (i : ℕ) → AllDigits 10 ds → i < length ds → digit_value (get_or ds i 0) < 10
all_at [] i all inside = absurd (omega (arith, inside))
all_at (d ∷ ds) zero all inside = all.0
all_at (d ∷ ds) (suc i) all inside = all_at ds i all.1 (omega (arith, inside))

-- a number of ten, in digits, ends with 0
last_zero : (ds : List ℕ) (q : ℕ) → AllDigits 10 ds → 0 < length ds → digits_value 10 ds ≡ q * 10 → slice_index ds (length ds - 1) ≡ 48
last_zero ds q all some tens =
    let i = length ds - 1 in
    let inside : i < length ds = omega (arith, some) in
    let split = number_more ds i all inside in
    let over : length ds ≤ i + 1 = omega arith in
    let whole : digits_value 10 (take (i + 1) ds) ≡ digits_value 10 ds = ap (λ (l : List ℕ). digits_value 10 l) (take_all (i + 1) ds over) in
    let small = is_digit ds i all inside in
    let range = digit_from_value (get_or ds i 0) (all_at ds i all inside) in
    omega (arith, tens, split, whole, small, range)

-- the size that is written, over a power of ten
abbrev size_of : ℕ → List ℕ → ℕ
size_of whole ds = whole * 10 ^ length ds + digits_value 10 ds

tens_left : (x y v : ℕ) → x * 10 ≡ y * 10 + v → v ≡ (x - y) * 10
tens_left x y v same = omega (arith, same)

-- no more digits are written than are needed
no_longer : (w u : ℕ) (ds es : List ℕ) → AllDigits 10 es → (slice_index es (length es - 1) ≢ 48) → size_of w ds * 10 ^ length es ≡ size_of u es * 10 ^ length ds → length es ≤ length ds
no_longer w u ds es all last same = elim (leb_tells (length es) (length ds)) as (λ _. length es ≤ length ds) [
  | inl less ↦ less.1
  | inr more ↦
      let g = more.1 in
      let k = length es - length ds - 1 in
      let n : length es ≡ length ds + (k + 1) = omega (arith, g) in
      let power : 10 ^ length es ≡ 10 ^ length ds * (10 ^ k * 10) = ap (λ (m : ℕ). 10 ^ m) n ∙ pow-add 10 (length ds) (k + 1) ∙ ap (λ (m : ℕ). 10 ^ length ds * m) (ten_more k) in
      let a = size_of w ds in
      let cross : (a * (10 ^ k * 10)) * 10 ^ length ds ≡ size_of u es * 10 ^ length ds = omega (arith, same, ap (λ (m : ℕ). a * m) power) in
      let exact : a * (10 ^ k * 10) ≡ size_of u es = eq_of_mul-eq-mul_right (10 ^ length ds) (ten_power (length ds)) (a * (10 ^ k * 10)) (size_of u es) cross in
      let low : length es ≡ (length es - 1) + 1 = omega (arith, g) in
      let tens : 10 ^ length es ≡ 10 ^ (length es - 1) * 10 = ap (λ (m : ℕ). 10 ^ m) low ∙ ten_more (length es - 1) in
      let even : digits_value 10 es ≡ (a * 10 ^ k - u * 10 ^ (length es - 1)) * 10 = tens_left (a * 10 ^ k) (u * 10 ^ (length es - 1)) (digits_value 10 es) (omega (arith, exact, ap (λ (m : ℕ). u * m) tens)) in
      absurd (last (last_zero es (a * 10 ^ k - u * 10 ^ (length es - 1)) all (omega (arith, g)) even))
]

both_signs : (m : ℕ) → signed true m ≡ signed false m → m ≡ 0
both_signs zero same = refl
both_signs (suc m) same = absurd (let clash : negsuc m ≡ pos (suc m) = same in cc)

no_size : (num : ℤ) → unsigned_abs num ≡ 0 → num ≡ pos 0
no_size (pos n) none = ap pos none
no_size (negsuc n) none = absurd (omega (arith, none))

-- a number above or below 0 is signed in one way
clash : (size den power : ℕ) (num : ℤ) → 0 < power → signed true size *ℤ pos den ≡ num *ℤ pos power → signed false size *ℤ pos den ≡ num *ℤ pos power → num ≢ pos 0 → size * den ≡ unsigned_abs num * power → ⊥
clash size den power num up minus plus some cross =
    let same : signed true (size * den) ≡ signed false (size * den) = sym (signed-mul true size den) ∙ minus ∙ sym plus ∙ signed-mul false size den in
    let none : size * den ≡ 0 = both_signs (size * den) same in
    let zero_size : unsigned_abs num ≡ 0 = eq_of_mul-eq-mul_right power up (unsigned_abs num) 0 (omega (arith, cross, none)) in
    some (no_size num zero_size)

sign_once : (a b : Bool) (size den power : ℕ) (num : ℤ) → 0 < power → signed a size *ℤ pos den ≡ num *ℤ pos power → signed b size *ℤ pos den ≡ num *ℤ pos power → (a ≡ true → num ≢ pos 0) → (b ≡ true → num ≢ pos 0) → size * den ≡ unsigned_abs num * power → a ≡ b
sign_once true true size den power num up first second below above cross = refl
sign_once false false size den power num up first second below above cross = refl
sign_once true false size den power num up first second below above cross = absurd (clash size den power num up first second (below refl) cross)
sign_once false true size den power num up first second below above cross = absurd (clash size den power num up second first (above refl) cross)

pub plain_once : (x : Frac) (s t : List ℕ) → PlainText s (ratio x) → PlainText t (ratio x) → s ≡ t
plain_once x s t p q =
    let n = length p.digits in
    let m = length q.digits in
    let a = size_of p.whole p.digits in
    let b = size_of q.whole q.digits in
    let first : a * x.denom ≡ unsigned_abs x.numer * 10 ^ n = plain_cross x s p in
    let second : b * x.denom ≡ unsigned_abs x.numer * 10 ^ m = plain_cross x t q in
    let wide : a * 10 ^ m * x.denom ≡ b * 10 ^ n * x.denom = omega (arith, ap (λ (z : ℕ). z * 10 ^ m) first, ap (λ (z : ℕ). z * 10 ^ n) second) in
    let same : a * 10 ^ m ≡ b * 10 ^ n = eq_of_mul-eq-mul_right x.denom x.above (a * 10 ^ m) (b * 10 ^ n) wide in
    let low : m ≤ n = no_longer p.whole q.whole p.digits q.digits q.are_digits q.no_trailing_zero same in
    let high : n ≤ m = no_longer q.whole p.whole q.digits p.digits p.are_digits p.no_trailing_zero (sym same) in
    let long : n ≡ m = omega (arith, low, high) in
    let power : 10 ^ n ≡ 10 ^ m = ap (λ (k : ℕ). 10 ^ k) long in
    let size : a ≡ b = eq_of_mul-eq-mul_right (10 ^ m) (ten_power m) a b (same ∙ ap (λ (k : ℕ). b * k) power) in
    let v = digits_value 10 p.digits in
    let w = digits_value 10 q.digits in
    let small : w < 10 ^ n = subst (λ (k : ℕ). w < k) (sym power) (digits_value-lt 10 q.digits q.are_digits) in
    let spread : p.whole * 10 ^ n + v ≡ q.whole * 10 ^ n + w = size ∙ ap (λ (k : ℕ). q.whole * k + w) (sym power) in
    let whole : p.whole ≡ q.whole = parts_once (10 ^ n) p.whole q.whole v w (digits_value-lt 10 p.digits p.are_digits) small spread in
    let value : v ≡ w = omega (arith, spread, ap (λ (k : ℕ). k * 10 ^ n) whole) in
    let digits : p.digits ≡ q.digits = same_digits p.digits q.digits p.are_digits q.are_digits long value in
    let other : signed q.is_negative a *ℤ pos x.denom ≡ x.numer *ℤ pos (10 ^ n) = subst (λ (k : ℕ). signed q.is_negative k *ℤ pos x.denom ≡ x.numer *ℤ pos (10 ^ n)) (sym size) (subst (λ (k : ℕ). signed q.is_negative b *ℤ pos x.denom ≡ x.numer *ℤ pos k) (sym power) q.same) in
    let sign : p.is_negative ≡ q.is_negative = sign_once p.is_negative q.is_negative a x.denom (10 ^ n) x.numer (ten_power n) p.same other p.below q.below first in
    p.text ∙ ap (λ (g : Bool). optional 45 g ++ (decimal p.whole ++ point_text p.digits)) sign ∙ ap (λ (k : ℕ). optional 45 q.is_negative ++ (decimal k ++ point_text p.digits)) whole ∙ ap (λ (l : List ℕ). optional 45 q.is_negative ++ (decimal q.whole ++ point_text l)) digits ∙ sym q.text
