-- A number has one text that is cut after twelve decimals.
use Rattle.osrl_writing.proofs.Names.{◌≡◌, ◌≢◌, ◌∙◌, ℕ, zero, suc, ◌+◌, ◌-◌, ◌*◌, ◌/◌, ◌%◌, ◌^◌, ◌<◌, ◌==◌, Bool, true, false, cond, ℤ, pos, negsuc, List, [], ◌∷◌, ◌++◌, length, get_or, take, drop, reverse, decimal, refl, ap, ap₂, sym, subst, arith, append_assoc, append-nil, ne_eqb, neg_ℤ, unsigned_abs, digit_value, AllDigits, digits_value, digits_value_after, reverse-append, reverse-reverse, take_all, Ratio, signed, optional, point_text, without_zeros, decimals, cut_size, has_sign, cut_text}
use Rattle.std.proofs.Common.{not, ◌*ℤ◌, replicate, leb, leb-true, leb-false}
use Rattle.std.proofs.lemmas.List.{take_more}
use Rattle.std.proofs.Math.Nat.{eq_of_mul-eq-mul_right, mul-lt-mul_of_pos_right}
use Rattle.decimal_text.proofs.Powers.{ten_power}
use Rattle.std.proofs.lemmas.Nat.{pow-add, div-mul-add, mod-mul-add}
use Rattle.std.proofs.lemmas.Int.Digits.{digits_value-lt}
use Rattle.std.proofs.lemmas.Str.Parse.{numerals_by_value, tells_digits, digit_at}
use Rattle.std.proofs.lemmas.Fmt.{decimal-digits_value}
use Rattle.decimal_text.proofs.Numerals.{AllDigits-append, after-append, number_more, is_digit}
use Rattle.rational.proofs.Signs.{signed-mul, unsigned_abs-signed}
use Rattle.decimal_text.specs.Plain.{PlainText, cut12_of, cut12}

-- ten to one more
tens : (n : ℕ) → 10 ^ suc n ≡ 10 * 10 ^ n
tens n = let e : suc n ≡ 1 + n = omega arith in ap (λ k. 10 ^ k) e ∙ pow-add 10 1 n

spread : (n d p v : ℕ) → (n * 10 + d) * p + v ≡ n * (10 * p) + ((0 * 10 + d) * p + v)
spread n d p v = omega arith

-- digits behind a number
after_shift : (n : ℕ) (ds : List ℕ) → digits_value_after 10 n ds ≡ n * 10 ^ length ds + digits_value 10 ds
after_shift n [] = omega arith
after_shift n (c ∷ cs) =
    after_shift (n * 10 + digit_value c) cs
    ∙ spread n (digit_value c) (10 ^ length cs) (digits_value 10 cs)
    ∙ ap₂ (λ x y. n * x + y) (sym (tens (length cs))) (sym (after_shift (0 * 10 + digit_value c) cs))

times_tens : (n p : ℕ) → (n * 10 + 0) * p ≡ n * (10 * p)
times_tens n p = omega arith

zeros_value : (k n : ℕ) → digits_value_after 10 n (replicate k 48) ≡ n * 10 ^ k
zeros_value zero n = omega arith
zeros_value (suc k) n = zeros_value k (n * 10 + 0) ∙ times_tens n (10 ^ k) ∙ ap (λ x. n * x) (sym (tens k))

all_zeros : (k : ℕ) → AllDigits 10 (replicate k 48)
all_zeros zero = tt
all_zeros (suc k) = (omega arith, all_zeros k)

-- a one, digits, and zeros
abbrev padded : List ℕ → ℕ → List ℕ
padded ds k = 49 ∷ (ds ++ replicate k 48)

one_more : (p v q : ℕ) → (1 * p + v) * q ≡ p * q + v * q
one_more p v q = omega arith

padded_value : (ds : List ℕ) (k f : ℕ) → length ds + k ≡ 12 → digits_value 10 ds * 10 ^ k ≡ f → digits_value 10 (padded ds k) ≡ 10 ^ 12 + f
padded_value ds k f long is =
    after-append 1 ds (replicate k 48)
    ∙ zeros_value k (digits_value_after 10 1 ds)
    ∙ ap (λ x. x * 10 ^ k) (after_shift 1 ds)
    ∙ one_more (10 ^ length ds) (digits_value 10 ds) (10 ^ k)
    ∙ ap₂ (λ x y. x + y) (sym (pow-add 10 (length ds) k) ∙ ap (λ n. 10 ^ n) long) is

padded_digits : (ds : List ℕ) (k : ℕ) → AllDigits 10 ds → AllDigits 10 (padded ds k)
padded_digits ds k h = (omega arith, AllDigits-append ds (replicate k 48) h (all_zeros k))

padded_text : (ds : List ℕ) (k f : ℕ) → AllDigits 10 ds → length ds + k ≡ 12 → digits_value 10 ds * 10 ^ k ≡ f → f < 10 ^ 12 → decimal (10 ^ 12 + f) ≡ padded ds k
padded_text ds k f h long is low =
    let v = padded_value ds k f long is in
    let small : digits_value 10 (padded ds k) < 2 ^ 64 = omega (arith, v, low) in
    ap decimal (sym v) ∙ decimal-digits_value (numerals_by_value (AllDigits 10) tells_digits) (padded ds k) (padded_digits ds k h) (omega arith) (λ e. absurd (omega (arith, e))) small

-- zeros at the end are dropped
zeros_dropped : (k : ℕ) (ds : List ℕ) → without_zeros (reverse (ds ++ replicate k 48)) ≡ without_zeros (reverse ds)
zeros_dropped zero ds = ap (λ xs. without_zeros (reverse xs)) (append-nil ds)
zeros_dropped (suc k) ds =
    ap (λ xs. without_zeros (reverse xs)) (sym (append_assoc ds (48 ∷ []) (replicate k 48)))
    ∙ zeros_dropped k (ds ++ 48 ∷ [])
    ∙ ap without_zeros (reverse-append ds (48 ∷ []))

-- and where there are none, nothing is
kept_by : (b : Bool) (c : ℕ) (cs : List ℕ) → b ≡ false → cond b (without_zeros cs) (c ∷ cs) ≡ c ∷ cs
kept_by b c cs e = ap (λ (t : Bool). cond t (without_zeros cs) (c ∷ cs)) e

ends_in : (ds : List ℕ) (l : ℕ) → length ds ≡ suc l → ds ≡ take l ds ++ get_or ds l 0 ∷ []
ends_in ds l long = sym (take_all (l + 1) ds (omega (arith, long))) ∙ take_more ds l 0 (omega (arith, long))

nothing_dropped : (ds : List ℕ) (l : ℕ) → length ds ≡ l → get_or ds (l - 1) 0 ≢ 48 → without_zeros (reverse ds) ≡ reverse ds
nothing_dropped [] l long last = refl
nothing_dropped (d ∷ ds) zero long last = absurd (omega (arith, long))
nothing_dropped (d ∷ ds) (suc l) long last =
    let e = ends_in (d ∷ ds) l long in
    let r : reverse (d ∷ ds) ≡ get_or (d ∷ ds) l 0 ∷ reverse (take l (d ∷ ds)) = ap reverse e ∙ reverse-append (take l (d ∷ ds)) (get_or (d ∷ ds) l 0 ∷ []) in
    ap without_zeros r ∙ kept_by (get_or (d ∷ ds) l 0 == 48) (get_or (d ∷ ds) l 0) (reverse (take l (d ∷ ds))) (ne_eqb (get_or (d ∷ ds) l 0) 48 (λ q. last (ap (λ n. get_or (d ∷ ds) n 0) (omega arith) ∙ q))) ∙ sym r

-- the digits of a part of 10^12
pub decimals_are : (ds : List ℕ) (k f : ℕ) → AllDigits 10 ds → length ds + k ≡ 12 → digits_value 10 ds * 10 ^ k ≡ f → f < 10 ^ 12 → get_or ds (length ds - 1) 0 ≢ 48 → ds ≡ decimals f
decimals_are ds k f h long is low last =
    sym (reverse-reverse ds)
    ∙ ap reverse (sym (nothing_dropped ds (length ds) refl last))
    ∙ ap reverse (sym (zeros_dropped k ds))
    ∙ ap (λ xs. reverse (without_zeros (reverse (drop 1 xs)))) (sym (padded_text ds k f h long is low))

last_zero : (a b t : ℕ) → a * 10 + t ≡ b * 10 → t < 10 → t ≡ 0
last_zero a b t e low = omega (arith, e, low)

regroup : (w p d t : ℕ) → w * (10 * p) + (d * 10 + t) ≡ (w * p + d) * 10 + t
regroup w p d t = omega arith

shifted : (s q p : ℕ) → s * (q * (10 * p)) ≡ (s * p) * 10 * q
shifted s q p = omega arith

-- a cut size, and the size of a text by its whole part and its digits
pub record IsCutSize (whole size : ℕ) (ds : List ℕ) : Type 0 where
  pub digits : AllDigits 10 ds
  pub last : get_or ds (length ds - 1) 0 ≢ 48
  pub same : (whole * 10 ^ length ds + digits_value 10 ds) * 10 ^ 12 ≡ size * 10 ^ length ds

-- a text with more than twelve digits ends in 0
long_ends : (whole size l : ℕ) (ds : List ℕ) → IsCutSize whole size ds → length ds ≡ suc (12 + l) → ⊥
long_ends whole size l ds h long =
    let t = get_or ds (12 + l) 0 - 48 in
    let inside : 12 + l < length ds = omega (arith, long) in
    let value : digits_value 10 ds ≡ digits_value 10 (take (12 + l) ds) * 10 + t = ap (digits_value 10) (sym (take_all (12 + l + 1) ds (omega (arith, long)))) ∙ number_more ds (12 + l) h.digits inside in
    let places : 10 ^ length ds ≡ 10 * 10 ^ (12 + l) = ap (λ n. 10 ^ n) long ∙ tens (12 + l) in
    let more : length ds ≡ 12 + suc l = omega (arith, long) in
    let split : 10 ^ length ds ≡ 10 ^ 12 * (10 * 10 ^ l) = ap (λ n. 10 ^ n) more ∙ pow-add 10 12 (suc l) ∙ ap (λ x. 10 ^ 12 * x) (tens l) in
    let left : whole * 10 ^ length ds + digits_value 10 ds ≡ (whole * 10 ^ (12 + l) + digits_value 10 (take (12 + l) ds)) * 10 + t = ap₂ (λ x y. whole * x + y) places value ∙ regroup whole (10 ^ (12 + l)) (digits_value 10 (take (12 + l) ds)) t in
    let right : size * 10 ^ length ds ≡ (size * 10 ^ l) * 10 * 10 ^ 12 = ap (λ x. size * x) split ∙ shifted size (10 ^ 12) (10 ^ l) in
    let both : whole * 10 ^ length ds + digits_value 10 ds ≡ (size * 10 ^ l) * 10 = eq_of_mul-eq-mul_right (10 ^ 12) (ten_power 12) _ _ (h.same ∙ right) in
    let zero_last : t ≡ 0 = last_zero _ _ t (sym left ∙ both) (is_digit ds (12 + l) h.digits inside) in
    let range = digit_at ds (12 + l) h.digits inside in
    let at : length ds - 1 ≡ 12 + l = omega (arith, long) in
    let is_zero : get_or ds (12 + l) 0 ≡ 48 = omega (arith, zero_last, range) in
    h.last (ap (λ n. get_or ds n 0) at ∙ is_zero)

folded : (w p q v : ℕ) → (w * p + v) * (p * q) ≡ (w * (p * q) + v * q) * p
folded w p q v = omega arith

-- its whole part, and its digits
pub record AreParts (whole size : ℕ) (ds : List ℕ) : Type 0 where
  pub k : ℕ
  pub long : length ds + k ≡ 12
  pub sized : size ≡ whole * 10 ^ 12 + digits_value 10 ds * 10 ^ k
  pub low : digits_value 10 ds * 10 ^ k < 10 ^ 12

parts_of : (whole size k : ℕ) (ds : List ℕ) → IsCutSize whole size ds → length ds + k ≡ 12 → AreParts whole size ds
parts_of whole size k ds h long =
    let twelve : 10 ^ 12 ≡ 10 ^ length ds * 10 ^ k = ap (λ n. 10 ^ n) (sym long) ∙ pow-add 10 (length ds) k in
    let e : (whole * 10 ^ 12 + digits_value 10 ds * 10 ^ k) * 10 ^ length ds ≡ size * 10 ^ length ds =
    ap (λ x. (whole * x + digits_value 10 ds * 10 ^ k) * 10 ^ length ds) twelve ∙ sym (folded whole (10 ^ length ds) (10 ^ k) (digits_value 10 ds)) ∙ ap (λ x. (whole * 10 ^ length ds + digits_value 10 ds) * x) (sym twelve) ∙ h.same in
    record {
      k = k;
      long = long;
      sized = sym (eq_of_mul-eq-mul_right (10 ^ length ds) (ten_power (length ds)) _ _ e);
      low = subst (λ x. digits_value 10 ds * 10 ^ k < x) (sym twelve) (mul-lt-mul_of_pos_right {k = 10 ^ k} (digits_value-lt 10 ds h.digits) (ten_power k));
    }

by_length : (b : Bool) (whole size : ℕ) (ds : List ℕ) → IsCutSize whole size ds → leb (length ds) 12 ≡ b → AreParts whole size ds
by_length true whole size ds h e = parts_of whole size (12 - length ds) ds h (omega (arith, leb-true (length ds) 12 e))
by_length false whole size ds h e = absurd (long_ends whole size (length ds - 13) ds h (omega (arith, leb-false (length ds) 12 e)))

abbrev is_negative : ℤ → Bool
is_negative (pos n) = false
is_negative (negsuc n) = true

cut_signed : (z : ℤ) (d : ℕ) → cut12_of z d ≡ signed (is_negative z) (unsigned_abs z * 10 ^ 12 / d)
cut_signed (pos n) d = refl
cut_signed (negsuc n) d = refl

opposite : (a b : ℕ) → pos a ≡ neg_ℤ (pos b) → b ≡ 0
opposite a zero e = refl
opposite a (suc b) e = let h : pos a ≡ negsuc b = e in cc

no_size : (size p : ℕ) → 0 < p → size * p ≡ 0 → size ≡ 0
no_size size p up e = eq_of_mul-eq-mul_right p up size 0 (e ∙ omega arith)

-- the sign of a text is that of the number, unless it is cut to 0
sign_is : (negative : Bool) (z : ℤ) (d a p : ℕ) → 0 < p → (negative ≡ true → cut12_of z d ≢ pos 0)
    → signed negative a ≡ signed (is_negative z) (unsigned_abs z * 10 ^ 12 / d * p) → negative ≡ has_sign z (unsigned_abs z * 10 ^ 12 / d)
sign_is false (pos n) d a p up below e = refl
sign_is false (negsuc n) d a p up below e =
    let zero_size = no_size (suc n * 10 ^ 12 / d) p up (opposite a (suc n * 10 ^ 12 / d * p) e) in
    sym (ap (λ size. not (size == 0)) zero_size)
sign_is true (pos n) d a p up below e =
    let none : a ≡ 0 = opposite (n * 10 ^ 12 / d * p) a (sym e) in
    let zero_size = no_size (n * 10 ^ 12 / d) p up (let same : neg_ℤ (pos 0) ≡ pos (n * 10 ^ 12 / d * p) = ap (λ m. neg_ℤ (pos m)) (sym none) ∙ e in sym (ap unsigned_abs same)) in
    absurd (below refl (ap pos zero_size))
sign_is true (negsuc n) d a p up below e = sym (ap not (ne_eqb (suc n * 10 ^ 12 / d) 0 (λ zero_size. below refl (ap (λ m. neg_ℤ (pos m)) zero_size))))

-- all of a text
text_parts : (x : Ratio) (s : List ℕ) (p : PlainText s (cut12 x)) → AreParts p.whole (cut_size x) p.digits → p.is_negative ≡ has_sign x.num (cut_size x) → s ≡ cut_text x
text_parts x s p parts sign =
    let f = digits_value 10 p.digits * 10 ^ parts.k in
    let rest : cut_size x % 10 ^ 12 ≡ f = ap (λ n. n % 10 ^ 12) parts.sized ∙ mod-mul-add p.whole (10 ^ 12) f parts.low in
    let front : cut_size x / 10 ^ 12 ≡ p.whole = ap (λ n. n / 10 ^ 12) parts.sized ∙ div-mul-add p.whole (10 ^ 12) f parts.low in
    let shown : p.digits ≡ decimals (cut_size x % 10 ^ 12) = decimals_are p.digits parts.k f p.are_digits parts.long refl parts.low p.no_trailing_zero ∙ ap decimals (sym rest) in
    p.text
    ∙ ap (λ (b : Bool). optional 45 b ++ (decimal p.whole ++ point_text p.digits)) sign
    ∙ ap (λ w. optional 45 (has_sign x.num (cut_size x)) ++ (decimal w ++ point_text p.digits)) (sym front)
    ∙ ap (λ (ds : List ℕ). optional 45 (has_sign x.num (cut_size x)) ++ (decimal (cut_size x / 10 ^ 12) ++ point_text ds)) shown

pub plain_is_cut : (x : Ratio) (s : List ℕ) → PlainText s (cut12 x) → s ≡ cut_text x
plain_is_cut x s p =
    let n = p.whole * 10 ^ length p.digits + digits_value 10 p.digits in
    let signs : signed p.is_negative (n * 10 ^ 12) ≡ signed (is_negative x.num) (cut_size x * 10 ^ length p.digits) =
    sym (signed-mul p.is_negative n (10 ^ 12)) ∙ p.same ∙ ap (λ (y : ℤ). y *ℤ pos (10 ^ length p.digits)) (cut_signed x.num x.den) ∙ signed-mul (is_negative x.num) (cut_size x) (10 ^ length p.digits) in
    let sizes : n * 10 ^ 12 ≡ cut_size x * 10 ^ length p.digits =
    sym (unsigned_abs-signed p.is_negative (n * 10 ^ 12)) ∙ ap unsigned_abs signs ∙ unsigned_abs-signed (is_negative x.num) (cut_size x * 10 ^ length p.digits) in
    text_parts x s p (by_length (leb (length p.digits) 12) p.whole (cut_size x) p.digits (record { digits = p.are_digits; last = p.no_trailing_zero; same = sizes }) refl)
    (sign_is p.is_negative x.num x.den (n * 10 ^ 12) (10 ^ length p.digits) (ten_power (length p.digits)) p.below signs)
