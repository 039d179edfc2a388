-- Decimals that are written whole, and read again.
use Rattle.std.proofs.Common.{◌≡◌, ◌≢◌, ℕ, zero, suc, ◌+◌, ◌-◌, ◌*◌, ◌/◌, ◌%◌, ◌^◌, ◌<◌, ◌≤◌, ◌⊎◌, inl, inr, Bool, true, false, ℤ, pos, negsuc, List, [], ◌∷◌, ◌++◌, length, refl, ap, sym, ◌∙◌, subst, arith, lit<, lit≤}
use Rattle.std.specs.Prelude.{unsigned_abs, decimal, reverse, slice_index}
use Rattle.std.specs.Char.{digit_value}
use Rattle.std.specs.Str.Parse.{AllDigits, IsNumeral, digits_value, digits_value_after}
use Rattle.std.proofs.Math.Nat.{eq_of_mul-eq-mul_right, mul-mod_left, div-add-mod', le-mul_of_pos_right}
use Rattle.std.proofs.lemmas.Bool.Decides.{eqb_tells}
use Rattle.std.proofs.lemmas.Bool.{ne_eqb}
use Rattle.std.proofs.lemmas.Fmt.{decimal_is_IsNumeral_wide}
use Rattle.std.proofs.lemmas.List.{append-nil, length-append, reverse-append, reverse-reverse}
use Rattle.std.proofs.lemmas.Nat.{pow-add, mod-mul-add}
use Rattle.std.proofs.lemmas.Str.Parse.{digit_from_value}
use Rattle.rational.specs.Ratio.{Ratio, IsSame}
use Rattle.rational.specs.Width.{most}
use Rattle.rational.specs.Whole.{signed}
use Rattle.rational.proofs.Scaling.{IsSame-trans}
use Rattle.rational.proofs.Signs.{same_form, sizes_cross, unsigned_abs-signed}
use Rattle.decimal_text.specs.Sign.{absent, minus, optional}
use Rattle.decimal_text.specs.Space.{is_space, without_leading_space, trimmed}
use Rattle.decimal_text.specs.Plain.{point_text, PlainText}
use Rattle.decimal_text.specs.Places.{HasPlaces}
use Rattle.decimal_text.specs.Decimal.{Mantissa, plain, pointed, mantissa_text, mantissa_digits, places, none, scientific, ShortestForm, IsNarrow, HasFit, DecimalText, IsDecimal}
use Rattle.decimal_text.proofs.Numerals.{AllDigits-append, after-append}
use Rattle.decimal_text.proofs.Powers.{ten_power, ten_more, near}

-- a size at whose quotient nothing is decimal is no decimal that fits
no_form : (x : Ratio) (negative : Bool) (n : ℕ) (k : ℤ) → IsSame x (scientific negative n k) → (unsigned_abs (scientific negative n k).num ≤ most) × ((scientific negative n k).den ≤ most) → ((m j : ℕ) → m ≤ most → 10 ^ j ≤ most → unsigned_abs x.num * 10 ^ j ≡ m * x.den → ⊥) → ⊥
no_form x negative n (pos k) same w refused =
    let size = unsigned_abs-signed negative (n * 10 ^ k) in
    refused (n * 10 ^ k) 0 (subst (λ m. m ≤ most) size w.0) (lit≤ tt) (sizes_cross x (scientific negative n (pos k)) same ∙ ap (λ m. m * x.den) size)
no_form x negative n (negsuc k) same w refused =
    let size = unsigned_abs-signed negative n in
    refused n (suc k) (subst (λ m. m ≤ most) size w.0) w.1 (sizes_cross x (scientific negative n (negsuc k)) same ∙ ap (λ m. m * x.den) size)

pub no_text : (x : Ratio) → ((m j : ℕ) → m ≤ most → 10 ^ j ≤ most → unsigned_abs x.num * 10 ^ j ≡ m * x.den → ⊥) → (text : List ℕ) → IsDecimal text x → ⊥
no_text x refused text d =
    let f = d.fit.form in
    let high : 0 < d.written.den = subst (λ w. 0 < w.den) (sym d.read.value) (ten_power _) in
    no_form x f.negative f.n f.k (IsSame-trans x d.written (scientific f.negative f.n f.k) high d.fit.same (sym f.same)) d.fit.fits refused

-- the last rest of a decimal with few enough places is 0
rest_gone : (a v n den left : ℕ) → left < den → (a + v) * den + left ≡ n * den → left ≡ 0
rest_gone a v n den left low e = sym (mod-mul-add (a + v) den left low) ∙ (ap (λ x. x % den) e ∙ mul-mod_left n den)

abbrev n_times : ℕ → ℕ → ℕ
n_times n k = n * 10 ^ k

scale : (size a b n den : ℕ) → size * a ≡ n * den → size * (a * b) ≡ n * b * den
scale size a b n den e = omega (arith, ap (λ x. x * b) e)

cancel : (size whole den v w left t b all : ℕ) → 0 < b → (whole * all + v) * den + left ≡ size * all → left ≡ 0 → v ≡ w * b → all ≡ t * b → (whole * t + w) * den ≡ size * t
cancel size whole den v w left t b all up e gone z split =
    let wide : (whole * t + w) * den * b ≡ size * t * b = omega (arith, e, gone, ap (λ x. x * den) z, ap (λ x. size * x) split, ap (λ x. whole * x * den) split) in
    eq_of_mul-eq-mul_right b up ((whole * t + w) * den) (size * t) wide

-- the size by what is written of it
pub exact_size : (size den v w left used : ℕ) → HasPlaces size den → left < den → size % den * 10 ^ 38 ≡ v * den + left → used ≤ 38 → v ≡ w * 10 ^ (38 - used) → (size / den * 10 ^ used + w) * den ≡ size * 10 ^ used
exact_size size den v w left used h low e inside z =
    let whole : size / den * den + size % den ≡ size = div-add-mod' size den in
    let all : (size / den * 10 ^ 38 + v) * den + left ≡ size * 10 ^ 38 = omega (arith, e, ap (λ x. x * 10 ^ 38) whole) in
    let more : 10 ^ 38 ≡ 10 ^ h.places * 10 ^ (38 - h.places) = ap (λ k. 10 ^ k) (let k : 38 ≡ h.places + (38 - h.places) = omega (arith, h.near) in k) ∙ pow-add 10 h.places (38 - h.places) in
    let even : size * 10 ^ 38 ≡ n_times h.n (38 - h.places) * den = ap (λ x. size * x) more ∙ scale size (10 ^ h.places) (10 ^ (38 - h.places)) h.n den h.same in
    let gone : left ≡ 0 = rest_gone (size / den * 10 ^ 38) v (n_times h.n (38 - h.places)) den left low (all ∙ even) in
    let split : 10 ^ 38 ≡ 10 ^ used * 10 ^ (38 - used) = ap (λ k. 10 ^ k) (let k : 38 ≡ used + (38 - used) = omega (arith, inside) in k) ∙ pow-add 10 used (38 - used) in
    cancel size (size / den) den v w left (10 ^ used) (10 ^ (38 - used)) (10 ^ 38) (ten_power (38 - used)) all gone z split

-- a number as a size and the zeros behind it
pub record IsTens (n : ℕ) : Type 0 where
  pub size : ℕ
  pub zeros : ℕ
  pub value : n ≡ size * 10 ^ zeros
  pub short : (size % 10 ≢ 0) ⊎ ((size ≡ 0) × (zeros ≡ 0))

tens_by : (fuel n : ℕ) → n < fuel → IsTens n
tens_by zero n h = absurd (omega (arith, h))
tens_by (suc fuel) n h =
    elim (eqb_tells (n % 10) 0) as (λ _. IsTens n) [
      | inr odd ↦ record { size = n; zeros = 0; value = omega arith; short = inl odd.1 }
      | inl even ↦ elim (eqb_tells n 0) as (λ _. IsTens n) [
        | inl nought ↦ record { size = 0; zeros = 0; value = nought.1; short = inr (refl, refl) }
        | inr some ↦
            let whole : n / 10 * 10 + n % 10 ≡ n = div-add-mod' n 10 in
            let exact : n ≡ n / 10 * 10 = let z = even.1 in omega (arith, whole, z) in
            let t : IsTens (n / 10) = tens_by fuel (n / 10) (let k = some.1 in omega (arith, exact, k, h)) in
            record {
              size = t.size;
              zeros = t.zeros + 1;
              value = omega (arith, exact, t.value, ap (λ x. t.size * x) (ten_more t.zeros));
              short = elim t.short as (λ _. (t.size % 10 ≢ 0) ⊎ ((t.size ≡ 0) × (t.zeros + 1 ≡ 0))) [ inl k ↦ inl k | inr k ↦ absurd (let z = some.1 in let v : n / 10 ≡ 0 * 10 ^ t.zeros = t.value ∙ ap (λ x. x * 10 ^ t.zeros) k.0 in z (omega (arith, exact, v))) ];
            }
      ]
    ]

-- a signed size over a denominator that has few places has a form that fits
pub record FittingForm (x : Ratio) : Type 0 where
  pub form : ShortestForm x
  pub narrow : IsNarrow form

short_pos : (n k : ℕ) → (n % 10 ≢ 0) ⊎ ((n ≡ 0) × (k ≡ 0)) → (n % 10 ≢ 0) ⊎ ((n ≡ 0) × (pos k ≡ pos 0))
short_pos n k (inl h) = inl h
short_pos n k (inr h) = inr (h.0, ap (λ z. pos z) h.1)

form_of : (negative : Bool) (size den places n : ℕ) → size * 10 ^ places ≡ n * den → n ≤ most → places ≤ 38 → (places ≡ 0) ⊎ (n % 10 ≢ 0) → FittingForm (record { num = signed negative size; den = den })
form_of negative size den (suc q) n e small close (inl h) = absurd (omega (arith, h))
form_of negative size den (suc q) n e small close (inr h) = record {
  form = record { negative = negative; n = n; k = negsuc q; shortest = inl h; same = same_form negative n (10 ^ suc q) size den (sym e) };
  narrow = (subst (λ m. m ≤ most) (sym (unsigned_abs-signed negative n)) small, near (suc q) close);
}
form_of negative size den zero n e small close h =
    let t : IsTens n = tens_by (suc n) n (omega arith) in
    let cross : t.size * 10 ^ t.zeros * den ≡ size * 1 = omega (arith, e, ap (λ x. x * den) t.value) in
    record {
      form = record { negative = negative; n = t.size; k = pos t.zeros; shortest = short_pos t.size t.zeros t.short; same = same_form negative (t.size * 10 ^ t.zeros) 1 size den cross };
      narrow = (subst (λ m. m ≤ most) (t.value ∙ sym (unsigned_abs-signed negative (t.size * 10 ^ t.zeros))) small, lit≤ tt);
    }

-- a number is as well written as one that is the same
pub has_fit : (x w : Ratio) (negative : Bool) (size den : ℕ) → HasPlaces size den → 0 < den → x ≡ record { num = signed negative size; den = den } → IsSame w x → HasFit w x
has_fit x w negative size den h up e same =
    let f : FittingForm x = subst (λ y. FittingForm y) (sym e) (form_of negative size den h.places h.n h.same h.small h.near h.least) in
    let high : 0 < x.den = subst (λ y. 0 < y.den) (sym e) up in
    record {
      number = high;
      same = sym same;
      form = record { negative = f.form.negative; n = f.form.n; k = f.form.k; shortest = f.form.shortest; same = IsSame-trans (scientific f.form.negative f.form.n f.form.k) x w high f.form.same (sym same) };
      fits = f.narrow;
    }

-- no byte of the text is white space
abbrev pub IsUnspaced : List ℕ → Type 0
IsUnspaced [] = Unit {0}
IsUnspaced (b ∷ s) = (is_space b ≡ false) × IsUnspaced s

unspaced-append : (s t : List ℕ) → IsUnspaced s → IsUnspaced t → IsUnspaced (s ++ t)
unspaced-append [] t h k = k
unspaced-append (b ∷ s) t h k = (h.0, unspaced-append s t h.1 k)

unspaced-reverse : (s : List ℕ) → IsUnspaced s → IsUnspaced (reverse s)
unspaced-reverse [] h = tt
unspaced-reverse (b ∷ s) h = subst (λ t. IsUnspaced t) (sym (reverse-append (b ∷ []) s)) (unspaced-append (reverse s) (b ∷ []) (unspaced-reverse s h.1) (h.0, tt))

none_leading : (s : List ℕ) → IsUnspaced s → without_leading_space s ≡ s
none_leading [] h = refl
none_leading (b ∷ s) h = rw h.0 refl

pub unspaced_trimmed : (s : List ℕ) → IsUnspaced s → trimmed s ≡ s
unspaced_trimmed s h =
    ap (λ t. reverse (without_leading_space (reverse t))) (none_leading s h) ∙ (ap reverse (none_leading (reverse s) (unspaced-reverse s h)) ∙ reverse-reverse s)

pub digits_unspaced : (ds : List ℕ) → AllDigits 10 ds → IsUnspaced ds
digits_unspaced [] h = tt
digits_unspaced (d ∷ ds) h =
    let r = digit_from_value d h.0 in
    (rw (ne_eqb d 32 (λ e. omega (arith, e, r)), ne_eqb d 9 (λ e. omega (arith, e, r)), ne_eqb d 10 (λ e. omega (arith, e, r)), ne_eqb d 13 (λ e. omega (arith, e, r))) refl, digits_unspaced ds h.1)

pub after_split : (n : ℕ) (ds : List ℕ) → digits_value_after 10 n ds ≡ n * 10 ^ length ds + digits_value 10 ds
after_split n [] = omega arith
after_split n (d ∷ ds) =
    let power : 10 ^ suc (length ds) ≡ 10 ^ length ds * 10 = ap (λ k. 10 ^ k) (let e : suc (length ds) ≡ length ds + 1 = omega arith in e) ∙ ten_more (length ds) in
    omega (arith, after_split (n * 10 + digit_value d) ds, after_split (0 * 10 + digit_value d) ds, ap (λ x. n * x) power)

abbrev mantissa_for : List ℕ → List ℕ → Mantissa
mantissa_for whole [] = plain whole
mantissa_for whole (d ∷ ds) = pointed whole (d ∷ ds)

mantissa_written : (whole ds : List ℕ) → whole ++ point_text ds ≡ mantissa_text (mantissa_for whole ds) ++ []
mantissa_written whole [] = refl
mantissa_written whole (d ∷ ds) = sym (append-nil (whole ++ 46 ∷ d ∷ ds))

mantissa_value : (n : ℕ) (whole ds : List ℕ) → digits_value 10 whole ≡ n → digits_value 10 (mantissa_digits (mantissa_for whole ds)) * 10 ^ 0 ≡ n * 10 ^ length ds + digits_value 10 ds
mantissa_value n whole [] e = omega (arith, e)
mantissa_value n whole (d ∷ ds) e = omega (arith, after-append 0 whole (d ∷ ds), after_split (digits_value 10 whole) (d ∷ ds), ap (λ x. x * 10 ^ length (d ∷ ds)) e)

mantissa_places : (whole ds : List ℕ) → places (mantissa_for whole ds) + 0 ≡ length ds
mantissa_places whole [] = refl
mantissa_places whole (d ∷ ds) = omega arith

mantissa_numeral : (whole ds : List ℕ) → IsNumeral 10 whole → AllDigits 10 ds → IsNumeral 10 (mantissa_digits (mantissa_for whole ds))
mantissa_numeral whole [] h k = h
mantissa_numeral whole (d ∷ ds) h k = (omega (arith, h.0, length-append whole (d ∷ ds)), AllDigits-append whole (d ∷ ds) h.1 k)

-- the number of a whole part and digits
abbrev pub plain_value : Bool → ℕ → List ℕ → Ratio
plain_value is_negative whole ds = record { num = signed is_negative (whole * 10 ^ length ds + digits_value 10 ds); den = 10 ^ length ds }

abbrev over_ten : Bool → ℕ → ℕ → Ratio
over_ten negative a m = record { num = signed negative a; den = 10 ^ m }

value_eq : (negative : Bool) (a b m k : ℕ) → a ≡ b → m ≡ k → over_ten negative a m ≡ over_ten negative b k
value_eq negative a b m k e f = ap (λ x. over_ten negative x m) e ∙ ap (λ x. over_ten negative b x) f

pub reads_plain : (is_negative : Bool) (whole : ℕ) (ds s : List ℕ) → whole < 10 ^ 64 → AllDigits 10 ds → s ≡ optional 45 is_negative ++ (decimal whole ++ point_text ds) → DecimalText s (plain_value is_negative whole ds)
reads_plain true whole ds s low h e =
    let d = decimal_is_IsNumeral_wide whole low in
    record {
      sign = minus;
      mantissa = mantissa_for (decimal whole) ds;
      exponent = none;
      text = e ∙ ap (λ x. 45 ∷ x) (mantissa_written (decimal whole) ds);
      numeral = mantissa_numeral (decimal whole) ds d.0 h;
      powers = tt;
      value = value_eq true _ _ _ _ (sym (mantissa_value whole (decimal whole) ds d.1)) (sym (mantissa_places (decimal whole) ds));
    }
reads_plain false whole ds s low h e =
    let d = decimal_is_IsNumeral_wide whole low in
    record {
      sign = absent;
      mantissa = mantissa_for (decimal whole) ds;
      exponent = none;
      text = e ∙ mantissa_written (decimal whole) ds;
      numeral = mantissa_numeral (decimal whole) ds d.0 h;
      powers = tt;
      value = value_eq false _ _ _ _ (sym (mantissa_value whole (decimal whole) ds d.1)) (sym (mantissa_places (decimal whole) ds));
    }

point_unspaced : (ds : List ℕ) → AllDigits 10 ds → IsUnspaced (point_text ds)
point_unspaced [] h = tt
point_unspaced (d ∷ ds) h = (refl, digits_unspaced (d ∷ ds) h)

pub plain_unspaced : (is_negative : Bool) (whole : ℕ) (ds : List ℕ) → whole < 10 ^ 64 → AllDigits 10 ds → IsUnspaced (optional 45 is_negative ++ (decimal whole ++ point_text ds))
plain_unspaced true whole ds low h = (refl, unspaced-append (decimal whole) (point_text ds) (digits_unspaced (decimal whole) (let d = decimal_is_IsNumeral_wide whole low in d.0.1)) (point_unspaced ds h))
plain_unspaced false whole ds low h = unspaced-append (decimal whole) (point_text ds) (digits_unspaced (decimal whole) (let d = decimal_is_IsNumeral_wide whole low in d.0.1)) (point_unspaced ds h)

-- what is written of a decimal is read as its value
pub reads_back : (x : Ratio) (is_negative : Bool) (size den whole : ℕ) (ds : List ℕ) → HasPlaces size den → 0 < den → x ≡ record { num = signed is_negative size; den = den } → whole < 10 ^ 64 → AllDigits 10 ds → IsSame (plain_value is_negative whole ds) x → IsDecimal (optional 45 is_negative ++ (decimal whole ++ point_text ds)) x
reads_back x is_negative size den whole ds h up e low digits same =
    let s = optional 45 is_negative ++ (decimal whole ++ point_text ds) in
    record {
      written = plain_value is_negative whole ds;
      read = subst (λ t. DecimalText t (plain_value is_negative whole ds)) (sym (unspaced_trimmed s (plain_unspaced is_negative whole ds low digits))) (reads_plain is_negative whole ds s low digits refl);
      fit = has_fit x (plain_value is_negative whole ds) is_negative size den h up e same;
    }

pub exact_same : (is_negative : Bool) (size den w : ℕ) (ds : List ℕ) → w * den ≡ size * 10 ^ length ds → IsSame (record { num = signed is_negative w; den = 10 ^ length ds }) (record { num = signed is_negative size; den = den })
exact_same is_negative size den w ds e = same_form is_negative w (10 ^ length ds) size den e

pub whole_low : (size den : ℕ) → size ≤ most → 0 < den → size / den < 10 ^ 64
whole_low size den small up =
    let high : most < 10 ^ 64 = lit< tt in
    let part : size / den ≤ size / den * den = le-mul_of_pos_right (size / den) up in
    omega (arith, div-add-mod' size den, part, small, high)

-- the text of a decimal, by the parts that were written
abbrev pub plain_of : (x : Ratio) (is_negative : Bool) (size den : ℕ) (shown : List ℕ) → x ≡ record { num = signed is_negative size; den = den } → AllDigits 10 shown → (slice_index shown (length shown - 1) ≢ 48) → (is_negative ≡ true → x.num ≢ pos 0) → (size / den * 10 ^ length shown + digits_value 10 shown) * den ≡ size * 10 ^ length shown → PlainText (optional 45 is_negative ++ (decimal (size / den) ++ point_text shown)) x
plain_of x is_negative size den shown e digits last below exact = record {
  is_negative = is_negative;
  whole = size / den;
  digits = shown;
  text = refl;
  are_digits = digits;
  no_trailing_zero = last;
  below = below;
  same = subst (λ y. IsSame (plain_value is_negative (size / den) shown) y) (sym e) (exact_same is_negative size den _ shown exact);
}
