-- A text of a ratio writes one number, and the text that is written of a ratio is one.
use Rattle.std.proofs.Common.{◌≡◌, ℕ, zero, suc, ◌+◌, ◌/◌, ◌%◌, ◌^◌, ◌<◌, ◌≤◌, inl, inr, Bool, true, false, ℤ, pos, negsuc, List, [], ◌∷◌, ◌++◌, length, refl, ap, sym, ◌∙◌, subst, arith, lit<, lit≤}
use Rattle.std.specs.Prelude.{unsigned_abs, decimal, Result, Ok, Err, IfOk, IfErr}
use Rattle.std.specs.Char.{digit_value}
use Rattle.std.specs.Fmt.{signed_decimal}
use Rattle.std.specs.Int.{IsGcd}
use Rattle.std.specs.Str.Parse.{AllDigits, digits_value}
use Rattle.std.proofs.lemmas.Bool.Decides.{eqb_tells}
use Rattle.std.proofs.lemmas.Fmt.{decimal_is_IsNumeral_wide, decimal_by_steps_wide, decimal_digit}
use Rattle.std.proofs.lemmas.List.{append-nil, length-append}
use Rattle.std.proofs.lemmas.Nat.Gcd.{dvd-zero, dvd_refl}
use Rattle.rational.specs.Ratio.{Ratio, whole}
use Rattle.rational.specs.Width.{most, IsReduced, IsWithin}
use Rattle.rational.specs.Whole.{signed}
use Rattle.rational.proofs.CommonDivisors.{coprime_from_IsGcd}
use Rattle.rational.proofs.ReducedForms.{one_number}
use Rattle.decimal_text.specs.Head.{HasNoDigit, DoesNotBegin}
use Rattle.decimal_text.specs.Sign.{optional}
use Rattle.decimal_text.specs.Exact.{IsPositive, Under, absent, over, under_text, under_value, IsUnder, QuotientText, RatioText, ratio_text, denominator_text}
use Rattle.fraction.specs.declared.frac.Frac.{Frac}
use Rattle.fraction.specs.Frac.{ratio}
use Rattle.fraction.proofs.Equality.{one_fraction}
use Rattle.decimal_text.specs.declared.fault.DecimalFault.{DecimalFault}
use Rattle.decimal_text.specs.declared.fault.DecimalFault.TheVariants.{NotNumber, Wide, NotDecimal, Memory}
use Rattle.decimal_text.specs.Fault.{RefusesRatio}

-- digits end where something else begins
pub split_once : (ds es u v : List ℕ) → AllDigits 10 ds → AllDigits 10 es → HasNoDigit u → HasNoDigit v → ds ++ u ≡ es ++ v → (ds ≡ es) × (u ≡ v)
split_once [] [] u v h k n m e = (refl, e)
split_once [] (d ∷ es) u v h k n m e = absurd (let g : HasNoDigit (d ∷ (es ++ v)) = subst (λ x. HasNoDigit x) e n in omega (arith, g, k.0))
split_once (d ∷ ds) [] u v h k n m e = absurd (let g : HasNoDigit (d ∷ (ds ++ u)) = subst (λ x. HasNoDigit x) (sym e) m in omega (arith, g, h.0))
split_once (d ∷ ds) (c ∷ es) u v h k n m e =
    let first : d ≡ c = cc in
    let rest : ds ++ u ≡ es ++ v = cc in
    let both = split_once ds es u v h.1 k.1 n m rest in
    (cc (both.0, first), both.1)

under_ends : (u : Under) → HasNoDigit (under_text u)
under_ends absent = tt
under_ends (over ds) = lit≤ tt

under_once : (u v : Under) → under_text u ≡ under_text v → under_value u ≡ under_value v
under_once absent absent e = refl
under_once absent (over ds) e = cc
under_once (over ds) absent e = cc
under_once (over ds) (over es) e = let k : ds ≡ es = cc in ap (λ x. digits_value 10 x) k

no_sign : (b : ℕ) (ds s : List ℕ) → digit_value b < 10 → b ∷ ds ≡ 45 ∷ s → ⊥
no_sign b ds s h e = let k : b ≡ 45 = cc in let v : digit_value b ≡ 36 = ap digit_value k in omega (arith, h, v)

sign_once : (a b : Bool) (ds es u v : List ℕ) → IsPositive ds → IsPositive es → optional 45 a ++ (ds ++ u) ≡ optional 45 b ++ (es ++ v) → (a ≡ b) × (ds ++ u ≡ es ++ v)
sign_once true true ds es u v h k e = (refl, cc)
sign_once false false ds es u v h k e = (refl, e)
sign_once true false ds [] u v h k e = absurd (omega (arith, k.0.0))
sign_once true false ds (d ∷ es) u v h k e = absurd (no_sign d (es ++ v) (ds ++ u) k.0.1.0 (sym e))
sign_once false true [] es u v h k e = absurd (omega (arith, h.0.0))
sign_once false true (d ∷ ds) es u v h k e = absurd (no_sign d (ds ++ u) (es ++ v) h.0.1.0 e)

quotient_once : (s : List ℕ) (x y : Ratio) → QuotientText s x → QuotientText s y → x ≡ y
quotient_once s x y a b =
    let signs = sign_once a.is_negative b.is_negative a.digits b.digits (under_text a.under) (under_text b.under) a.positive b.positive (sym a.text ∙ b.text) in
    let parts = split_once a.digits b.digits (under_text a.under) (under_text b.under) a.positive.0.1 b.positive.0.1 (under_ends a.under) (under_ends b.under) signs.1 in
    let num : x.num ≡ y.num = a.num ∙ (ap (λ n. signed n (digits_value 10 a.digits)) signs.0 ∙ (ap (λ n. signed b.is_negative (digits_value 10 n)) parts.0 ∙ sym b.num)) in
    let den : x.den ≡ y.den = a.den ∙ (under_once a.under b.under parts.1 ∙ sym b.den) in
    one_number x y num den

pub heads : (a b : ℕ) (s t : List ℕ) → a ∷ s ≡ b ∷ t → a ≡ b
heads a b s t e = cc

leading : (a : Bool) (ds u : List ℕ) → IsPositive ds → optional 45 a ++ (ds ++ u) ≡ 48 ∷ [] → ⊥
leading true ds u h e = let k = heads 45 48 (ds ++ u) [] e in omega (arith, k)
leading false [] u h e = omega (arith, h.0.0)
leading false (d ∷ ds) u h e = h.1 (heads d 48 (ds ++ u) [] e)

-- no quotient begins with a zero
no_zero : (s : List ℕ) (x : Ratio) → s ≡ 48 ∷ [] → QuotientText s x → ⊥
no_zero s x e a = leading a.is_negative a.digits (under_text a.under) a.positive (sym a.text ∙ e)

pub ratio_once : (s : List ℕ) (x y : Ratio) → RatioText s x → RatioText s y → x ≡ y
ratio_once s x y (inl a) (inl b) = a.1 ∙ sym b.1
ratio_once s x y (inl a) (inr b) = absurd (no_zero s y a.0 b)
ratio_once s x y (inr a) (inl b) = absurd (no_zero s x b.0 a)
ratio_once s x y (inr a) (inr b) = quotient_once s x y a b

abbrev Leads : ℕ → List ℕ → Type 0
Leads n ds = (0 < length ds) × (0 < n → DoesNotBegin 48 ds)

leads_on : (n : ℕ) (ds : List ℕ) → 10 ≤ n → Leads (n / 10) ds → Leads n (ds ++ (48 + n % 10) ∷ [])
leads_on n [] h k = absurd (omega (arith, k.0))
leads_on n (d ∷ ds) h k = (omega (arith, length-append (d ∷ ds) ((48 + n % 10) ∷ [])), λ _. k.1 (omega arith))

pub positive_decimal : (n : ℕ) → 0 < n → n ≤ most → IsPositive (decimal n)
positive_decimal n up small =
    let top : most < 10 ^ 64 = lit< tt in
    let low : n < 10 ^ 64 = omega (arith, small, top) in
    let numeral = decimal_is_IsNumeral_wide n low in
    let leads : Leads n (decimal n) = decimal_by_steps_wide Leads (λ m h. (lit< tt, λ k e. omega (arith, k, e))) leads_on n low in
    (numeral.0, leads.1 up)

decimal_value_of : (n : ℕ) → n ≤ most → digits_value 10 (decimal n) ≡ n
decimal_value_of n small = let top : most < 10 ^ 64 = lit< tt in let d = decimal_is_IsNumeral_wide n (omega (arith, small, top)) in d.1

-- what is written of a denominator
pub record IsWrittenUnder (d : ℕ) : Type 0 where
  pub under : Under
  pub text : denominator_text d ≡ under_text under
  pub good : IsUnder under
  pub value : d ≡ under_value under

written_under : (d : ℕ) → 0 < d → d ≤ most → IsWrittenUnder d
written_under d up small =
    elim (eqb_tells d 1) as (λ _. IsWrittenUnder d) [
      | inl one ↦ record { under = absent; text = rw one.0 refl; good = tt; value = one.1 }
      | inr more ↦
          let n = more.1 in
          let v = decimal_value_of d small in
          record { under = over (decimal d); text = rw more.0 refl; good = (positive_decimal d up small, let k : 2 ≤ d = omega (arith, n, up) in subst (λ m. 2 ≤ m) (sym v) k); value = sym v }
    ]

quotient_written : (x : Ratio) (is_negative : Bool) (n : ℕ) → 0 < n → n ≤ most → 0 < x.den → x.den ≤ most → x.num ≡ signed is_negative n → QuotientText (optional 45 is_negative ++ (decimal n ++ denominator_text x.den)) x
quotient_written x is_negative n up small above narrow e =
    let u = written_under x.den above narrow in
    record {
      is_negative = is_negative;
      digits = decimal n;
      under = u.under;
      text = ap (λ t. optional 45 is_negative ++ (decimal n ++ t)) u.text;
      positive = positive_decimal n up small;
      denominator = u.good;
      num = e ∙ ap (λ k. signed is_negative k) (sym (decimal_value_of n small));
      den = u.value;
    }

zero_whole : (x : Ratio) → IsReduced x → x.num ≡ pos 0 → x ≡ whole (pos 0)
zero_whole x r e =
    let size : unsigned_abs x.num ≡ 0 = ap unsigned_abs e in
    let coprime = coprime_from_IsGcd 0 x.den (subst (λ n. IsGcd n x.den 1) size r.1) in
    one_number x (whole (pos 0)) e (coprime x.den (dvd-zero x.den) (dvd_refl x.den))

written_by : (x : Ratio) (z : ℤ) → x.num ≡ z → IsReduced x → IsWithin x → RatioText (signed_decimal z ++ denominator_text x.den) x
written_by x (pos zero) e r w =
    let k = zero_whole x r e in
    inl (ap (λ d. decimal 0 ++ denominator_text d) (ap (λ y. y.den) k) ∙ (append-nil (decimal 0) ∙ decimal_digit 0 (lit< tt)), k)
written_by x (pos (suc n)) e r w = inr (quotient_written x false (suc n) (omega arith) (subst (λ m. m ≤ most) (ap unsigned_abs e) w.0) r.0 w.1 e)
written_by x (negsuc n) e r w = inr (quotient_written x true (suc n) (omega arith) (subst (λ m. m ≤ most) (ap unsigned_abs e) w.0) r.0 w.1 e)

pub written_ratio : (x : Ratio) → IsReduced x → IsWithin x → RatioText (ratio_text x) x
written_ratio x r w = written_by x x.num refl r w

fraction_text : (x : Frac) → RatioText (ratio_text (ratio x)) (ratio x)
fraction_text x = written_ratio (ratio x) (x.above, x.reduced) (x.numer_within, x.denom_within)

ratio_refused : (x : Frac) (e : DecimalFault) → RefusesRatio (ratio_text (ratio x)) e → ⊥
ratio_refused x (NotNumber at) (inl h) = h.outside (ratio x, fraction_text x)
ratio_refused x (NotNumber at) (inr h) = let u = h.1 in u.1.2 (subst (λ y. IsReduced y) (ratio_once _ (ratio x) u.0 (fraction_text x) u.1.0) (x.above, x.reduced))
ratio_refused x Wide h = h.1.1 (subst (λ y. IsWithin y) (ratio_once _ (ratio x) h.0 (fraction_text x) h.1.0) (x.numer_within, x.denom_within))
ratio_refused x NotDecimal h = h
ratio_refused x Memory h = h

pub ratio_read_back : (x : Frac) (r : Result Frac DecimalFault) → IfOk r (λ y. RatioText (ratio_text (ratio x)) (ratio y)) → IfErr r (RefusesRatio (ratio_text (ratio x))) → r ≡ Ok x
ratio_read_back x (Ok y) h k = ap (λ z. Ok z) (one_fraction y x (ratio_once _ (ratio y) (ratio x) h (fraction_text x)))
ratio_read_back x (Err e) h k = absurd (ratio_refused x e k)
