-- Numbers are read as they are written.
use Rattle.std.proofs.Common.{◌≡◌, ℕ, suc, ◌^◌, ◌<◌, ◌≤◌, ℤ, pos, negsuc, List, ◌∷◌, ap, refl, sym, subst, arith, lit<, true, false}
use Rattle.std.specs.Prelude.{unsigned_abs, decimal, Result, Ok, Err, IfOk, IfErr}
use Rattle.std.specs.Fmt.{signed_decimal}
use Rattle.std.specs.Str.Parse.{IsNumeral, digits_value}
use Rattle.std.proofs.lemmas.Fmt.{decimal_is_IsNumeral_wide}
use Rattle.rational.specs.Ratio.{Ratio, IsSame}
use Rattle.rational.specs.Whole.{signed}
use Rattle.rational.proofs.Scaling.{IsSame-trans}
use Rattle.fraction.specs.declared.frac.Frac.{Frac}
use Rattle.fraction.specs.Frac.{ratio}
use Rattle.decimal_text.specs.declared.fault.DecimalFault.{DecimalFault}
use Rattle.decimal_text.specs.declared.fault.DecimalFault.TheVariants.{NotNumber, Wide, NotDecimal, Memory}
use Rattle.decimal_text.specs.Fault.{RefusesText}
use Rattle.decimal_text.specs.Sign.{absent, minus}
use Rattle.decimal_text.specs.Space.{trimmed}
use Rattle.decimal_text.specs.Plain.{PlainText}
use Rattle.decimal_text.specs.Count.{CountGrammar, IsCount, IsWideCount, most_count}
use Rattle.decimal_text.specs.Whole.{WholeGrammar, IsWholeText, IsWideWhole}
use Rattle.decimal_text.specs.Decimal.{DecimalText, IsDecimal, HasFit, scientific}
use Rattle.decimal_text.proofs.OneDecimal.{written_above}
use Rattle.decimal_text.proofs.OneNumber.{count_once, count_fits, whole_once, whole_fits}
use Rattle.decimal_text.proofs.PlainTexts.{plain_whole}
use Rattle.decimal_text.proofs.WholeDecimals.{IsUnspaced, unspaced_trimmed, digits_unspaced, plain_unspaced, reads_plain, plain_value}

-- the digits of a number, and what they say
record AreDigitsOf (n : ℕ) : Type 0 where
  unspaced : IsUnspaced (decimal n)
  numeral : IsNumeral 10 (decimal n)
  value : n ≡ digits_value 10 (decimal n)

digits_of : (n : ℕ) → n ≤ most_count → AreDigitsOf n
digits_of n small =
    let top : most_count < 10 ^ 64 = lit< tt in
    let is = decimal_is_IsNumeral_wide n (omega (arith, top, small)) in
    record { unspaced = digits_unspaced (decimal n) is.0.1; numeral = is.0; value = sym is.1 }

pub count_read : (n : ℕ) → n ≤ most_count → IsCount (decimal n) n
count_read n small = let is = digits_of n small in (record { has_plus = false; digits = decimal n; text = unspaced_trimmed (decimal n) is.unspaced; numeral = is.numeral; value = is.value }, small)

count_refused : (text : List ℕ) (n : ℕ) (e : DecimalFault) → IsCount text n → RefusesText CountGrammar (IsWideCount text) (trimmed text) e → ⊥
count_refused text n (NotNumber at) is h = h.outside (n, is.0)
count_refused text n Wide is h = count_fits text n is h
count_refused text n NotDecimal is h = h
count_refused text n Memory is h = h

pub count_read_back : (n : ℕ) (r : Result ℕ DecimalFault) → n ≤ most_count → IfOk r (λ m. IsCount (decimal n) m) → IfErr r (RefusesText CountGrammar (IsWideCount (decimal n)) (trimmed (decimal n))) → r ≡ Ok n
count_read_back n (Ok m) small h k = ap (λ x. Ok x) (count_once (decimal n) m n h (count_read n small))
count_read_back n (Err e) small h k = absurd (count_refused (decimal n) n e (count_read n small) k)

whole_value : (n size : ℕ) → suc n ≡ size → negsuc n ≡ signed true size
whole_value n size same = ap (λ m. signed true m) same

pub whole_read : (z : ℤ) → unsigned_abs z ≤ most_count → IsWholeText (signed_decimal z) z
whole_read (pos n) small = let is = digits_of n small in (record { sign = absent; digits = decimal n; text = unspaced_trimmed (decimal n) is.unspaced; numeral = is.numeral; value = ap pos is.value }, small)
whole_read (negsuc n) small =
    let is = digits_of (suc n) small in
    (record { sign = minus; digits = decimal (suc n); text = unspaced_trimmed (45 ∷ decimal (suc n)) (refl, is.unspaced); numeral = is.numeral; value = whole_value n (digits_value 10 (decimal (suc n))) is.value }, small)

whole_refused : (text : List ℕ) (z : ℤ) (e : DecimalFault) → IsWholeText text z → RefusesText WholeGrammar (IsWideWhole text) (trimmed text) e → ⊥
whole_refused text z (NotNumber at) is h = h.outside (z, is.0)
whole_refused text z Wide is h = whole_fits text z is h
whole_refused text z NotDecimal is h = h
whole_refused text z Memory is h = h

pub whole_read_back : (z : ℤ) (r : Result ℤ DecimalFault) → unsigned_abs z ≤ most_count → IfOk r (λ y. IsWholeText (signed_decimal z) y) → IfErr r (RefusesText WholeGrammar (IsWideWhole (signed_decimal z)) (trimmed (signed_decimal z))) → r ≡ Ok z
whole_read_back z (Ok y) small h k = ap (λ x. Ok x) (whole_once (signed_decimal z) y z h (whole_read z small))
whole_read_back z (Err e) small h k = absurd (whole_refused (signed_decimal z) z e (whole_read z small) k)

-- a number is as well read from any text that writes the same
has_fit : (x written w : Ratio) → 0 < w.den → HasFit w x → IsSame written x → HasFit written x
has_fit x written w up fit same = record {
  number = fit.number;
  same = sym same;
  form = record {
    negative = fit.form.negative;
    n = fit.form.n;
    k = fit.form.k;
    shortest = fit.form.shortest;
    same = IsSame-trans (scientific fit.form.negative fit.form.n fit.form.k) x written fit.number (IsSame-trans (scientific fit.form.negative fit.form.n fit.form.k) w x up fit.form.same (sym fit.same)) (sym same);
  };
  fits = fit.fits;
}

pub plain_decimal : (x : Frac) (text : List ℕ) → PlainText text (ratio x) → (other : List ℕ) → IsDecimal other (ratio x) → IsDecimal text (ratio x)
plain_decimal x text plain other is =
    let small : plain.whole < 10 ^ 64 = plain_whole x text plain in
    let value = plain_value plain.is_negative plain.whole plain.digits in
    let unspaced : IsUnspaced text = subst IsUnspaced (sym plain.text) (plain_unspaced plain.is_negative plain.whole plain.digits small plain.are_digits) in
    record {
      written = value;
      read = subst (λ (t : List ℕ). DecimalText t value) (sym (unspaced_trimmed text unspaced)) (reads_plain plain.is_negative plain.whole plain.digits text small plain.are_digits plain.text);
      fit = has_fit (ratio x) value is.written (written_above (trimmed other) is.written is.read) is.fit plain.same;
    }
